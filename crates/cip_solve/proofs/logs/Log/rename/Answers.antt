use Rattle.std.proofs.lemmas.Grind.{common_steps}
use Rattle.std.proofs.Common.{◌<◌, length, rules, arith}
use Rattle.cip_solve.proofs.Renamed.{next_renamed}
use Rattle.cip_solve.proofs.logs.Log.rename.Goals as goal

pub loop-place-preserved : goal.loop-place-preserved
loop-place-preserved c =
    let below : c.loop-place.place < length c.loop-place.self.taken.items = search rules in
    record {
      renamed = next_renamed c.args.numbers.now c.args.self.now.taken.items c.loop-place.self.taken.items c.loop-place.place c.loop-place.invariant.renamed below
          c.index_mut.result.now c.index.result.now c.renamed_end-end.result c.index_mut.ensures.value c.index.ensures c.renamed_end-end.ensures;
      marks = c.loop-place.invariant.marks;
    }

pub returns-clause-taken : goal.returns-clause-taken
returns-clause-taken c = grind (arith, common_steps)

pub index_mut-requires : goal.index_mut-requires
index_mut-requires c = grind (arith, common_steps)

pub index-requires : goal.index-requires
index-requires c = grind (arith, common_steps)

pub returns-clause-marks : goal.returns-clause-marks
returns-clause-marks c = grind (arith, common_steps)

pub loop-place-init : goal.loop-place-init
loop-place-init c = grind (arith, common_steps)
