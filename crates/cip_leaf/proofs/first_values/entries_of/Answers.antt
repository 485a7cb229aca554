use Rattle.cip_leaf.proofs.ListSteps.{entries_more, terms_more}
use Rattle.std.proofs.lemmas.Grind.{common_steps}
use Rattle.std.proofs.Common.{arith}
use Rattle.cip_leaf.proofs.first_values.entries_of.Goals as goal

pub loop-r-init : goal.loop-r-init
loop-r-init c = grind (arith, common_steps)

pub returns : goal.returns
returns c = grind (arith, common_steps)

pub bounds-rows-r : goal.bounds-rows-r
bounds-rows-r c = grind (arith, common_steps)

pub offset_bounds-rows-r : goal.offset_bounds-rows-r
offset_bounds-rows-r c = grind (arith, common_steps)

pub overflow_cast-r : goal.overflow_cast-r
overflow_cast-r c = grind (arith, common_steps)

pub loop-r-preserved : goal.loop-r-preserved
loop-r-preserved c =
    let rows = c.args.rows.now in
    let row = c.index-rows-r.result in
    record {
      entries = entries_more rows c.loop-r.r row c.terms.result.now c.loop-r.entries.items c.put_entries.new.entries.items c.loop-r-test.true
          c.index-rows-r.is c.terms.ensures.terms c.loop-r.invariant.entries c.in_ok-put_entries.ensures;
      valid = terms_more rows c.loop-r.r row c.loop-r-test.true c.index-rows-r.is c.loop-r.invariant.valid c.terms.ensures.valid;
    }
