use Rattle.std.proofs.lemmas.Grind.{common_steps}
use Rattle.std.proofs.Common.{◌∙◌, arith}
use Rattle.cip_report.proofs.WritingLemmas.{joined_passes, joined_fails}
use Rattle.cip_report.proofs.buffer.Buffer.write_all.Goals as goal

pub loop-text-preserved : goal.loop-text-preserved
loop-text-preserved g c = (
  joined_passes c.args.texts.now c.loop-text.text-index _ _ _ _ c.args.self.now _ _ c.loop-text-test.true c.loop-text.invariant.0 c.in_ok-write.ensures.taken,
  c.in_ok-write.ensures.faults.0 ∙ c.loop-text.invariant.1,
)

pub returns-in_err-write-clause-taken : goal.returns-in_err-write-clause-taken
returns-in_err-write-clause-taken g c =
    joined_fails c.from_residual.result c.args.texts.now c.loop-text.text-index _ _ _ _ c.args.self.now _ _ c.from_residual.ensures.0 c.loop-text-test.true c.loop-text.invariant.0 c.in_err-write.ensures.taken

pub loop-text-init : goal.loop-text-init
loop-text-init g c = grind (arith, common_steps)

pub returns-clause-taken : goal.returns-clause-taken
returns-clause-taken g c = grind (arith, common_steps)

pub offset_bounds-texts-text-index : goal.offset_bounds-texts-text-index
offset_bounds-texts-text-index g c = grind (arith, common_steps)

pub slice_bounds-write-end : goal.slice_bounds-write-end
slice_bounds-write-end g c = grind (arith, common_steps)

pub returns-clause-faults : goal.returns-clause-faults
returns-clause-faults g c = grind (arith, common_steps)
