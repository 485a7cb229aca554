use Rattle.std.proofs.lemmas.Grind.{common_steps}
use Rattle.cip_mps.proofs.ProgramLaws.{first_free}
use Rattle.cip_text_rules.specs.MpsProgram.{is_free}
use Rattle.std.proofs.Common.{length, ◌<◌, sym, ap, ◌∙◌, arith}
use Rattle.cip_mps.proofs.program.objective_at.Goals as goal

pub returns-then-is_free : goal.returns-then-is_free
returns-then-is_free c =
    let within : c.loop-number.number < length c.args.rows.now = rw c.len-number-end.ensures at c.loop-number-test.true in
    (within, c.loop-number.invariant ∙ first_free c.args.rows.now c.loop-number.number within (sym (ap is_free c.head.ensures.kind) ∙ sym c.is_free.ensures ∙ c.if-is_free.true))

pub loop-number-preserved : goal.loop-number-preserved
loop-number-preserved c = grind (arith, common_steps)

pub returns : goal.returns
returns c = grind (arith, common_steps)

pub head-requires : goal.head-requires
head-requires c = grind (arith, common_steps)
