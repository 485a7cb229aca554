use Rattle.std.proofs.lemmas.Result.{IfOk-from_err}
use Rattle.std.proofs.lemmas.Grind.{common_steps}
use Rattle.cip_text.specs.TextLines.{fields_left}
use Rattle.cip_mps.proofs.TakenLaws.{faulty_step, section_is}
use Rattle.cip_text_rules.specs.MpsSayings.{Opens}
use Rattle.cip_mps_lines.specs.MpsKinds.{part_of}
use Rattle.cip_mps.specs.DraftStates.{kept}
use Rattle.std.proofs.Common.{sym, ◌∙◌, arith}
use Rattle.cip_mps.proofs.draft.Draft.read_section.Goals as goal

pub returns-else-is_none : goal.returns-else-is_none
returns-else-is_none c =
    let old = kept c.args.self.now in
    let part = part_of c.args.part in
    let words = fields_left c.args.words.now in
    faulty_step old (Opens part words) c.section_fault-fault.result (c.section_fault-fault.ensures ∙ sym (section_is c.lines_have_tests.ensures old part words)) c.if-is_none.ensures

pub invariant_of-self : goal.invariant_of-self
invariant_of-self c = grind (arith, common_steps)

pub returns-in_ok-push : goal.returns-in_ok-push
returns-in_ok-push c = grind (arith, common_steps)

pub returns-in_err-push : goal.returns-in_err-push
returns-in_err-push c = IfOk-from_err c.from_residual.result _ c.from_residual.ensures.0
