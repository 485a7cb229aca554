use Rattle.std.proofs.lemmas.Grind.{common_steps}
use Rattle.std.proofs.Common.{subst, arith}
use Rattle.cip_text.specs.TextFaults.{IsSaid}
use Rattle.cip_text.proofs.FaultsTold.{told_by}
use Rattle.cip_problem.specs.NamesOnce.{StandOnce}
use Rattle.cip_text_rules.specs.PointRules.{point_reading}
use Rattle.cip_input.specs.PointKindTexts.{kind_number}
use Rattle.cip_input.specs.PointTexts.{kept_of, values_of, program_of, steps_of}
use Rattle.cip_input.proofs.point_text.PointTextPieceText.known.Goals as goal

pub returns : goal.returns
returns c = λ bytes h.
    let text = c.args.self.now in
    let stand : StandOnce (program_of text).column_names = grind (arith, common_steps) in
    let law = c.point_faults_of_ended_lines.ensures (program_of text) stand in
    told_by (point_reading (program_of text)) (steps_of text) law bytes (kept_of text) (values_of text) h kind_number c.told.result (subst (λ known. IsSaid kind_number known c.told.result) c.known_fault.ensures c.told.ensures)

pub told-requires : goal.told-requires
told-requires c = grind (arith, common_steps)
