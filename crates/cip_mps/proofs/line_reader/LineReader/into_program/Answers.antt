use Rattle.std.proofs.Common.{◌≡◌, ◌∙◌, Bool, true, false, refl}
use Rattle.std.specs.Prelude.{if◌then◌else◌}
use Rattle.std.proofs.lemmas.Result.{IfOk-weaker}
use Rattle.cip_problem.specs.Program.{Program}
use Rattle.cip_text_rules.specs.LineEnds.{Open, Ended}
use Rattle.cip_text_rules.specs.MpsState.{State, program_from}
use Rattle.cip_text_rules.specs.MpsSteps.{mps_steps}
use Rattle.cip_mps.specs.DraftStates.{kept}
use Rattle.cip_mps.specs.LinesRead.{state_of_lines, stage_of}
use Rattle.cip_mps.proofs.line_reader.LineReader.into_program.Goals as goal

stage_program : (ended : Bool) (state : State) → program_from state ≡ mps_steps.result (if ended then Ended state else Open state)
stage_program true state = refl
stage_program false state = refl

pub returns : goal.returns
returns c =
    IfOk-weaker c.into_program.result (λ (p : Program). p ≡ program_from (kept c.args.self.draft)) (λ (p : Program). p ≡ mps_steps.result (stage_of c.args.self)) (λ p e. e ∙ stage_program c.args.self.ended (state_of_lines c.args.self)) c.into_program.ensures
