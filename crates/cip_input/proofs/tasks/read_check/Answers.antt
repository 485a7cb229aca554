use Rattle.cip_input.specs.Tasks.{TaskCause}
use Rattle.std.proofs.Common.{refl}
use Rattle.cip_input.specs.Jobs.{Check}
use Rattle.cip_input.specs.declared.refusals.FaultyText.TheVariants.{Model, Point}
use Rattle.cip_input.proofs.TasksRead.{not_read, cause_told, unread_cause, point_cause, is_check}
use Rattle.cip_input.proofs.tasks.read_check.Goals as goal

pub returns-in_err-program : goal.returns-in_err-program
returns-in_err-program g c = λ job asked.
    not_read Model _ _ _ _ (unread_cause job (Check c.args.model.now c.args.point.now) _ _ _ c.in_err-program.field-0.0 asked refl c.in_err-program.ensures.answer) c.from_residual.ensures

pub returns-in-Err : goal.returns-in-Err
returns-in-Err g c = λ job asked.
    cause_told Point (TaskCause job (g.S.Store.tells c.args.store.now) (g.S.Store.tells c.read_point.new.store)) _ _ (point_cause job c.args.model.now c.args.point.now _ _ _ _ c.in-Err.cause asked c.in_ok-program.ensures.answer c.in_ok-program.ensures.holds c.in-Err.ensures.answer) c.from.ensures

pub returns-in-Ok : goal.returns-in-Ok
returns-in-Ok g c = λ job asked.
    is_check job c.args.model.now c.args.point.now _ _ _ _ _ c.programs_are_limited.ensures c.points_are_of_lines.ensures asked c.in_ok-program.ensures.answer c.in_ok-program.ensures.holds c.in-Ok.ensures.answer
