use Rattle.std.proofs.lemmas.Grind.{common_steps}
use Rattle.std.proofs.Common.{refl, arith}
use Rattle.cip_main.proofs.Ways.{asked_of, answered, drawn_answered, verdict_told, plain_told}
use Rattle.cip_main.proofs.running.run.Goals as goal

pub returns-in-Ok-Solve : goal.returns-in-Ok-Solve
returns-in-Ok-Solve g c =
    answered _ _ _ _ (asked_of _ _ _ _ c.as_slice.ensures.value) (rw c.in-Ok-Solve.field-0-is at c.in-Ok-Solve.ensures) c.solve_and_report-status.ensures

pub returns-in-Ok-Check : goal.returns-in-Ok-Check
returns-in-Ok-Check g c =
    verdict_told _ _ _ _ _ (asked_of _ _ _ _ c.as_slice.ensures.value) (rw c.in-Ok-Check.field-0-is at c.in-Ok-Check.ensures) c.as_slice-in-Ok-Check.ensures.value (record { tells = c.check_and_report-status.ensures.says; holds = c.check_and_report-status.ensures.holds; no_search = refl; same_kit = refl })

pub returns-in-Err : goal.returns-in-Err
returns-in-Err g c = plain_told _ _ c.in-Err.answer (asked_of _ _ _ _ c.as_slice.ensures.value) c.in-Err.ensures c.say.ensures refl refl

pub returns-in-Ok-Generate : goal.returns-in-Ok-Generate
returns-in-Ok-Generate g c =
    drawn_answered _ _ _ _ _ _ _ (asked_of _ _ _ _ c.as_slice.ensures.value) (rw c.in-Ok-Generate.field-0-is at c.in-Ok-Generate.ensures) c.solve_drawn-status.ensures

pub check_and_report-status-requires : goal.check_and_report-status-requires
check_and_report-status-requires g c = grind (arith, common_steps)

pub solve_drawn-status-requires-clause-limited : goal.solve_drawn-status-requires-clause-limited
solve_drawn-status-requires-clause-limited g c = grind (arith, common_steps)

pub solve_and_report-status-requires-clause-limited : goal.solve_and_report-status-requires-clause-limited
solve_and_report-status-requires-clause-limited g c = grind (arith, common_steps)

pub solve_and_report-status-requires-clause-some : goal.solve_and_report-status-requires-clause-some
solve_and_report-status-requires-clause-some g c = grind (arith, common_steps)

pub solve_drawn-status-requires-clause-few : goal.solve_drawn-status-requires-clause-few
solve_drawn-status-requires-clause-few g c = c.requires.few

pub solve_and_report-status-requires-clause-few : goal.solve_and_report-status-requires-clause-few
solve_and_report-status-requires-clause-few g c = c.requires.few
