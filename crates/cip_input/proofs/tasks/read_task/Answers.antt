use Rattle.std.proofs.lemmas.Grind.{common_steps}
use Rattle.std.proofs.Common.{◌∙◌, ap, Some, arith}
use Rattle.cip_input.specs.WordsRead.{meant}
use Rattle.cip_input.proofs.TasksRead.{some_asked, few_columns, few_rows}
use Rattle.cip_input.proofs.tasks.read_task.Goals as goal

pub returns-in-Err-read_solve : goal.returns-in-Err-read_solve
returns-in-Err-read_solve g c =
    c.in-Err-read_solve.ensures _ _ (c.in-Ok-Solve.ensures.job ∙ ap Some (ap meant c.in-Ok-Solve.field-0-is)) (some_asked _ _ _ _ c.in-Ok-Solve.ensures.range (ap meant c.in-Ok-Solve.field-0-is))

pub returns-in-Ok : goal.returns-in-Ok
returns-in-Ok g c =
    c.in-Ok.ensures _ _ (c.in-Ok-Solve.ensures.job ∙ ap Some (ap meant c.in-Ok-Solve.field-0-is)) (some_asked _ _ _ _ c.in-Ok-Solve.ensures.range (ap meant c.in-Ok-Solve.field-0-is))

pub returns-in-Ok-Check : goal.returns-in-Ok-Check
returns-in-Ok-Check g c = c.read_check.ensures _ (c.in-Ok-Check.ensures.job ∙ ap Some (ap meant c.in-Ok-Check.field-0-is))

pub draw-requires-clause-few_columns : goal.draw-requires-clause-few_columns
draw-requires-clause-few_columns g c = few_columns _ _ _ _ c.in-Ok-Generate.ensures.range (ap meant c.in-Ok-Generate.field-0-is)

pub draw-requires-clause-few_rows : goal.draw-requires-clause-few_rows
draw-requires-clause-few_rows g c = few_rows _ _ _ _ c.in-Ok-Generate.ensures.range (ap meant c.in-Ok-Generate.field-0-is)

pub returns-in-Ok-Generate : goal.returns-in-Ok-Generate
returns-in-Ok-Generate g c = c.draw.ensures _ _ (c.in-Ok-Generate.ensures.job ∙ ap Some (ap meant c.in-Ok-Generate.field-0-is))

pub read_solve-requires-text-model : goal.read_solve-requires-text-model
read_solve-requires-text-model g c = grind (arith, common_steps)

pub returns-in-Err : goal.returns-in-Err
returns-in-Err g c = grind (arith, common_steps)

pub read_check-requires-text-point : goal.read_check-requires-text-point
read_check-requires-text-point g c = grind (arith, common_steps)

pub read_check-requires-text-model : goal.read_check-requires-text-model
read_check-requires-text-model g c = grind (arith, common_steps)
