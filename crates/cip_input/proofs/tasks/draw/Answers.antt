use Rattle.std.proofs.lemmas.Grind.{common_steps}
use Rattle.std.proofs.Common.{refl, arith}
use Rattle.cip_input.proofs.Generated.{is_drawn}
use Rattle.cip_input.proofs.tasks.draw.Goals as goal

pub returns-in-Ok : goal.returns-in-Ok
returns-in-Ok c = λ job store asked.
    is_drawn job store _ c.args.seed c.args.columns c.args.rows _ c.generated_are_formed.ensures c.requires.few_columns c.requires.few_rows c.in-Ok.ensures c.entries-entries.ensures asked

pub returns-in-Err : goal.returns-in-Err
returns-in-Err c = λ job store asked. record { sound = refl; untouched = λ none. refl }

pub generate-requires-clause-few_rows : goal.generate-requires-clause-few_rows
generate-requires-clause-few_rows c = grind (arith, common_steps)

pub generate-requires-clause-few_columns : goal.generate-requires-clause-few_columns
generate-requires-clause-few_columns c = grind (arith, common_steps)
