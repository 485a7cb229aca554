use Rattle.std.proofs.lemmas.Grind.{common_steps}
use Rattle.std.proofs.Common.{◌≤◌, ◌∙◌, length, sym, ap, subst, arith}
use Rattle.cip_problem.specs.Limits.{most_rows}
use Rattle.cip_problem.specs.Program.{Program}
use Rattle.cip_search.specs.NarrowedPrograms.{IsStep}
use Rattle.cip_presolve.proofs.presolved.presolve.Goals as goal

pub take_rounds-told-requires : goal.take_rounds-told-requires
take_rounds-told-requires c = subst (λ (p : Program). length p.rows ≤ most_rows) (sym c.in-Ok.ensures) c.columns-columns.ensures.formed.few_rows

pub ended-requires-clause-step : goal.ended-requires-clause-step
ended-requires-clause-step c = subst (λ (p : Program). IsStep p c.take_rounds-told.new.draft) c.in-Ok.ensures c.take_rounds-told.ensures.step

pub ended-requires-clause-rows : goal.ended-requires-clause-rows
ended-requires-clause-rows c = c.take_rounds-told.ensures.rows ∙ ap (λ (p : Program). length p.rows) c.in-Ok.ensures

pub returns : goal.returns
returns c = c.ended.ensures.right

pub ended-requires-clause-end : goal.ended-requires-clause-end
ended-requires-clause-end c = c.in-Ok-told.ensures.end

pub new-requires-2 : goal.new-requires-2
new-requires-2 c = grind (arith, common_steps)
