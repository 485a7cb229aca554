use Rattle.std.proofs.lemmas.Grind.{common_steps}
use Rattle.std.proofs.Common.{◌≤◌, ◌∙◌, length, sym, ap, subst, arith}
use Rattle.std.proofs.lemmas.Result.{IfOk-weaker}
use Rattle.cip_problem.specs.Limits.{most_rows}
use Rattle.cip_problem.specs.Program.{Program}
use Rattle.cip_search.specs.NarrowedPrograms.{IsExactStep}
use Rattle.cip_search.proofs.Pairing.{exact_step}
use Rattle.cip_presolve.specs.DraftParts.{unnamed}
use Rattle.cip_presolve.proofs.presolved.presolve_all.Goals as goal

pub settle-told-requires : goal.settle-told-requires
settle-told-requires c = subst (λ (p : Program). length p.rows ≤ most_rows) (sym c.in-Ok.ensures) c.columns-columns.ensures.formed.few_rows

pub ended-requires-clause-step : goal.ended-requires-clause-step
ended-requires-clause-step c = exact_step _ _ (subst (λ (p : Program). IsExactStep p c.settle-told.new.draft) c.in-Ok.ensures c.settle-told.ensures.step)

pub ended-requires-clause-rows : goal.ended-requires-clause-rows
ended-requires-clause-rows c = c.settle-told.ensures.rows ∙ ap (λ (p : Program). length p.rows) c.in-Ok.ensures

pub returns : goal.returns
returns c =
    let step : IsExactStep (unnamed c.args.program.now) c.settle-told.new.draft = subst (λ (p : Program). IsExactStep p c.settle-told.new.draft) c.in-Ok.ensures c.settle-told.ensures.step in
    IfOk-weaker c.ended.result _ _ (λ found f. f step) c.ended.ensures.exact

pub ended-requires-clause-end : goal.ended-requires-clause-end
ended-requires-clause-end c = c.in-Ok-told.ensures.end

pub new-requires-2 : goal.new-requires-2
new-requires-2 c = grind (arith, common_steps)
