use Rattle.std.proofs.lemmas.Result.{IfOk-from_err}
use Rattle.std.proofs.lemmas.Grind.{common_steps}
use Rattle.std.proofs.Common.{◌++◌, map, sym, ap, ◌∙◌, arith}
use Rattle.std.proofs.lemmas.List.{append-nil}
use Rattle.cip_cert.specs.declared.rows.PoolRow.{PoolRow}
use Rattle.cip_relax.proofs.Lists.{map_map}
use Rattle.cip_relax.proofs.rows.UsableRows.gather.Goals as goal

pub returns-clause-rows : goal.returns-clause-rows
returns-clause-rows c =
    let all = sym (append-nil (map (λ kept. kept.now) c.loop-kept.yielded)) ∙ ap (λ l. map (λ kept. kept.now) c.loop-kept.yielded ++ l) (sym c.in-None.ensures.steps.0) ∙ c.loop-kept.invariant.told in
    c.loop-kept.invariant.rows
    ∙ sym (map_map (λ (kept : PoolRow). kept.row) (λ kept. kept.now) c.loop-kept.yielded) ∙ ap (map (λ (kept : PoolRow). kept.row)) all

pub loop-kept-preserved : goal.loop-kept-preserved
loop-kept-preserved c = grind (arith, common_steps)

pub loop-kept-init : goal.loop-kept-init
loop-kept-init c = grind (arith, common_steps)

pub returns-clause-bounds : goal.returns-clause-bounds
returns-clause-bounds c = grind (arith, common_steps)

pub returns-clause-pool : goal.returns-clause-pool
returns-clause-pool c = grind (arith, common_steps)

pub loop-kept-init-derived : goal.loop-kept-init-derived
loop-kept-init-derived c = grind (arith, common_steps)

pub loop-kept-preserved-derived : goal.loop-kept-preserved-derived
loop-kept-preserved-derived c = grind (arith, common_steps)

pub returns-in_err-push-clause-rows : goal.returns-in_err-push-clause-rows
returns-in_err-push-clause-rows c = IfOk-from_err c.from_residual.result _ c.from_residual.ensures.0

pub returns-in_err-push-clause-ids : goal.returns-in_err-push-clause-ids
returns-in_err-push-clause-ids c = IfOk-from_err c.from_residual.result _ c.from_residual.ensures.0

pub returns-in_err-push-clause-pool : goal.returns-in_err-push-clause-pool
returns-in_err-push-clause-pool c = IfOk-from_err c.from_residual.result _ c.from_residual.ensures.0

pub returns-in_err-push-clause-bounds : goal.returns-in_err-push-clause-bounds
returns-in_err-push-clause-bounds c = IfOk-from_err c.from_residual.result _ c.from_residual.ensures.0

pub returns-in_err-push-2-clause-rows : goal.returns-in_err-push-2-clause-rows
returns-in_err-push-2-clause-rows c =
    IfOk-from_err c.from_residual-in_err-push-2.result _ c.from_residual-in_err-push-2.ensures.0

pub returns-in_err-push-2-clause-ids : goal.returns-in_err-push-2-clause-ids
returns-in_err-push-2-clause-ids c =
    IfOk-from_err c.from_residual-in_err-push-2.result _ c.from_residual-in_err-push-2.ensures.0

pub returns-in_err-push-2-clause-pool : goal.returns-in_err-push-2-clause-pool
returns-in_err-push-2-clause-pool c =
    IfOk-from_err c.from_residual-in_err-push-2.result _ c.from_residual-in_err-push-2.ensures.0

pub returns-in_err-push-2-clause-bounds : goal.returns-in_err-push-2-clause-bounds
returns-in_err-push-2-clause-bounds c =
    IfOk-from_err c.from_residual-in_err-push-2.result _ c.from_residual-in_err-push-2.ensures.0
