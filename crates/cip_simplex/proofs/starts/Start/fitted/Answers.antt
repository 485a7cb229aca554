use Rattle.cip_bland.specs.Tables.{table}
use Rattle.std.proofs.lemmas.Result.{IfOk-from_err}
use Rattle.std.proofs.lemmas.Grind.{common_steps}
use Rattle.std.proofs.Common.{◌≡◌, arith, length, ◌∙◌, ◌++◌, ◌∷◌, [], sym, ap, ap₂}
use Rattle.cip_bland.proofs.Tables.{length-table}
use Rattle.cip_dict.proofs.Grown.{table_none, table_more}
use Rattle.cip_simplex.specs.Starts.{wish}
use Rattle.cip_simplex.proofs.starts.Start.fitted.Goals as goal
use Rattle.cip_simplex.proofs.starts.Start.fitted.Goals.{then-v-len, else-v-len}

pub loop-v-init : goal.loop-v-init
loop-v-init c = c.in_ok-standing.ensures.items ∙ table_none _

pub loop-v-preserved : goal.loop-v-preserved
loop-v-preserved c =
    let here : c.if-v-len.place ≡ wish c.args.self.now c.loop-v.v =
    elim c.if-v-len.branch [
      | then-v-len w ↦ grind (arith, common_steps)
      | else-v-len w ↦ grind (arith, common_steps)
    ] in
    c.in_ok-push.ensures.items ∙ ap₂ (λ xs x. xs ++ x ∷ []) c.loop-v.invariant here ∙ sym (table_more c.loop-v.v _)

pub returns-clause-long : goal.returns-clause-long
returns-clause-long c =
    let e : c.loop-v.v ≡ c.args.n = omega arith in
    ap length c.loop-v.invariant ∙ length-table c.loop-v.v (wish c.args.self.now) ∙ e

pub returns-clause-same : goal.returns-clause-same
returns-clause-same c =
    let end : c.loop-v.v ≡ c.args.n = omega (arith, c.loop-v-test.false, c.loop-v.auto.v-end) in
    c.loop-v.invariant ∙ ap (λ n. table n (wish c.args.self.now)) end

pub index-requires : goal.index-requires
index-requires c = grind (arith, common_steps)

pub returns-in_err-push-clause-long : goal.returns-in_err-push-clause-long
returns-in_err-push-clause-long c = IfOk-from_err c.from_residual-in_err-push.result _ c.from_residual-in_err-push.ensures.0

pub returns-in_err-push-clause-same : goal.returns-in_err-push-clause-same
returns-in_err-push-clause-same c = IfOk-from_err c.from_residual-in_err-push.result _ c.from_residual-in_err-push.ensures.0
