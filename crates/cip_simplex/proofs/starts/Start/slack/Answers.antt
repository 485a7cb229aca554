use Rattle.cip_simplex.proofs.FirstStands.{stand_within, stand_past}
use Rattle.std.proofs.lemmas.Result.{IfOk-from_err}
use Rattle.std.proofs.lemmas.Grind.{common_steps}
use Rattle.std.proofs.Common.{◌≡◌, ◌++◌, ◌∷◌, [], length, ◌∙◌, sym, ap, ap₂, arith}
use Rattle.cip_bland.specs.Tables.{table}
use Rattle.cip_bland.proofs.Tables.{length-table}
use Rattle.cip_dict.specs.FirstLists.{stand_in}
use Rattle.cip_dict.proofs.Grown.{table_none, table_more}
use Rattle.cip_simplex.proofs.Solved.{slack_is}
use Rattle.cip_simplex.proofs.starts.Start.slack.Goals as goal
use Rattle.cip_simplex.proofs.starts.Start.slack.Goals.{then-v-sides, else-v-sides}

pub loop-v-init : goal.loop-v-init
loop-v-init c = c.in_ok-standing.ensures.items ∙ table_none _

pub loop-v-preserved : goal.loop-v-preserved
loop-v-preserved c =
    let here : c.if-v-sides.place ≡ stand_in c.sides-sides.result.now c.loop-v.v =
    elim c.if-v-sides.branch [
      | then-v-sides w ↦ stand_within c.sides-sides.result.now c.loop-v.v w.index-sides-v.result w.stand_first.result c.if-v-sides.place w.if-v-sides.true w.index-sides-v.is w.stand_first.ensures w.place-is
      | else-v-sides w ↦ stand_past c.sides-sides.result.now c.loop-v.v c.if-v-sides.place w.if-v-sides.false w.place-is
    ] in
    c.in_ok-push.ensures.items ∙ ap₂ (λ xs x. xs ++ x ∷ []) c.loop-v.invariant here ∙ sym (table_more c.loop-v.v _)

pub returns-clause-stands : goal.returns-clause-stands
returns-clause-stands c =
    let end : c.loop-v.v ≡ c.len-n.result = omega arith in
    c.loop-v.invariant ∙ ap₂ (λ n b. table n (stand_in b)) (end ∙ c.len-n.ensures) c.sides-sides.ensures ∙ slack_is c.args.lp.now

pub returns-clause-long : goal.returns-clause-long
returns-clause-long c =
    let end : c.loop-v.v ≡ c.len-n.result = omega arith in
    ap length c.loop-v.invariant ∙ length-table c.loop-v.v (stand_in c.sides-sides.result.now) ∙ end ∙ c.len-n.ensures

pub bounds-sides-v : goal.bounds-sides-v
bounds-sides-v c = grind (arith, common_steps)

pub offset_bounds-sides-v : goal.offset_bounds-sides-v
offset_bounds-sides-v c = grind (arith, common_steps)

pub returns-in_err-push-clause-long : goal.returns-in_err-push-clause-long
returns-in_err-push-clause-long c = IfOk-from_err c.from_residual-in_err-push.result _ c.from_residual-in_err-push.ensures.0

pub returns-in_err-push-clause-stands : goal.returns-in_err-push-clause-stands
returns-in_err-push-clause-stands c = IfOk-from_err c.from_residual-in_err-push.result _ c.from_residual-in_err-push.ensures.0
