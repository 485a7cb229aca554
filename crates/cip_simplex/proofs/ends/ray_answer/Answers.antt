use Rattle.cip_bland.specs.Tables.{table}
use Rattle.cip_rational.specs.Rational.{oneℚ}
use Rattle.cip_bland.specs.Headings.{along}
use Rattle.cip_bland.specs.Rule.{falling_heading}
use Rattle.cip_bland.specs.Dictionary.{is_basic, entry}
use Rattle.std.proofs.lemmas.Bool.{eq-eqb, ne_eqb}
use Rattle.cip_simplex.proofs.Listed.{chosen_same, chosen_basic, chosen_none}
use Rattle.std.proofs.lemmas.Result.{IfOk-from_err}
use Rattle.std.proofs.lemmas.Grind.{common_steps}
use Rattle.std.proofs.Common.{◌≡◌, ◌∙◌, ◌++◌, ◌∷◌, [], sym, ap₂, arith, ◌==◌, not, is_some, ap}
use Rattle.cip_bland.specs.EndAnswers.{change_of}
use Rattle.cip_dict.proofs.Grown.{table_none, table_more}
use Rattle.cip_simplex.proofs.ends.ray_answer.Goals as goal
use Rattle.cip_simplex.proofs.ends.ray_answer.Goals.{then-v-j, else-v-j+then-is_none, else-v-j+else-is_none}

pub loop-v-init : goal.loop-v-init
loop-v-init c = c.in_ok-ray.ensures.items ∙ table_none _

pub loop-v-preserved : goal.loop-v-preserved
loop-v-preserved c =
    let here : c.if-v-j.change ≡ change_of c.args.dict.now c.args.j c.loop-v.v =
    elim c.if-v-j.branch [
      | then-v-j w ↦ chosen_same (c.loop-v.v == c.args.j) (is_basic c.args.dict.now c.loop-v.v) (along (falling_heading c.args.dict.now c.args.j) oneℚ) (along (falling_heading c.args.dict.now c.args.j) (entry c.args.dict.now c.loop-v.v c.args.j)) c.if-v-j.change (eq-eqb c.loop-v.v c.args.j w.if-v-j.true) (w.change-is ∙ w.change_along-change.ensures ∙ ap₂ along c.falling_heading-heading.ensures w.one.ensures)
      | else-v-j+then-is_none w ↦ chosen_basic (c.loop-v.v == c.args.j) (is_basic c.args.dict.now c.loop-v.v) (along (falling_heading c.args.dict.now c.args.j) oneℚ) (along (falling_heading c.args.dict.now c.args.j) (entry c.args.dict.now c.loop-v.v c.args.j)) c.if-v-j.change (ne_eqb c.loop-v.v c.args.j w.if-v-j.false) (ap not (sym (ap is_some w.stand.ensures) ∙ w.if-is_none.ensures)) (w.change-is ∙ w.change_along.ensures ∙ ap₂ along c.falling_heading-heading.ensures w.entry.ensures)
      | else-v-j+else-is_none w ↦ chosen_none (c.loop-v.v == c.args.j) (is_basic c.args.dict.now c.loop-v.v) (along (falling_heading c.args.dict.now c.args.j) oneℚ) (along (falling_heading c.args.dict.now c.args.j) (entry c.args.dict.now c.loop-v.v c.args.j)) c.if-v-j.change (ne_eqb c.loop-v.v c.args.j w.if-v-j.false) (ap not (sym (ap is_some w.stand.ensures) ∙ w.if-is_none.ensures)) (w.change-is ∙ w.zero.ensures)
    ] in
    c.in_ok-push.ensures.items ∙ ap₂ (λ xs x. xs ++ x ∷ []) c.loop-v.invariant here ∙ sym (table_more c.loop-v.v _)

pub returns : goal.returns
returns c =
    let end : c.loop-v.v ≡ c.args.columns = omega (arith, c.loop-v-test.false, c.loop-v.auto.v-end) in
    (c.in_ok-point.ensures, c.loop-v.invariant ∙ ap (λ n. table n (change_of c.args.dict.now c.args.j)) end)

pub entry-requires-clause-within : goal.entry-requires-clause-within
entry-requires-clause-within c = grind (arith, common_steps)

pub entry-requires-clause-on : goal.entry-requires-clause-on
entry-requires-clause-on c = grind (arith, common_steps)

pub entry-requires-clause-basic : goal.entry-requires-clause-basic
entry-requires-clause-basic c = grind (arith, common_steps)

pub stand-requires : goal.stand-requires
stand-requires c = grind (arith, common_steps)

pub values_of-requires-clause-within : goal.values_of-requires-clause-within
values_of-requires-clause-within c = grind (arith, common_steps)

pub values_of-requires-clause-few : goal.values_of-requires-clause-few
values_of-requires-clause-few c = grind (arith, common_steps)

pub overflow_cast-v : goal.overflow_cast-v
overflow_cast-v c = grind (arith, common_steps)

pub falling_heading-heading-requires : goal.falling_heading-heading-requires
falling_heading-heading-requires c = grind (arith, common_steps)

pub returns-in_err-push : goal.returns-in_err-push
returns-in_err-push c = IfOk-from_err c.from_residual-in_err-push.result _ c.from_residual-in_err-push.ensures.0
