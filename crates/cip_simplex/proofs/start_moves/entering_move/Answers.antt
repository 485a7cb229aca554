use Rattle.std.proofs.lemmas.Grind.{common_steps}
use Rattle.std.proofs.Common.{◌≡◌, ◌&&◌, true, false, Some, sym, ap, ap₂, ◌∙◌, arith, not, is_some}
use Rattle.std.specs.Option.{unwrap_or}
use Rattle.cip_bland.specs.Dictionary.{size, is_basic}
use Rattle.cip_bland.specs.Tables.{least}
use Rattle.cip_bland.specs.declared.moves.Stand.TheVariants.{Zero}
use Rattle.cip_dict.proofs.LeastBasic.{least_more, least_at}
use Rattle.cip_simplex.specs.Starts.{stand_for, may_leave, leaving_stand}
use Rattle.cip_simplex.proofs.Begins.{can_enter}
use Rattle.cip_simplex.proofs.start_moves.entering_move.Goals as goal
use Rattle.cip_simplex.proofs.start_moves.entering_move.Goals.{else-is_none-2-via-then-is_none-2+then-is_some-2+else-has_entry, else-is_none-2-via-then-is_none-2+else-is_some-2, else-is_none-2-via-else-is_none-2}

pub loop-v-preserved : goal.loop-v-preserved
loop-v-preserved c =
    let here : may_leave c.args.start.now c.args.dict.now c.args.k c.loop-v.v ≡ false =
    elim c.else-is_none-2.branch [
      | else-is_none-2-via-then-is_none-2+then-is_some-2+else-has_entry w ↦ grind (arith, common_steps)
      | else-is_none-2-via-then-is_none-2+else-is_some-2 w ↦ grind (arith, common_steps)
      | else-is_none-2-via-else-is_none-2 w ↦ grind (arith, common_steps)
    ] in
    least_more c.loop-v.v (may_leave c.args.start.now c.args.dict.now c.args.k) c.loop-v.invariant here

pub returns-then-has_entry-clause-chosen : goal.returns-then-has_entry-clause-chosen
returns-then-has_entry-clause-chosen c =
    let here : may_leave c.args.start.now c.args.dict.now c.args.k c.loop-v.v ≡ true = ap₂ (λ a b. a && b) (ap not (sym (ap is_some c.stand-in-loop-v.ensures) ∙ c.if-is_none-2.ensures)) (ap₂ (λ a b. a && b) (sym (c.if-is_some-2.ensures ∙ ap is_some c.stand-then-is_none-2.ensures)) (sym c.if-has_entry.ensures)) in
    let least_is : Some c.loop-v.v ≡ least (size c.args.dict.now) (may_leave c.args.start.now c.args.dict.now c.args.k) = sym (least_at (size c.args.dict.now) c.loop-v.v (may_leave c.args.start.now c.args.dict.now c.args.k) (omega (arith, c.loop-v-test.true, c.len-v-end.ensures.variables)) c.loop-v.invariant here) in
    let to : c.stand_for-to.result ≡ leaving_stand c.args.start.now c.args.dict.now c.loop-v.v = c.stand_for-to.ensures ∙ ap₂ stand_for c.sides.ensures (c.unwrap_or.ensures ∙ ap (λ o. unwrap_or o Zero) c.stand-then-has_entry.ensures) in
    grind (arith, common_steps)

pub returns-then-has_entry-clause-can : goal.returns-then-has_entry-clause-can
returns-then-has_entry-clause-can c =
    let here : may_leave c.args.start.now c.args.dict.now c.args.k c.loop-v.v ≡ true = ap₂ (λ a b. a && b) (ap not (sym (ap is_some c.stand-in-loop-v.ensures) ∙ c.if-is_none-2.ensures)) (ap₂ (λ a b. a && b) (sym (c.if-is_some-2.ensures ∙ ap is_some c.stand-then-is_none-2.ensures)) (sym c.if-has_entry.ensures)) in
    let least_is : Some c.loop-v.v ≡ least (size c.args.dict.now) (may_leave c.args.start.now c.args.dict.now c.args.k) = sym (least_at (size c.args.dict.now) c.loop-v.v (may_leave c.args.start.now c.args.dict.now c.args.k) (omega (arith, c.loop-v-test.true, c.len-v-end.ensures.variables)) c.loop-v.invariant here) in
    let to : c.stand_for-to.result ≡ leaving_stand c.args.start.now c.args.dict.now c.loop-v.v = c.stand_for-to.ensures ∙ ap₂ stand_for c.sides.ensures (c.unwrap_or.ensures ∙ ap (λ o. unwrap_or o Zero) c.stand-then-has_entry.ensures) in
    let nonbasic : is_basic c.args.dict.now c.args.k ≡ false = ap not (sym (ap is_some c.stand-else-is_some.ensures) ∙ c.if-is_none.ensures) in
    can_enter c.args.start.now c.args.dict.now c.args.k c.loop-v.v c.stand_for-to.result c.requires.entering nonbasic least_is to

pub has_entry-requires-clause-on : goal.has_entry-requires-clause-on
has_entry-requires-clause-on c = c.requires.entering

pub has_entry-requires-clause-within : goal.has_entry-requires-clause-within
has_entry-requires-clause-within c = omega (arith, c.loop-v-test.true, c.len-v-end.ensures.variables)

pub sides-requires : goal.sides-requires
sides-requires c = omega (arith, c.loop-v-test.true, c.len-v-end.ensures.variables)

pub stand-requires-then-has_entry : goal.stand-requires-then-has_entry
stand-requires-then-has_entry c = omega (arith, c.loop-v-test.true, c.len-v-end.ensures.variables, c.requires.long)

pub stand-requires-then-is_none-2 : goal.stand-requires-then-is_none-2
stand-requires-then-is_none-2 c = omega (arith, c.loop-v-test.true, c.len-v-end.ensures.variables, c.requires.long)

pub stand-requires-in-loop-v : goal.stand-requires-in-loop-v
stand-requires-in-loop-v c = omega (arith, c.loop-v-test.true, c.len-v-end.ensures.variables)

pub has_entry-requires-clause-basic : goal.has_entry-requires-clause-basic
has_entry-requires-clause-basic c = ap not (sym (ap is_some c.stand-in-loop-v.ensures) ∙ c.if-is_none-2.ensures)

pub stand-requires-else-is_some : goal.stand-requires-else-is_some
stand-requires-else-is_some c = c.requires.entering

pub overflow_cast-v : goal.overflow_cast-v
overflow_cast-v c = grind (arith, common_steps)

pub returns-then-is_some-clause-chosen : goal.returns-then-is_some-clause-chosen
returns-then-is_some-clause-chosen c = grind (arith, common_steps)

pub stand-requires : goal.stand-requires
stand-requires c = grind (arith, common_steps)

pub returns-clause-can : goal.returns-clause-can
returns-clause-can c = grind (arith, common_steps)

pub returns-then-is_some-clause-can : goal.returns-then-is_some-clause-can
returns-then-is_some-clause-can c = grind (arith, common_steps)
