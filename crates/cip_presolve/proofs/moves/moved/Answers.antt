use Rattle.std.proofs.lemmas.Grind.{common_steps}
use Rattle.std.proofs.Common.{◌≡◌, true, List, length, Some, slice_get, refl, sym, ap, ◌∙◌, subst, true≢false, arith}
use Rattle.std.proofs.lemmas.Option.{slice_get_read}
use Rattle.cip_rational.specs.Rational.{zeroℚ, ◌<ℚ◌}
use Rattle.cip_problem.specs.Program.{Sides}
use Rattle.cip_problem.specs.Box.{sides_at}
use Rattle.cip_search.specs.Moving.{fixed_sides}
use Rattle.cip_presolve.specs.FreeColumns.{turned}
use Rattle.cip_presolve.specs.Moves.{least_value, greatest_value}
use Rattle.cip_presolve.proofs.Moved.{moves_is, MayTake}
use Rattle.cip_presolve.proofs.moves.moved.Goals as goal

pub returns : goal.returns
returns c =
    let sides : c.sides-sides.result ≡ sides_at c.args.draft.now.bounds c.args.column = c.sides-sides.ensures ∙ ap (λ (box : List Sides). sides_at box c.args.column) c.bounds.ensures.bounds in
    let take : MayTake c.args.draft.now c.args.column (fixed_sides c.in-Some.value) = grind (arith, common_steps) in
    let lets : slice_get c.args.free.now c.args.column ≡ Some true =
    slice_get_read c.args.free.now (length c.args.free.now) c.args.column c.in-Some-true.field-0.now refl c.in-Some-true.ensures.lookup.3.0 c.in-Some-true.ensures.lookup.1 ∙ ap (λ b. Some b) c.in-Some-true.field-0-test in
    moves_is c.args.draft.now c.args.column c.is_whole.result c.in-Some.value c.args.free.now c.requires c.is_whole.ensures take lets c.args.rising
    (λ r. ap (λ (s : Sides). least_value c.is_whole.result s.low) (sym sides) ∙ sym (c.last_value.ensures.fallen r) ∙ c.in-Some.is)
    (λ r. ap (λ (s : Sides). greatest_value c.is_whole.result s.high) (sym sides) ∙ sym (c.last_value.ensures.risen r) ∙ c.in-Some.is)
    (λ w. true≢false (sym (c.is_negative.ensures.1 (subst (λ q. q <ℚ zeroℚ) (sym (c.turned.ensures ∙ ap (turned c.args.rising) c.cost.ensures)) w)) ∙ c.if-is_negative.false))

pub sides-sides-requires : goal.sides-sides-requires
sides-sides-requires c = grind (arith, common_steps)

pub get-requires : goal.get-requires
get-requires c = grind (arith, common_steps)

pub returns-then-is_fixed : goal.returns-then-is_fixed
returns-then-is_fixed c = grind (arith, common_steps)

pub returns-in_default-last_value : goal.returns-in_default-last_value
returns-in_default-last_value c = grind (arith, common_steps)
