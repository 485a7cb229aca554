use Rattle.std.proofs.Common.{◌≡◌, refl, sym, ap, ◌∙◌}
use Rattle.std.proofs.lemmas.Bool.{false≢true}
use Rattle.cip_problem.specs.Program.{Sides}
use Rattle.cip_cert.specs.Checks.{rest_added, side_added}
use Rattle.cip_cert.proofs.Stepwise.{rest_wide, rest_made, rest_low, rest_high, rest_zero, no_side, side_taken}
use Rattle.cip_cert.proofs.walks.step.Goals.{then-is_positive, else-is_positive+then-is_negative}
use Rattle.cip_cert.proofs.walks.step.Goals as goal

pub returns-in_default : goal.returns-in_default
returns-in_default c = (
  rest_wide c.args.column c.args.sum.now c.args.cost c.args.coefficient c.args.sides.now
      c.in_default.ensures.0,
  refl,
)

pub returns-else-is_negative : goal.returns-else-is_negative
returns-else-is_negative c =
    rest_made c.args.column c.args.sum.now c.args.cost c.args.coefficient c.in-Ok.rest c.args.sides.now
    c.in-Ok.ensures.0 c.in-Ok.ensures.1
    ∙ rest_zero c.args.column c.args.sum.now c.in-Ok.rest c.args.sides.now (λ h. absurd (false≢true
    (c.if-is_positive.ensures.1 h))) (λ h. absurd (false≢true (c.if-is_negative.ensures.1 h)))

pub returns-in-None : goal.returns-in-None
returns-in-None c =
    let low : c.sides.inside.low ≡ c.args.sides.now.low = ap (λ (s : Sides). s.low) c.sides.view_is in
    let high : c.sides.inside.high ≡ c.args.sides.now.high = ap (λ (s : Sides). s.high) c.sides.view_is in
    let added : rest_added c.args.column c.args.sum.now c.in-Ok.rest c.args.sides.now
    ≡ side_added c.args.column c.args.sum.now c.in-Ok.rest c.if-is_positive.side = elim c.if-is_positive.branch [
      | then-is_positive w ↦
          rest_low c.args.column c.args.sum.now c.in-Ok.rest c.args.sides.now (w.if-is_positive.ensures.0 refl)
          ∙ ap (side_added c.args.column c.args.sum.now c.in-Ok.rest) (sym (w.side-is ∙ low))
      | else-is_positive+then-is_negative w ↦
          rest_high c.args.column c.args.sum.now c.in-Ok.rest c.args.sides.now (λ h. absurd (false≢true
          (w.if-is_positive.ensures.1 h))) (w.if-is_negative.ensures.0 refl)
          ∙ ap (side_added c.args.column c.args.sum.now c.in-Ok.rest) (sym (w.side-is ∙ high))
    ] in (
      no_side _ c.args.column c.args.sum.now c.in-Ok.rest c.if-is_positive.side
          (rest_made c.args.column c.args.sum.now c.args.cost c.args.coefficient c.in-Ok.rest c.args.sides.now
          c.in-Ok.ensures.0 c.in-Ok.ensures.1 ∙ added) c.in-None.is,
      refl,
    )

pub returns-in-Some : goal.returns-in-Some
returns-in-Some c =
    let low : c.sides.inside.low ≡ c.args.sides.now.low = ap (λ (s : Sides). s.low) c.sides.view_is in
    let high : c.sides.inside.high ≡ c.args.sides.now.high = ap (λ (s : Sides). s.high) c.sides.view_is in
    let added : rest_added c.args.column c.args.sum.now c.in-Ok.rest c.args.sides.now
    ≡ side_added c.args.column c.args.sum.now c.in-Ok.rest c.if-is_positive.side = elim c.if-is_positive.branch [
      | then-is_positive w ↦
          rest_low c.args.column c.args.sum.now c.in-Ok.rest c.args.sides.now (w.if-is_positive.ensures.0 refl)
          ∙ ap (side_added c.args.column c.args.sum.now c.in-Ok.rest) (sym (w.side-is ∙ low))
      | else-is_positive+then-is_negative w ↦
          rest_high c.args.column c.args.sum.now c.in-Ok.rest c.args.sides.now (λ h. absurd (false≢true
          (w.if-is_positive.ensures.1 h))) (w.if-is_negative.ensures.0 refl)
          ∙ ap (side_added c.args.column c.args.sum.now c.in-Ok.rest) (sym (w.side-is ∙ high))
    ] in
    side_taken _ c.add_product.result c.args.column c.args.sum.now c.in-Ok.rest c.if-is_positive.side c.in-Some.side
    c.add_product.new.self (rest_made c.args.column c.args.sum.now c.args.cost c.args.coefficient c.in-Ok.rest
    c.args.sides.now c.in-Ok.ensures.0 c.in-Ok.ensures.1 ∙ added) c.in-Some.is c.add_product.ensures
