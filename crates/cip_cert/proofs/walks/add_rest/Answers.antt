use Rattle.std.proofs.Common.{◌≡◌, refl, sym, ap, ◌∙◌}
use Rattle.std.proofs.lemmas.Bool.{false≢true}
use Rattle.cip_problem.specs.Program.{Sides}
use Rattle.cip_cert.specs.Checks.{rest_added, side_added}
use Rattle.cip_cert.proofs.Stepwise.{rest_low, rest_high, rest_zero}
use Rattle.cip_cert.proofs.walks.add_rest.Goals.{then-is_positive, else-is_positive+then-is_negative}
use Rattle.cip_cert.proofs.walks.add_rest.Goals as goal

pub returns-else-is_negative : goal.returns-else-is_negative
returns-else-is_negative c = sym (rest_zero c.args.column c.args.sum c.args.rest c.args.sides (λ h. absurd (false≢true
    (c.if-is_positive.ensures.1 h))) (λ h. absurd (false≢true (c.if-is_negative.ensures.1 h))))

pub returns-in-None : goal.returns-in-None
returns-in-None c =
    let low : c.sides.inside.low ≡ c.args.sides.low = ap (λ (s : Sides). s.low) c.sides.view_is in
    let high : c.sides.inside.high ≡ c.args.sides.high = ap (λ (s : Sides). s.high) c.sides.view_is in
    let added : rest_added c.args.column c.args.sum c.args.rest c.args.sides
    ≡ side_added c.args.column c.args.sum c.args.rest c.if-is_positive.side = elim c.if-is_positive.branch [
      | then-is_positive w ↦
          rest_low c.args.column c.args.sum c.args.rest c.args.sides (w.if-is_positive.ensures.0 refl)
          ∙ ap (λ s. side_added c.args.column c.args.sum c.args.rest s) (sym (w.side-is ∙ low))
      | else-is_positive+then-is_negative w ↦
          rest_high c.args.column c.args.sum c.args.rest c.args.sides (λ h. absurd (false≢true
          (w.if-is_positive.ensures.1 h))) (w.if-is_negative.ensures.0 refl)
          ∙ ap (λ s. side_added c.args.column c.args.sum c.args.rest s) (sym (w.side-is ∙ high))
    ] in
    sym (added ∙ ap (side_added c.args.column c.args.sum c.args.rest) c.in-None.is)

pub returns-in-Some : goal.returns-in-Some
returns-in-Some c =
    let low : c.sides.inside.low ≡ c.args.sides.low = ap (λ (s : Sides). s.low) c.sides.view_is in
    let high : c.sides.inside.high ≡ c.args.sides.high = ap (λ (s : Sides). s.high) c.sides.view_is in
    let added : rest_added c.args.column c.args.sum c.args.rest c.args.sides
    ≡ side_added c.args.column c.args.sum c.args.rest c.if-is_positive.side = elim c.if-is_positive.branch [
      | then-is_positive w ↦
          rest_low c.args.column c.args.sum c.args.rest c.args.sides (w.if-is_positive.ensures.0 refl)
          ∙ ap (λ s. side_added c.args.column c.args.sum c.args.rest s) (sym (w.side-is ∙ low))
      | else-is_positive+then-is_negative w ↦
          rest_high c.args.column c.args.sum c.args.rest c.args.sides (λ h. absurd (false≢true
          (w.if-is_positive.ensures.1 h))) (w.if-is_negative.ensures.0 refl)
          ∙ ap (λ s. side_added c.args.column c.args.sum c.args.rest s) (sym (w.side-is ∙ high))
    ] in
    c.sum_of.ensures ∙ sym (added ∙ ap (side_added c.args.column c.args.sum c.args.rest) c.in-Some.is)
