use Rattle.std.proofs.Common.{◌≡◌, refl, sym, ap, ◌∙◌}
use Rattle.std.proofs.lemmas.Bool.{false≢true}
use Rattle.cip_problem.specs.Program.{Sides}
use Rattle.cip_lagrange.specs.LagrangeOutcomes.{in_range, rest_added, column_added}
use Rattle.cip_lagrange.proofs.OneByOne.{rest_low, rest_high, rest_zero}
use Rattle.cip_lagrange.proofs.free.add_column.Goals.{then-is_positive, else-is_positive+then-is_negative}
use Rattle.cip_lagrange.proofs.free.add_column.Goals as goal

pub returns-else-is_negative : goal.returns-else-is_negative
returns-else-is_negative c = sym (rest_zero c.args.col c.args.rest c.args.sum c.args.sides (λ h. absurd (false≢true
    (c.if-is_positive.ensures.1 h))) (λ h. absurd (false≢true (c.if-is_negative.ensures.1 h))))

pub returns-in_default : goal.returns-in_default
returns-in_default c =
    let low : c.sides.inside.low ≡ c.args.sides.low = ap (λ (s : Sides). s.low) c.sides.view_is in
    let high : c.sides.inside.high ≡ c.args.sides.high = ap (λ (s : Sides). s.high) c.sides.view_is in
    let added : column_added c.args.col c.args.rest c.args.sides c.args.sum
    ≡ rest_added c.args.col c.args.rest c.if-is_positive.side c.args.sum = elim c.if-is_positive.branch [
      | then-is_positive w ↦
          rest_low c.args.col c.args.rest c.args.sum c.args.sides (w.if-is_positive.ensures.0 refl)
          ∙ ap (λ s. rest_added c.args.col c.args.rest s c.args.sum) (sym (w.side-is ∙ low))
      | else-is_positive+then-is_negative w ↦
          rest_high c.args.col c.args.rest c.args.sum c.args.sides (λ h. absurd (false≢true
          (w.if-is_positive.ensures.1 h))) (w.if-is_negative.ensures.0 refl)
          ∙ ap (λ s. rest_added c.args.col c.args.rest s c.args.sum) (sym (w.side-is ∙ high))
    ] in
    sym (added ∙ ap (λ s. rest_added c.args.col c.args.rest s c.args.sum) c.in_default.is)

pub returns-in-Ok : goal.returns-in-Ok
returns-in-Ok c =
    let low : c.sides.inside.low ≡ c.args.sides.low = ap (λ (s : Sides). s.low) c.sides.view_is in
    let high : c.sides.inside.high ≡ c.args.sides.high = ap (λ (s : Sides). s.high) c.sides.view_is in
    let added : column_added c.args.col c.args.rest c.args.sides c.args.sum
    ≡ rest_added c.args.col c.args.rest c.if-is_positive.side c.args.sum = elim c.if-is_positive.branch [
      | then-is_positive w ↦
          rest_low c.args.col c.args.rest c.args.sum c.args.sides (w.if-is_positive.ensures.0 refl)
          ∙ ap (λ s. rest_added c.args.col c.args.rest s c.args.sum) (sym (w.side-is ∙ low))
      | else-is_positive+then-is_negative w ↦
          rest_high c.args.col c.args.rest c.args.sum c.args.sides (λ h. absurd (false≢true
          (w.if-is_positive.ensures.1 h))) (w.if-is_negative.ensures.0 refl)
          ∙ ap (λ s. rest_added c.args.col c.args.rest s c.args.sum) (sym (w.side-is ∙ high))
    ] in
    ap in_range c.in-Ok.ensures ∙ sym (added ∙ ap (λ s. rest_added c.args.col c.args.rest s c.args.sum) c.in-Some.is)

pub returns-in-Err : goal.returns-in-Err
returns-in-Err c =
    let low : c.sides.inside.low ≡ c.args.sides.low = ap (λ (s : Sides). s.low) c.sides.view_is in
    let high : c.sides.inside.high ≡ c.args.sides.high = ap (λ (s : Sides). s.high) c.sides.view_is in
    let added : column_added c.args.col c.args.rest c.args.sides c.args.sum
    ≡ rest_added c.args.col c.args.rest c.if-is_positive.side c.args.sum = elim c.if-is_positive.branch [
      | then-is_positive w ↦
          rest_low c.args.col c.args.rest c.args.sum c.args.sides (w.if-is_positive.ensures.0 refl)
          ∙ ap (λ s. rest_added c.args.col c.args.rest s c.args.sum) (sym (w.side-is ∙ low))
      | else-is_positive+then-is_negative w ↦
          rest_high c.args.col c.args.rest c.args.sum c.args.sides (λ h. absurd (false≢true
          (w.if-is_positive.ensures.1 h))) (w.if-is_negative.ensures.0 refl)
          ∙ ap (λ s. rest_added c.args.col c.args.rest s c.args.sum) (sym (w.side-is ∙ high))
    ] in
    ap in_range c.in-Err.ensures ∙ sym (added ∙ ap (λ s. rest_added c.args.col c.args.rest s c.args.sum) c.in-Some.is)
