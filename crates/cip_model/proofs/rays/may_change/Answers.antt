use Rattle.std.proofs.lemmas.Grind.{common_steps}
use Rattle.std.proofs.Common.{arith, ◌≡◌, ◌∙◌, true, false, true≢false, ◌&&◌, Option, None, Some, refl, sym, ap}
use Rattle.std.specs.Option.{is_some}
use Rattle.cip_rational.specs.Rational.{ℚ, zeroℚ, le_test}
use Rattle.cip_model.specs.RayTests.{falls_not, rises_not}
use Rattle.cip_model.proofs.rays.may_change.Goals.{else-is_some-via-then-is_some+else-not-is_at_most, else-is_some-via-else-is_some}
use Rattle.cip_model.proofs.rays.may_change.Goals as goal

falls_of_test : (low : Option ℚ) (change : ℚ) → le_test zeroℚ change ≡ true → falls_not low change ≡ true
falls_of_test None change e = refl
falls_of_test (Some side) change e = e

falls_of_none : (low : Option ℚ) (change : ℚ) → is_some low ≡ false → falls_not low change ≡ true
falls_of_none None change e = refl
falls_of_none (Some side) change e = absurd (true≢false e)

rises_of_none : (high : Option ℚ) (change : ℚ) → is_some high ≡ false → rises_not high change ≡ true
rises_of_none None change e = refl
rises_of_none (Some side) change e = absurd (true≢false e)

rises_of_some : (high : Option ℚ) (change : ℚ) → is_some high ≡ true → rises_not high change ≡ le_test change zeroℚ
rises_of_some None change e = absurd (true≢false (sym e))
rises_of_some (Some side) change e = refl

pub returns-then-not-is_at_most : goal.returns-then-not-is_at_most
returns-then-not-is_at_most c = grind (arith, common_steps)

pub returns-else-is_none : goal.returns-else-is_none
returns-else-is_none c =
    let falls : falls_not c.args.low c.args.change ≡ true =
    elim c.else-is_some.branch [
      | else-is_some-via-then-is_some+else-not-is_at_most w ↦
          falls_of_test c.args.low c.args.change (ap (λ zero. le_test zero c.args.change) (sym w.zero.ensures)
          ∙ sym w.is_at_most.ensures ∙ w.if-not-is_at_most.false)
      | else-is_some-via-else-is_some w ↦
          falls_of_none c.args.low c.args.change (sym c.is_some.ensures ∙ w.if-is_some.false)
    ] in
    c.is_at_most-else-is_none.ensures
    ∙ ap (le_test c.args.change) c.zero-else-is_none.ensures
    ∙ sym (rises_of_some c.args.high c.args.change c.if-is_none.ensures)
    ∙ ap (λ falls. falls && rises_not c.args.high c.args.change) (sym falls)

pub returns-then-is_none : goal.returns-then-is_none
returns-then-is_none c =
    let falls : falls_not c.args.low c.args.change ≡ true =
    elim c.else-is_some.branch [
      | else-is_some-via-then-is_some+else-not-is_at_most w ↦
          falls_of_test c.args.low c.args.change (ap (λ zero. le_test zero c.args.change) (sym w.zero.ensures)
          ∙ sym w.is_at_most.ensures ∙ w.if-not-is_at_most.false)
      | else-is_some-via-else-is_some w ↦
          falls_of_none c.args.low c.args.change (sym c.is_some.ensures ∙ w.if-is_some.false)
    ] in
    c.if-is_none.true
    ∙ sym (rises_of_none c.args.high c.args.change c.if-is_none.ensures)
    ∙ ap (λ falls. falls && rises_not c.args.high c.args.change) (sym falls)
