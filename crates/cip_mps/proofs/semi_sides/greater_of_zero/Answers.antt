use Rattle.std.proofs.lemmas.Grind.{common_steps}
use Rattle.std.proofs.Common.{◌∙◌, sym, refl, ap, Some, arith}
use Rattle.cip_rational.specs.Rational.{le_test}
use Rattle.cip_rational.proofs.Comparisons.{is_le-compare}
use Rattle.cip_mps.proofs.semi_sides.greater_of_zero.Goals.{then-le, else-le}
use Rattle.cip_mps.proofs.semi_sides.greater_of_zero.Goals as goal

pub returns-after-le : goal.returns-after-le
returns-after-le c =
    let test = sym (c.le.ensures ∙ is_le-compare _ _ ∙ ap (λ zero. le_test zero c.in-Some.side) c.zero-zero.ensures) in
    elim c.if-le.branch [
      | then-le w ↦ rw (c.in-Some.is, test ∙ w.if-le.true, w.result-is) refl
      | else-le w ↦ rw (c.in-Some.is, test ∙ w.if-le.false, w.result-is) (ap Some c.zero-zero.ensures)
    ]

pub returns-in-None : goal.returns-in-None
returns-in-None c = grind (arith, common_steps)
