use Rattle.std.proofs.Common.{◌≡◌, ◌∙◌, to_z, of_z, int_lt, ap₂, sym, ap}
use Rattle.std.specs.Int.{w128}
use Rattle.std.proofs.lemmas.Int.{to_z-of_z}
use Rattle.cip_rational.specs.Rational.{denominator}
use Rattle.cip_rational.proofs.Comparisons.{is_lt-compare}
use Rattle.cip_simplex.proofs.WholeOrder.{whole_below}
use Rattle.cip_simplex.proofs.headings.is_below.Goals as goal

pub returns-then-denominator-eq1-2 : goal.returns-then-denominator-eq1-2
returns-then-denominator-eq1-2 c =
    let n : to_z w128 (of_z w128 c.numerator.result) ≡ c.numerator.result = to_z-of_z w128 c.numerator.result (record { sfits = c.numerator.type_inv }) in
    let m : to_z w128 (of_z w128 c.numerator-then-denominator-eq1-2.result) ≡ c.numerator-then-denominator-eq1-2.result = to_z-of_z w128 c.numerator-then-denominator-eq1-2.result (record { sfits = c.numerator-then-denominator-eq1-2.type_inv }) in
    let da : denominator c.args.a ≡ 1 = sym (ap (of_z w128) c.denominator.ensures.value) ∙ c.if-denominator-eq1.true in
    let db : denominator c.args.b ≡ 1 = sym (ap (of_z w128) c.denominator-then-denominator-eq1.ensures.value) ∙ c.if-denominator-eq1-2.true in
    ap₂ int_lt (n ∙ c.numerator.ensures.value) (m ∙ c.numerator-then-denominator-eq1-2.ensures.value) ∙ whole_below c.args.a c.args.b da db

pub returns : goal.returns
returns c = c.lt.ensures ∙ is_lt-compare _ _
