-- What lies between two sides, and what the tests of sides and boxes say.
use Rattle.std.proofs.Common.{◌≡◌, true, false, List, [], ◌∷◌, length, Option, None, Some, IfSome, refl, sym, ◌∙◌, arith, true≢false}
use Rattle.std.proofs.lemmas.Bool.{and_parts, and_from}
use Rattle.cip_rational.specs.Rational.{ℚ, le_test, ◌≤ℚ◌}
use Rattle.cip_rational.proofs.Rational.Order.{≤ℚ_trans, ≤ℚ_refl, ≤ℚ_antisymm, le_of_test, test_of_le}
use Rattle.cip_problem.specs.Program.{Sides}
use Rattle.cip_problem.specs.Box.{Between, HasOneValue, IsInBox, low_inside, high_inside, sides_inside, box_inside, sides_equal, at_least, at_most, is_between}

-- ---- the tests of a value

pub above_of_test : (low : Option ℚ) (value : ℚ) → at_least low value ≡ true → IfSome low (λ side. side ≤ℚ value)
above_of_test None value h = tt
above_of_test (Some side) value h = le_of_test h

pub test_of_above : (low : Option ℚ) (value : ℚ) → IfSome low (λ side. side ≤ℚ value) → at_least low value ≡ true
test_of_above None value h = refl
test_of_above (Some side) value h = test_of_le h

pub below_of_test : (high : Option ℚ) (value : ℚ) → at_most high value ≡ true → IfSome high (λ side. value ≤ℚ side)
below_of_test None value h = tt
below_of_test (Some side) value h = le_of_test h

pub test_of_below : (high : Option ℚ) (value : ℚ) → IfSome high (λ side. value ≤ℚ side) → at_most high value ≡ true
test_of_below None value h = refl
test_of_below (Some side) value h = test_of_le h

-- a value that passes the test lies between the sides
pub between_of_test : (low high : Option ℚ) (value : ℚ) → is_between low high value ≡ true → Between low high value
between_of_test low high value h =
    let parts = and_parts (at_least low value) (at_most high value) h in
    record { above = above_of_test low value parts.0; below = below_of_test high value parts.1 }

-- a value between the sides passes the test
pub test_of_between : (low high : Option ℚ) (value : ℚ) → Between low high value → is_between low high value ≡ true
test_of_between low high value h = and_from (at_least low value) (at_most high value) (test_of_above low value h.above) (test_of_below high value h.below)

-- a value that fails it does not
pub not_between_of_test : (low high : Option ℚ) (value : ℚ) → is_between low high value ≡ false → ¬ Between low high value
not_between_of_test low high value h k = true≢false (sym (test_of_between low high value k) ∙ h)

-- ---- sides that are equal

pub one_value : (low high : Option ℚ) → sides_equal low high ≡ true → HasOneValue low high
one_value None high h = absurd (true≢false (sym h))
one_value (Some low) None h = absurd (true≢false (sym h))
one_value (Some low) (Some high) h =
    let parts = and_parts (le_test low high) (le_test high low) h in
    record {
      value = low;
      between = record { above = ≤ℚ_refl low; below = le_of_test parts.0 };
      only = λ other k. ≤ℚ_antisymm (≤ℚ_trans k.below (le_of_test parts.1)) k.above;
    }

-- ---- sides inside others

pub low_inside_holds : (own outer : Option ℚ) (value : ℚ) → low_inside own outer ≡ true → IfSome own (λ side. side ≤ℚ value) → IfSome outer (λ side. side ≤ℚ value)
low_inside_holds own None value h k = tt
low_inside_holds None (Some outer) value h k = absurd (true≢false (sym h))
low_inside_holds (Some own) (Some outer) value h k = ≤ℚ_trans (le_of_test h) k

pub high_inside_holds : (own outer : Option ℚ) (value : ℚ) → high_inside own outer ≡ true → IfSome own (λ side. value ≤ℚ side) → IfSome outer (λ side. value ≤ℚ side)
high_inside_holds own None value h k = tt
high_inside_holds None (Some outer) value h k = absurd (true≢false (sym h))
high_inside_holds (Some own) (Some outer) value h k = ≤ℚ_trans k (le_of_test h)

pub sides_inside_holds : (own outer : Sides) (value : ℚ) → sides_inside own outer ≡ true → Between own.low own.high value → Between outer.low outer.high value
sides_inside_holds own outer value h k =
    let parts = and_parts (low_inside own.low outer.low) (high_inside own.high outer.high) h in
    record {
      above = low_inside_holds own.low outer.low value parts.0 k.above;
      below = high_inside_holds own.high outer.high value parts.1 k.below;
    }

-- each point of an inner box is one of the outer box
pub inner_box_holds : (own outer : List Sides) (point : List ℚ) → length own ≡ length outer → box_inside own outer ≡ true → IsInBox own point → IsInBox outer point
inner_box_holds [] [] point e h k = k
inner_box_holds [] (o ∷ os) point e h k = absurd (omega (arith, e))
inner_box_holds (s ∷ ss) [] point e h k = absurd (omega (arith, e))
inner_box_holds (s ∷ ss) (o ∷ os) [] e h k = absurd k
inner_box_holds (s ∷ ss) (o ∷ os) (v ∷ vs) e h k =
    let parts = and_parts (sides_inside s o) (box_inside ss os) h in
    (sides_inside_holds s o v parts.0 k.0, inner_box_holds ss os vs (omega (arith, e)) parts.1 k.1)
