-- Sides of a column in a reduced program and in the program, between the reduced program's own sides.
use Rattle.std.proofs.Common.{◌≡◌, ℤ, pos, ◌+ℤ◌, true, Option, None, Some, IfSome}
use Rattle.cip_rational.specs.Rational.{ℚ, integer, ◌≤ℚ◌}
use Rattle.cip_rational.proofs.Rational.Order.{≤ℚ_trans}
use Rattle.cip_problem.specs.Program.{Sides}
use Rattle.cip_problem.specs.Box.{Between, sides_inside}
use Rattle.cip_problem.specs.Choices.{met, greater, lesser}
use Rattle.cip_problem.specs.Wholes.{HasWhole}
use Rattle.cip_problem.proofs.Box.SideTests.{sides_inside_holds}
use Rattle.cip_problem.proofs.Choices.Meeting.{between_both, between_met}
use Rattle.cip_problem.proofs.Log.Halves.{at_le_next}

abbrev pub Above : Option ℚ → ℚ → Type 0
Above low value = IfSome low (λ side. side ≤ℚ value)

abbrev pub Below : Option ℚ → ℚ → Type 0
Below high value = IfSome high (λ side. value ≤ℚ side)

-- sides lie within the base's, and where a value lies between the base's, each side lets it through exactly where the
-- other's does
pub record Agree (base own other : Sides) : Type 0 where
  pub within : (value : ℚ) → Between own.low own.high value → Between base.low base.high value
  pub low : (value : ℚ) → Between base.low base.high value → (Above own.low value → Above other.low value) × (Above other.low value → Above own.low value)
  pub high : (value : ℚ) → Between base.low base.high value → (Below own.high value → Below other.high value) × (Below other.high value → Below own.high value)

pub agree_there : (base own other : Sides) (value : ℚ) → Agree base own other → Between own.low own.high value → Between other.low other.high value
agree_there base own other value a h =
    let b = a.within value h in
    record { above = (a.low value b).0 h.above; below = (a.high value b).0 h.below }

pub agree_back : (base own other : Sides) (value : ℚ) → Agree base own other → Between base.low base.high value → Between other.low other.high value → Between own.low own.high value
agree_back base own other value a b h = record { above = (a.low value b).1 h.above; below = (a.high value b).1 h.below }

pub agree_first : (base outer : Sides) → sides_inside base outer ≡ true → Agree base base outer
agree_first base outer i = record {
  within = λ value h. h;
  low = λ value b. ((λ h. (sides_inside_holds base outer value i b).above), λ h. b.above);
  high = λ value b. ((λ h. (sides_inside_holds base outer value i b).below), λ h. b.below);
}

-- ---- halves, where the other half has a whole number

below_next : (high : Option ℚ) (value : ℚ) (at m : ℤ) → value ≤ℚ integer at → integer (at +ℤ pos 1) ≤ℚ integer m → Below high (integer m) → Below high value
below_next None value at m h k l = tt
below_next (Some high) value at m h k l = ≤ℚ_trans (≤ℚ_trans h (at_le_next at)) (≤ℚ_trans k l)

above_next : (low : Option ℚ) (value : ℚ) (at m : ℤ) → integer (at +ℤ pos 1) ≤ℚ value → integer m ≤ℚ integer at → Above low (integer m) → Above low value
above_next None value at m h k l = tt
above_next (Some low) value at m h k l = ≤ℚ_trans l (≤ℚ_trans k (≤ℚ_trans (at_le_next at) h))

pub agree_low : (base own other : Sides) (at : ℤ) → HasWhole (record { low = Some (integer (at +ℤ pos 1)); high = own.high }) → Agree base own other → Agree base (record { low = own.low; high = Some (integer at) }) (record { low = other.low; high = Some (integer at) })
agree_low base own other at w a = record {
  within = λ value h. a.within value (record { above = h.above; below = below_next own.high value at w.number h.below w.between.above w.between.below });
  low = a.low;
  high = λ value b. ((λ h. h), λ h. h);
}

pub agree_high : (base own other : Sides) (at : ℤ) → HasWhole (record { low = own.low; high = Some (integer at) }) → Agree base own other → Agree base (record { low = Some (integer (at +ℤ pos 1)); high = own.high }) (record { low = Some (integer (at +ℤ pos 1)); high = other.high })
agree_high base own other at w a = record {
  within = λ value h. a.within value (record { above = above_next own.low value at w.number h.above w.between.below w.between.above; below = h.below });
  low = λ value b. ((λ h. h), λ h. h);
  high = a.high;
}

-- ---- sides that are met with others

above_parts : (a b : Option ℚ) (value : ℚ) → Above (greater a b) value → Above a value × Above b value
above_parts a b value h =
    let p = between_both (record { low = a; high = None }) (record { low = b; high = None }) value (record { above = h; below = tt }) in
    (p.0.above, p.1.above)

above_both : (a b : Option ℚ) (value : ℚ) → Above a value → Above b value → Above (greater a b) value
above_both a b value h k = (between_met (record { low = a; high = None }) (record { low = b; high = None }) value (record { above = h; below = tt }) (record { above = k; below = tt })).above

below_parts : (a b : Option ℚ) (value : ℚ) → Below (lesser a b) value → Below a value × Below b value
below_parts a b value h =
    let p = between_both (record { low = None; high = a }) (record { low = None; high = b }) value (record { above = tt; below = h }) in
    (p.0.below, p.1.below)

below_both : (a b : Option ℚ) (value : ℚ) → Below a value → Below b value → Below (lesser a b) value
below_both a b value h k = (between_met (record { low = None; high = a }) (record { low = None; high = b }) value (record { above = tt; below = h }) (record { above = tt; below = k })).below

pub agree_met : (base own other more : Sides) → Agree base own other → Agree base (met own more) (met other more)
agree_met base own other more a = record {
  within = λ value h. a.within value (between_both own more value h).0;
  low = λ value b. (
    (λ h. let p = above_parts own.low more.low value h in above_both other.low more.low value ((a.low value b).0 p.0) p.1),
    λ h. (let p = above_parts other.low more.low value h in above_both own.low more.low value ((a.low value b).1 p.0) p.1),
  );
  high = λ value b. (
    (λ h. let p = below_parts own.high more.high value h in below_both other.high more.high value ((a.high value b).0 p.0) p.1),
    λ h. (let p = below_parts other.high more.high value h in below_both own.high more.high value ((a.high value b).1 p.0) p.1),
  );
}
