-- Columns with equal sides.
use Rattle.std.proofs.Common.{◌≡◌, ℕ, true, false, Bool, Option, None, Some, Ok, slice_get, refl, sym, ap, ◌∙◌, subst, true≢false}
use Rattle.std.specs.Prelude.{if◌then◌else◌}
use Rattle.std.proofs.lemmas.Option.{none-some}
use Rattle.std.proofs.lemmas.Bool.{and_parts}
use Rattle.cip_rational.specs.Rational.{ℚ, ◌+ℚ◌, ◌*ℚ◌, zeroℚ, IsWhole, le_test}
use Rattle.cip_rational.proofs.Rational.Order.{≤ℚ_antisymm, le_of_test}
use Rattle.cip_problem.specs.Program.{Sides, Program}
use Rattle.cip_problem.specs.Activity.{value_at}
use Rattle.cip_problem.specs.Box.{sides_at, sides_equal}
use Rattle.cip_presolve.specs.Outcomes.{product_added}
use Rattle.cip_lin.proofs.PassedOn.{product_added-value}
use Rattle.cip_presolve.specs.NarrowedPrograms.{IsExactStep, IsInfeasible, with_cost}
use Rattle.cip_search.proofs.RowSteps.{recosted, not_whole}
use Rattle.cip_search.proofs.Pairing.{exact_self}
use Rattle.cip_presolve.specs.RowReading.{only_value}

both_of : (low high : Option ℚ) (value : ℚ) (t : Bool) → sides_equal low high ≡ t → (if t then low else None) ≡ Some value → (low ≡ Some value) × (high ≡ Some value)
both_of None high value true e k = absurd (none-some value k)
both_of (Some a) None value true e k = absurd (true≢false (sym e))
both_of (Some a) (Some b) value true e k =
    let p = and_parts (le_test a b) (le_test b a) e in
    (k, ap Some (≤ℚ_antisymm (le_of_test p.1) (le_of_test p.0)) ∙ k)
both_of low high value false e k = absurd (none-some value k)

pub both_sides : (sides : Sides) (value : ℚ) → only_value sides ≡ Some value → (sides.low ≡ Some value) × (sides.high ≡ Some value)
both_sides sides value e = both_of sides.low sides.high value (sides_equal sides.low sides.high) refl e

pub recosted_by : (program changed : Program) (column : ℕ) (value constant : ℚ) → Some value ≡ only_value (sides_at program.bounds column) → product_added program.constant (value_at program.costs column) value ≡ Ok constant → changed ≡ with_cost program column zeroℚ constant → IsExactStep program changed
recosted_by program changed column value constant e a k =
    let both = both_sides (sides_at program.bounds column) value (sym e) in
    let v : constant ≡ program.constant +ℚ value_at program.costs column *ℚ value = rw a at (product_added-value program.constant (value_at program.costs column) value) in
    subst (λ p. IsExactStep program p) (sym (k ∙ ap (λ q. with_cost program column zeroℚ q) v))
    (recosted program column value both.0 both.1)

pub fractional_by : (program : Program) (column : ℕ) (value : ℚ) → Some value ≡ only_value (sides_at program.bounds column) → slice_get program.integral column ≡ Some true → ¬ IsWhole value → IsInfeasible program
fractional_by program column value e w n =
    let both = both_sides (sides_at program.bounds column) value (sym e) in
    not_whole program column value w both.0 both.1 n

pub ruleset fixed_columns = (exact_self, recosted_by, fractional_by)
