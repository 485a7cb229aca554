-- What a side without a fault asks for, and one that leaves no value.
use Rattle.std.proofs.Common.{◌≡◌, ℕ, ◌<◌, ◌≤◌, ◌^◌, nat_lt, unsigned_abs, Bool, true, false, not, ◌&&◌, if◌then◌else◌, List, Option, None, Some, IfSome, Ok, refl, sym, subst, arith, true≢false}
use Rattle.std.proofs.lemmas.Bool.{or_parts}
use Rattle.std.proofs.lemmas.Option.{none-some}
use Rattle.cip_rational.specs.Rational.{ℚ, ◌≤ℚ◌, floor, ceil}
use Rattle.cip_rational.proofs.Rational.Order.{≤ℚ_trans}
use Rattle.cip_problem.specs.Program.{Sides, Program}
use Rattle.cip_problem.specs.Activity.{value_at}
use Rattle.cip_problem.specs.Box.{no_sides, sides_at, Between, is_between}
use Rattle.cip_problem.specs.WellFormed.{columns}
use Rattle.cip_problem.proofs.Box.SideTests.{not_between_of_test}
use Rattle.cip_problem.proofs.Points.AtPlaces.{in_box_at}
use Rattle.cip_problem.specs.Improving.{HoldsInBox, HasNoImproving}
use Rattle.cip_lin.specs.declared.sides.Side.{Side}
use Rattle.cip_lin.specs.declared.sides.Side.TheVariants.{Low, High}
use Rattle.cip_domain.specs.Changes.{with_side, side_change, is_as_strong, would_cross}
use Rattle.cip_domain.specs.Domain.{tightening}
use Rattle.cip_domain.specs.Narrowing.{Meets}
use Rattle.cip_domain.specs.declared.stores.Tightened.TheVariants.{Yes, Same, Empty}
use Rattle.cip_core.specs.OpenColumns.{is_whole_at}
use Rattle.cip_core.specs.SplitRules.{AreNear}
use Rattle.cip_core.specs.KeptNodes.{farthest}
use Rattle.cip_tree.specs.Nodes.{TakenNode}
use Rattle.cip_core.specs.CoreStates.{CoreState}
use Rattle.cip_core.specs.SidesTold.{IsSideTaken}
use Rattle.cip_domain.specs.declared.stores.Tightened.{Tightened}
use Rattle.cip_domain.proofs.Marks.{empty_case}
use Rattle.cip_calls.specs.ReductionsJudged.{is_far, side_fault, by_check, judged_by, IsAfterReduction}
use Rattle.cip_calls.specs.declared.judged.Judged.TheVariants.{Emptied}
use Rattle.cip_calls.specs.declared.judged.NodeFault.TheVariants.{NoSuchColumn, TooFar}

-- ---- no fault

parts : (inside whole far : Bool) → (if inside then (if whole && far then Some TooFar else None) else Some NoSuchColumn) ≡ None → (inside ≡ true) × (whole ≡ true → far ≡ false)
parts true true true e = absurd (none-some TooFar (sym e))
parts true true false e = (refl, λ f. refl)
parts true false far e = (refl, λ f. absurd (true≢false (sym f)))
parts false whole far e = absurd (none-some NoSuchColumn (sym e))

less_of : (a b : ℕ) → nat_lt a b ≡ true → a < b
less_of a b e = grind arith

most_of : (a b : ℕ) → nat_lt a b ≡ false → b ≤ a
most_of a b e = grind arith

pub named_inside : (program : Program) (column : ℕ) (value : ℚ) → side_fault program column value ≡ None → column < columns program
named_inside program column value e =
    less_of column (columns program) (parts (nat_lt column (columns program)) (is_whole_at program.integral column) (is_far value) e).0

near_of : (side : Side) (value : ℚ) (ids : ℕ) → is_far value ≡ false → AreNear (farthest ids) (with_side no_sides side (Some value))
near_of Low value ids e =
    let p = or_parts (nat_lt (2 ^ 100) (unsigned_abs (ceil value))) (nat_lt (2 ^ 100) (unsigned_abs (floor value))) e in
    record { low = omega (arith, most_of (2 ^ 100) (unsigned_abs (ceil value)) p.0); high = tt }
near_of High value ids e =
    let p = or_parts (nat_lt (2 ^ 100) (unsigned_abs (ceil value))) (nat_lt (2 ^ 100) (unsigned_abs (floor value))) e in
    record { low = tt; high = omega (arith, most_of (2 ^ 100) (unsigned_abs (floor value)) p.1) }

pub named_near : (program : Program) (column : ℕ) (side : Side) (value : ℚ) (ids : ℕ) → side_fault program column value ≡ None → is_whole_at program.integral column ≡ true → AreNear (farthest ids) (with_side no_sides side (Some value))
named_near program column side value ids e whole =
    near_of side value ids ((parts (nat_lt column (columns program)) (is_whole_at program.integral column) (is_far value) e).1 whole)

-- ---- no value

not_true : (b : Bool) → not b ≡ true → b ≡ false
not_true true e = absurd (true≢false (sym e))
not_true false e = refl

lower_still : (high : Option ℚ) (value x : ℚ) → value ≤ℚ x → IfSome high (λ side. x ≤ℚ side) → IfSome high (λ side. value ≤ℚ side)
lower_still None value x l h = tt
lower_still (Some side) value x l h = ≤ℚ_trans l h

higher_still : (low : Option ℚ) (value x : ℚ) → x ≤ℚ value → IfSome low (λ side. side ≤ℚ x) → IfSome low (λ side. side ≤ℚ value)
higher_still None value x l h = tt
higher_still (Some side) value x l h = ≤ℚ_trans h l

crossed : (sides : Sides) (side : Side) (value x : ℚ) → would_cross sides side value ≡ true → Between sides.low sides.high x → Between (with_side no_sides side (Some value)).low (with_side no_sides side (Some value)).high x → ⊥
crossed sides Low value x e b m =
    not_between_of_test None sides.high value (not_true (is_between None sides.high value) e) (record { above = tt; below = lower_still sides.high value x m.above b.below })
crossed sides High value x e b m =
    not_between_of_test sides.low None value (not_true (is_between sides.low None value) e) (record { above = higher_still sides.low value x m.below b.above; below = tt })

pub none_left : (program : Program) (held : Option ℚ) (box : List Sides) (column : ℕ) (side : Side) (value : ℚ) → HoldsInBox program held box (λ point. Meets point (side_change column side value)) → tightening (sides_at box column) side value ≡ Empty → HasNoImproving program held box
none_left program held box column side value h e point i w =
    crossed (sides_at box column) side value (value_at point column)
    (empty_case (is_as_strong (sides_at box column) side value) (would_cross (sides_at box column) side value) e)
    (in_box_at box point column w) (h point i w)

-- ---- a side that isn't refused

pub after_side : (old new : CoreState) (had has : TakenNode) (column : ℕ) (side : Side) (value : ℚ) (outcome : Tightened) → IsSideTaken old new had has column side value outcome → IsAfterReduction (judged_by None outcome) old new had has column side value
after_side old new had has column side value Yes t = subst (IsSideTaken old new had has column side value) t.outcome t
after_side old new had has column side value Same t = subst (IsSideTaken old new had has column side value) t.outcome t
after_side old new had has column side value Empty t = t.same (λ e. cc)

pub by_check_ok : (value : ℚ) (outcome : Tightened) → judged_by None outcome ≡ by_check (Ok value) outcome
by_check_ok value Yes = refl
by_check_ok value Same = refl
by_check_ok value Empty = refl

pub emptied_side : (outcome : Tightened) → judged_by None outcome ≡ Emptied → outcome ≡ Empty
emptied_side Yes e = absurd (cc)
emptied_side Same e = absurd (cc)
emptied_side Empty e = refl
