-- What the tests of a point say.
use Rattle.std.proofs.Common.{◌≡◌, ℕ, true, false, List, [], ◌∷◌, ◌++◌, length, All, Result, Ok, Err, IfOk, sym, subst}
use Rattle.std.specs.List.{AllByRecursion}
use Rattle.std.specs.Borrow.{Bor}
use Rattle.std.proofs.lemmas.Bool.{and_parts}
use Rattle.std.proofs.lemmas.List.Elements.{All-map, All-filter, recursion_from_All, All-from_recursion}
use Rattle.cip_rational.specs.Rational.{ℚ, zeroℚ}
use Rattle.cip_problem.specs.Program.{Sides, Row}
use Rattle.cip_problem.specs.Activity.{activity, StandsBelow}
use Rattle.cip_problem.specs.Box.{Between, IsInBox, is_between, box_inside}
use Rattle.cip_problem.specs.Points.{IsSatisfied}
use Rattle.cip_problem.proofs.Box.SideTests.{between_of_test}
use Rattle.cip_frac.specs.declared.operations.Wide.{Wide}
use Rattle.cip_lin.specs.RowSums.{activity_from}
use Rattle.cip_lin.proofs.RowSums.ActivityValue.{activity_from-zero}
use Rattle.cip_problem.specs.LinearProgram.{IsPoint}
use Rattle.cip_basis.specs.declared.problem.Problem.{Problem}
use Rattle.cip_cert.specs.declared.rows.PoolRow.{PoolRow}
use Rattle.cip_cert.specs.Lent.{KeptFits}
use Rattle.cip_rows.specs.RowPools.{usable_in}
use Rattle.cip_basis.specs.Shown.{lent_rows, usable_rows, program_of, IsReady}
use Rattle.cip_basis.specs.PointTests.{keeps_box, is_within, keeps_rows}

false_is_none : (P : Type 0) → false ≡ true → P
false_is_none P e = absurd (cc)

pub kept_box : (box : List Sides) (point : List ℚ) → keeps_box box point ≡ true → IsInBox box point
kept_box [] [] e = tt
kept_box [] (v ∷ vs) e = false_is_none (IsInBox [] (v ∷ vs)) e
kept_box (s ∷ ss) [] e = false_is_none (IsInBox (s ∷ ss) []) e
kept_box (s ∷ ss) (v ∷ vs) e =
    let parts = and_parts (is_between s.low s.high v) (keeps_box ss vs) e in
    (between_of_test s.low s.high v parts.0, kept_box ss vs parts.1)

-- a sum that is the activity, where there is one
satisfied : (row : Row) (point : List ℚ) (sum : Result ℚ Wide) → IfOk sum (λ v. v ≡ activity row.terms point) → is_within row sum ≡ true → IsSatisfied row point
satisfied row point (Ok v) h e = subst (λ t. Between row.low row.high t) h (between_of_test row.low row.high v e)
satisfied row point (Err wide) h e = false_is_none (IsSatisfied row point) e

pub kept_rows : (rows : List Row) (point : List ℚ) → keeps_rows rows point ≡ true → AllByRecursion (λ row. IsSatisfied row point) rows
kept_rows [] point e = tt
kept_rows (r ∷ rs) point e =
    let parts = and_parts (is_within r (activity_from zeroℚ r.terms point)) (keeps_rows rs point) e in
    (satisfied r point (activity_from zeroℚ r.terms point) (activity_from-zero r.terms point) parts.0, kept_rows rs point parts.1)

pub all_appended : {X : Type 0} (P : X → Type 0) (xs ys : List X) → AllByRecursion P xs → AllByRecursion P ys → AllByRecursion P (xs ++ ys)
all_appended P [] ys h k = k
all_appended P (x ∷ xs) ys h k = (h.0, all_appended P xs ys h.1 k)

pub front_of : {X : Type 0} (P : X → Type 0) (xs ys : List X) → AllByRecursion P (xs ++ ys) → AllByRecursion P xs
front_of P [] ys h = tt
front_of P (x ∷ xs) ys h = (h.0, front_of P xs ys h.1)

pub back_of : {X : Type 0} (P : X → Type 0) (xs ys : List X) → AllByRecursion P (xs ++ ys) → AllByRecursion P ys
back_of P [] ys h = h
back_of P (x ∷ xs) ys h = back_of P xs ys h.1

-- the tests together
pub tested : (problem : Problem) (point : List ℚ) → keeps_box problem.bounds.now point ≡ true → keeps_rows problem.own.now point ≡ true → keeps_rows (lent_rows problem.others.now) point ≡ true → IsPoint (program_of problem) point
tested problem point e f g = record {
  within = kept_box problem.bounds.now point e;
  rows = all_appended (λ row. IsSatisfied row point) problem.own.now (lent_rows problem.others.now) (kept_rows problem.own.now point f) (kept_rows (lent_rows problem.others.now) point g);
}

-- ---- all rows stand on columns of the box

-- a fact of rows that are lent, of the references
lent_each : (P : Row → Type 0) (rows : List (Bor Row)) → AllByRecursion P (lent_rows rows) → AllByRecursion (λ row. P row.now) rows
lent_each P [] h = tt
lent_each P (r ∷ rs) h = (h.0, lent_each P rs h.1)

pub each_lent : (P : Row → Type 0) (rows : List (Bor Row)) → All P (lent_rows rows) → All (λ row. P row.now) rows
each_lent P rows h = All-from_recursion (λ row. P row.now) rows (lent_each P rows (recursion_from_All P (lent_rows rows) h))

-- so do the rows of a pool that may be used in a box
pub usable_stand : (box : List Sides) (n : ℕ) (pool : List PoolRow) → All (KeptFits n) pool → All (λ row. StandsBelow n row.terms) (usable_rows box pool)
usable_stand box n pool h =
    All-map (λ (row : Row). StandsBelow n row.terms) (λ (kept : PoolRow). kept.row) (usable_in box pool)
    (λ k d l. (All-filter (λ (kept : PoolRow). box_inside box kept.scope) (KeptFits n) pool h k d l).stands)

pub own_stand : (problem : Problem) (n : ℕ) → n ≡ length problem.bounds.now → IsReady problem → All (λ row. StandsBelow n row.terms) problem.own.now
own_stand problem n e r = subst (λ m. All (λ (row : Row). StandsBelow m row.terms) problem.own.now) (sym e) r.fits.own

pub others_stand : (problem : Problem) (n : ℕ) → n ≡ length problem.bounds.now → IsReady problem → All (λ row. StandsBelow n row.terms) (lent_rows problem.others.now)
others_stand problem n e r =
    subst (λ m. All (λ (row : Row). StandsBelow m row.terms) (lent_rows problem.others.now)) (sym e)
    (subst (λ (rows : List Row). All (λ (row : Row). StandsBelow (length problem.bounds.now) row.terms) rows) (sym r.others)
    (usable_stand problem.bounds.now (length problem.bounds.now) problem.pool.now r.fits.pool))
