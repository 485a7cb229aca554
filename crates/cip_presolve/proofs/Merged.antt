-- Rows with equal terms.
use Rattle.std.proofs.Common.{◌≡◌, ◌≢◌, ℕ, zero, suc, ◌≤◌, true, List, [], ◌∷◌, length, take, Option, Some, slice_get, refl, sym, ap, ◌∙◌, subst, arith}
use Rattle.std.specs.Prelude.{slice_set}
use Rattle.cip_rational.specs.Rational.{ℚ}
use Rattle.cip_problem.specs.Program.{Term, Sides, Row, Program, no_row}
use Rattle.cip_problem.specs.Activity.{activity, StandsBelow}
use Rattle.cip_problem.specs.Box.{Between}
use Rattle.cip_problem.specs.Choices.{met}
use Rattle.cip_problem.proofs.Points.AtPlaces.{satisfied_at}
use Rattle.cip_problem.proofs.Choices.Meeting.{between_met}
use Rattle.cip_lin.specs.MetSides.{is_past}
use Rattle.cip_search.specs.NarrowedPrograms.{IsExactStep, IsInfeasible, with_row}
use Rattle.cip_search.specs.RowSteps.{merged_row}
use Rattle.cip_search.proofs.RowSteps.{merged}
use Rattle.cip_search.proofs.Pairing.{exact_self}
use Rattle.cip_presolve.proofs.Enclosing.{past_below}
use Rattle.cip_presolve.specs.RowsMet.{sides_of}
use Rattle.cip_presolve.proofs.Free.{take_whole}

-- the first terms are the same
pub record SameTo (ones others : List Term) (n : ℕ) : Type 0 where
  pub long : length ones ≡ length others
  pub same : take n ones ≡ take n others

pub none_same : (ones others : List Term) → length ones ≡ length others → SameTo ones others 0
none_same ones others e = record { long = e; same = refl }

pub all_same : (ones others : List Term) (n : ℕ) → SameTo ones others n → length ones ≤ n → ones ≡ others
all_same ones others n s e = let long = s.long in sym (take_whole ones n e) ∙ s.same ∙ take_whole others n (omega (arith, e, long))

pub ruleset same_terms = (none_same, all_same)

-- ---- the step

pub merged_by : (program middle changed : Program) (first second : ℕ) (row other new : Row) (sides : Sides) → first ≢ second → slice_get program.rows first ≡ Some row → slice_get program.rows second ≡ Some other → row.terms ≡ other.terms → sides ≡ met (sides_of row) (sides_of other) → new ≡ record { terms = row.terms; low = sides.low; high = sides.high } → middle ≡ with_row program first new → changed ≡ with_row middle second no_row → IsExactStep program changed
merged_by program middle changed first second row other new sides n g h t s e m k =
    let is : new ≡ merged_row row other = e ∙ ap (λ (p : Sides). record { terms = row.terms; low = p.low; high = p.high }) s in
    subst (λ p. IsExactStep program p) (sym (k ∙ ap (λ p. with_row p second no_row) (m ∙ ap (λ r. with_row program first r) is)))
    (merged program first second row other n g h t)

pub made_by : (row new : Row) (terms : List Term) (low high : Option ℚ) (sides : Sides) → new ≡ record { terms = terms; low = low; high = high } → terms ≡ row.terms → low ≡ sides.low → high ≡ sides.high → new ≡ record { terms = row.terms; low = sides.low; high = sides.high }
made_by row new terms low high sides e t l h = rw (sym t, sym l, sym h) e

pub never_met : (program : Program) (first second : ℕ) (row other : Row) (sides : Sides) → slice_get program.rows first ≡ Some row → slice_get program.rows second ≡ Some other → row.terms ≡ other.terms → sides ≡ met (sides_of row) (sides_of other) → is_past sides.low sides.high ≡ true → IsInfeasible program
never_met program first second row other sides g h t s e y f =
    let one : Between row.low row.high (activity row.terms y) = satisfied_at program.rows y first row f.rows g in
    let two : Between other.low other.high (activity row.terms y) = subst (λ (ts : List Term). Between other.low other.high (activity ts y)) (sym t) (satisfied_at program.rows y second other f.rows h) in
    let both : Between (met (sides_of row) (sides_of other)).low (met (sides_of row) (sides_of other)).high (activity row.terms y) = between_met (sides_of row) (sides_of other) (activity row.terms y) one two in
    let between : Between sides.low sides.high (activity row.terms y) = subst (λ (p : Sides). Between p.low p.high (activity row.terms y)) (sym s) both in
    past_below sides.low sides.high (activity row.terms y) e between.above between.below

pub count_same : (rows : List Row) (number : ℕ) (row : Row) → length (slice_set rows number row) ≡ length rows
count_same [] number row = refl
count_same (r ∷ rs) zero row = refl
count_same (r ∷ rs) (suc number) row = ap (λ n. suc n) (count_same rs number row)

pub terms_stand : (columns : ℕ) (row new : Row) (low high : Option ℚ) → StandsBelow columns row.terms → new ≡ record { terms = row.terms; low = low; high = high } → StandsBelow columns new.terms
terms_stand columns row new low high h e = subst (λ (r : Row). StandsBelow columns r.terms) (sym e) h

pub ruleset merging = (exact_self, merged_by, never_met, count_same, terms_stand)
