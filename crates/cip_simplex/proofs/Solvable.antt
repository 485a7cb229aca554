-- Linear programs that can be solved, by what was tested.
use Rattle.std.proofs.Common.{◌≡◌, ℕ, ◌+◌, ◌-◌, ◌<◌, ◌≤◌, ◌^◌, true, List, length, get_or, take, All, ltb, subst, arith}
use Rattle.std.proofs.lemmas.Bool.{ltb-true}
use Rattle.std.proofs.lemmas.List.{take_all}
use Rattle.std.proofs.lemmas.List.Elements.{All-more}
use Rattle.cip_rational.specs.Rational.{ℚ}
use Rattle.cip_problem.specs.Activity.{StandsBelow}
use Rattle.cip_problem.specs.Program.{Term, Row, Sides}
use Rattle.cip_simplex.specs.LpShape.{IsSolvable}

-- one more row stands on the columns
pub stands_more : (n len : ℕ) (rows : List Row) (i : ℕ) (row : Row) (terms : List Term) → All (λ (r : Row). StandsBelow n r.terms) (take i rows) → i < length rows → row ≡ get_or rows i row → terms ≡ row.terms → len ≡ n → StandsBelow len terms → All (λ (r : Row). StandsBelow n r.terms) (take (i + 1) rows)
stands_more n len rows i row terms h l read same long s =
    All-more (λ (r : Row). StandsBelow n r.terms) rows i row l h
    (subst (λ (r : Row). StandsBelow n r.terms) read (subst (λ (ts : List Term). StandsBelow n ts) same (subst (λ (m : ℕ). StandsBelow m terms) long s)))

pub solvable_by : (rows : List Row) (bounds : List Sides) (costs : List ℚ) (i : ℕ) → length costs ≡ length bounds → All (λ (r : Row). StandsBelow (length bounds) r.terms) (take i rows) → length rows ≤ i → length bounds < 2 ^ 32 → ltb (length rows) (2 ^ 32 - length bounds) ≡ true → IsSolvable (record { rows = rows; bounds = bounds; costs = costs })
solvable_by rows bounds costs i long stand all few room =
    let l = ltb-true (length rows) (2 ^ 32 - length bounds) room in
    record {
      proper = record { costs = long; rows = subst (λ (rs : List Row). All (λ (r : Row). StandsBelow (length bounds) r.terms) rs) (take_all i rows all) stand };
      few = omega (arith, l, few);
    }
