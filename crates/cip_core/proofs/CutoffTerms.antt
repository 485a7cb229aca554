-- The terms of the cutoff row, one after another.
use Rattle.std.proofs.Common.{◌≡◌, ℕ, ◌+◌, ◌<◌, List, [], ◌∷◌, ◌++◌, length, get_or, None, sym, subst}
use Rattle.cip_rational.specs.Rational.{ℚ, zeroℚ}
use Rattle.cip_problem.specs.Program.{Row}
use Rattle.cip_rows.proofs.BuiltTerms.{Begun, begun_zero, begun_other}

-- a row that is built of costs, without sides
pub record CutoffBegun (costs : List ℚ) (at : ℕ) (row : Row) : Type 0 where
  pub begun : Begun costs at row.terms
  pub low : row.low ≡ None
  pub high : row.high ≡ None

pub cutoff_same : (costs : List ℚ) (at : ℕ) (row other : Row) → other ≡ row → CutoffBegun costs at row → CutoffBegun costs at other
cutoff_same costs at row other e b = subst (CutoffBegun costs at) (sym e) b

pub cutoff_zero : (costs : List ℚ) (at : ℕ) (row : Row) (d : ℚ) → at < length costs → d ≡ get_or costs at d → d ≡ zeroℚ → CutoffBegun costs at row → CutoffBegun costs (at + 1) row
cutoff_zero costs at row d l r z b = record { begun = begun_zero costs at row.terms d l r z b.begun; low = b.low; high = b.high }

pub cutoff_other : (costs : List ℚ) (at : ℕ) (row : Row) (d : ℚ) → at < length costs → d ≡ get_or costs at d → ¬ (d ≡ zeroℚ) → CutoffBegun costs at row → CutoffBegun costs (at + 1) (record row { terms = row.terms ++ record { column = at; coefficient = d } ∷ [] })
cutoff_other costs at row d l r n b = record { begun = begun_other costs at row.terms d l r n b.begun; low = b.low; high = b.high }
