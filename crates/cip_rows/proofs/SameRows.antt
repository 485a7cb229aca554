-- Rows and lists of terms that are equal part by part.
use Rattle.std.proofs.Common.{◌≡◌, ap}
use Rattle.cip_problem.specs.Program.{Row}

pub same_rows : (a b : Row) → a.low ≡ b.low → a.high ≡ b.high → a.terms ≡ b.terms → a ≡ b
same_rows a b low high terms = λ i. record { terms = terms i; low = low i; high = high i }

pub same_parts : (a b : Row) → a ≡ b → (a.low ≡ b.low) × (a.high ≡ b.high) × (a.terms ≡ b.terms)
same_parts a b e = (ap (λ (r : Row). r.low) e, ap (λ (r : Row). r.high) e, ap (λ (r : Row). r.terms) e)
