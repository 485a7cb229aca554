-- Tables that grow by one value.
use Rattle.std.proofs.Common.{◌≡◌, ℕ, ◌+◌, [], ◌∷◌, ◌++◌, refl, arith}
use Rattle.std.proofs.lemmas.List.FromFn.{map-range_with_len_more}
use Rattle.cip_bland.specs.Tables.{table}

pub table_none : {X : Type 0} (f : ℕ → X) → [] ≡ table 0 f
unfolding table
table_none f = refl

pub table_more : {X : Type 0} (n : ℕ) (f : ℕ → X) → table (n + 1) f ≡ table n f ++ f n ∷ []
unfolding table
table_more n f = map-range_with_len_more f 0 n n (omega arith)
