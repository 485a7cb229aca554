-- What is taken over, as it is said of slices.
use Rattle.std.proofs.Common.{◌≡◌, ℕ, ◌<◌, List, length, Option, sym}
use Rattle.cip_rational.specs.Rational.{ℚ}
use Rattle.cip_bland.specs.Tables.{table}
use Rattle.cip_bland.specs.declared.moves.Stand.{Stand}
use Rattle.cip_dict.specs.Row.{row_in, taken_form, HasRowsAfter}
use Rattle.cip_dict.specs.Values.{taken_value}
use Rattle.cip_dict.specs.Written.{entered_form}

module _ (places standing : List (Option Stand)) (i j : ℕ) (same : places ≡ standing) where
  pub rows_after_as : (new rows : List (List ℚ)) → new ≡ rows → HasRowsAfter places i j rows → HasRowsAfter standing i j new
  rows_after_as new rows e h = rw (sym same, e) h

  pub entered_as : (new list slice rows over other : List (List ℚ)) (entering : List ℚ) → list ≡ new → slice ≡ rows → over ≡ other → ((v : ℕ) → v < length places → row_in new v ≡ entered_form i j (table (length places) (taken_form places i j slice over)) entering v) → (v : ℕ) → v < length standing → row_in list v ≡ entered_form i j (table (length standing) (taken_form standing i j rows other)) entering v
  entered_as new list slice rows over other entering l s o h = rw (l, sym s, sym o, sym same) h

  pub values_taken_as : (slice values over other : List ℚ) → slice ≡ values → over ≡ other → (new : List ℚ) → new ≡ table (length places) (taken_value places j slice over) → new ≡ table (length standing) (taken_value standing j values other)
  values_taken_as slice values over other s o new h = rw (sym s, sym o, sym same) h
