-- Names of the rows of a combination.
use Rattle.std.proofs.Common.{◌≡◌, ◌≤◌, ℕ, ◌-◌, Bool, List, map, length, Option, None, slice_get, if◌then◌else◌, sym, ap, ◌∙◌}
use Rattle.std.proofs.lemmas.Bool.{le-ltb}
use Rattle.cip_rational.specs.Rational.{ℚ}
use Rattle.cip_problem.specs.Program.{Sides, Row, Program}
use Rattle.cip_lin.specs.declared.combos.RowId.{RowId}
use Rattle.cip_lin.specs.declared.combos.RowId.TheVariants.{Own}
use Rattle.cip_lin.specs.declared.combos.RowMultiple.{RowMultiple}
use Rattle.cip_lin.specs.declared.combos.Combo.{Combo}
use Rattle.cip_bland.specs.EndAnswers.{Certificate}
use Rattle.cip_cert.specs.Lent.{Lent}
use Rattle.cip_simplex.specs.LpAnswers.{IsCombo}
use Rattle.cip_relax.specs.NodeRows.{usable_ids, pool_name, named, named_multiple, IsNamed}

abbrev multiple_of : ℚ → RowId → RowMultiple
multiple_of factor row = record { row = row; factor = factor }

-- a row behind the program's own has the id that is found at its place
pub named_behind : (own : ℕ) (ids : List ℕ) (m : RowMultiple) (number : ℕ) (found : Option ℕ) → m.row ≡ Own number → own ≤ number → slice_get ids (number - own) ≡ found → record { row = pool_name number found; factor = m.factor } ≡ named_multiple own ids m
named_behind own ids m number found e l h = sym (
    ap (λ (row : RowId). multiple_of m.factor (named own ids row)) e
    ∙ ap (λ (b : Bool). multiple_of m.factor (if b then Own number else pool_name number (slice_get ids (number - own)))) (le-ltb number own l)
    ∙ ap (λ (o : Option ℕ). multiple_of m.factor (pool_name number o)) h
    )

-- and none, where there is no id
pub unnamed_behind : (own : ℕ) (ids : List ℕ) (m : RowMultiple) (number : ℕ) → m.row ≡ Own number → own ≤ number → slice_get ids (number - own) ≡ None → m ≡ named_multiple own ids m
unnamed_behind own ids m number e l h = ap (multiple_of m.factor) e ∙ named_behind own ids m number None e l h

-- a combination by a certificate, with its rows named
pub named_combo : (program : Program) (lent : Lent) (box : List Sides) (own : List Row) (ids : List ℕ) (c : Certificate) (combo now : Combo) → own ≡ program.rows → ids ≡ usable_ids box lent.pool → IsCombo c combo → now.rows.items ≡ map (named_multiple (length own) ids) combo.rows.items → now.lows.items ≡ combo.lows.items → now.highs.items ≡ combo.highs.items → IsNamed (length program.rows) (usable_ids box lent.pool) c now
named_combo program lent box own ids c combo now o i h rows lows highs = record {
  rows =
      rows
      ∙ ap (λ (rs : List Row). map (named_multiple (length rs) ids) combo.rows.items) o
      ∙ ap (λ (names : List ℕ). map (named_multiple (length program.rows) names) combo.rows.items) i
      ∙ ap (map (named_multiple (length program.rows) (usable_ids box lent.pool))) h.rows;
  lows = lows ∙ h.lows;
  highs = highs ∙ h.highs;
}
