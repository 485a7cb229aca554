-- Answers in code, and the answers that they are.
use Rattle.std.specs.Prelude.{◌≡◌, map, ⊤}
use Rattle.cip_lin.specs.declared.combos.RowId.TheVariants.{Own}
use Rattle.cip_lin.specs.declared.combos.RowMultiple.{RowMultiple}
use Rattle.cip_lin.specs.declared.combos.ColumnMultiple.{ColumnMultiple}
use Rattle.cip_lin.specs.declared.combos.Combo.{Combo}
use Rattle.cip_bland.specs.EndAnswers as def
use Rattle.cip_simplex.specs.declared.answers.LpAnswer.{LpAnswer}
use Rattle.cip_simplex.specs.declared.answers.LpAnswer.TheVariants.{Optimal, Infeasible, Unbounded, Wide, Limit}

-- a row of the program, by its number, with a factor
abbrev pub row_multiple : def.Multiple → RowMultiple
row_multiple m = record { row = Own m.number; factor = m.factor }

-- a column with a factor
abbrev pub column_multiple : def.Multiple → ColumnMultiple
column_multiple m = record { col = m.number; factor = m.factor }

-- a combination in code has the rows and columns of a certificate, in its order, with its factors
pub record IsCombo (c : def.Certificate) (combo : Combo) : Type 0 where
  pub rows : combo.rows.items ≡ map row_multiple c.rows
  pub lows : combo.lows.items ≡ map column_multiple c.lows
  pub highs : combo.highs.items ≡ map column_multiple c.highs

-- an answer in code is this answer
abbrev pub IsAnswer : def.Answer → LpAnswer → Type 0
IsAnswer (def.Optimal point c cost) (Optimal values combo number) =
    (values.items ≡ point) × IsCombo c combo × (number ≡ cost)
IsAnswer (def.NoPoint c) (Infeasible combo) = IsCombo c combo
IsAnswer (def.Unbounded point ray) (Unbounded values changes) = (values.items ≡ point) × (changes.items ≡ ray)
IsAnswer (def.OutOfRange moves) (Wide made) = made.items ≡ moves
IsAnswer def.LimitReached Limit = ⊤
IsAnswer _ _ = ⊥
