-- The numbers of a group of rows, in the order of the text.
--     numbers_of row entries      those of one row
use Rattle.std.specs.Prelude.{◌≡◌, ℕ, zero, suc, ◌==◌, true, if◌then◌else◌, List, [], ◌∷◌, Option, refl}
use Rattle.std.specs.Coded.{Coded, code_by, coded×, coded_ℕ, coded_list, coded_option}
use Rattle.cip_rational.specs.Rational.{ℚ, coded_ℚ}
use Rattle.cip_text_rules.specs.MpsWords.{RowKind, Free, AtMost, AtLeast, EqualTo}
use Rattle.cip_text_rules.specs.MpsState.{Held, RowRead}
use Rattle.cip_text_rules.specs.MpsSoundState.{rises}

-- a number, and its row in the group
pub record Entry : Type 0 where
  pub row : ℕ
  pub held : Held

-- the numbers of a row
abbrev pub numbers_of : ℕ → List Entry → List Held
numbers_of row [] = []
numbers_of row (entry ∷ others) =
    if entry.row == row then entry.held ∷ numbers_of row others else numbers_of row others

-- the numbers of each row stand by rising column
pub record AreRising (entries : List Entry) : Type 0 where
  pub rising : (row : ℕ) → rises (numbers_of row entries) ≡ true

-- ---- codes, by which a proof tells values apart: each is stored as the tuple of its fields

-- column and value
abbrev pub held_code : Coded Held
held_code =
    code_by (ℕ × ℚ) (coded× coded_ℕ coded_ℚ)
    (λ h. (h.column, h.value)) (λ p. record { column = p.0; value = p.1 }) (λ _. refl)

-- row and number
abbrev pub entry_code : Coded Entry
entry_code =
    code_by (ℕ × Held) (coded× coded_ℕ held_code)
    (λ e. (e.row, e.held)) (λ p. record { row = p.0; held = p.1 }) (λ _. refl)

-- where the types of rows stand
abbrev pub kind_index : RowKind → ℕ
kind_index Free = 0
kind_index AtMost = 1
kind_index AtLeast = 2
kind_index EqualTo = 3

abbrev pub kind_from : ℕ → RowKind
kind_from zero = Free
kind_from (suc zero) = AtMost
kind_from (suc (suc zero)) = AtLeast
kind_from (suc (suc (suc n))) = EqualTo

pub kind_back : (kind : RowKind) → kind_from (kind_index kind) ≡ kind
kind_back Free = refl
kind_back AtMost = refl
kind_back AtLeast = refl
kind_back EqualTo = refl

abbrev pub kind_code : Coded RowKind
kind_code = code_by ℕ coded_ℕ kind_index kind_from kind_back

-- all fields of a row, in pairs
abbrev pub row_read_code : Coded RowRead
row_read_code =
    code_by (RowKind × (List Held × (Option ℚ × Option ℚ)))
    (coded× kind_code (coded× (coded_list held_code) (coded× (coded_option coded_ℚ) (coded_option coded_ℚ))))
    (λ r. (r.kind, (r.held, (r.right_side, r.range))))
    (λ p. record { kind = p.0; held = p.1.0; right_side = p.1.1.0; range = p.1.1.1 }) (λ _. refl)
