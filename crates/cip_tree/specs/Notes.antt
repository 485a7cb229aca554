-- The changes that a node's own work made: each meets one side of a column with a value, and makes no choice.
use Rattle.std.specs.Prelude.{◌≡◌, ℕ, Bool, true, false, List, map, reverse, refl}
use Rattle.std.specs.Coded.{Coded, code_by, coded×, coded_ℕ, coded_bool}
use Rattle.cip_rational.specs.Rational.{ℚ, coded_ℚ}
use Rattle.cip_domain.specs.Side.{Side}
use Rattle.cip_domain.specs.Side.TheVariants.{Low, High}
use Rattle.cip_domain.specs.Changes.{Change, side_change}
use Rattle.cip_tree.specs.declared.notes.Note.{Note}

-- a note as a change
abbrev pub noted_change : Note → Change
noted_change note = side_change note.col note.side note.value

-- the changes of notes, the newest first, where the oldest note is the first
abbrev pub noted : List Note → List Change
noted notes = reverse (map noted_change notes)

-- ---- codes

abbrev pub is_low : Side → Bool
is_low Low = true
is_low High = false

abbrev pub side_from : Bool → Side
side_from true = Low
side_from false = High

pub side_back : (side : Side) → side_from (is_low side) ≡ side
side_back Low = refl
side_back High = refl

-- a side is stored as a flag
abbrev pub side_code : Coded Side
side_code = code_by Bool coded_bool is_low side_from side_back

-- column, side and value
abbrev pub note_code : Coded Note
note_code =
    code_by (ℕ × (Side × ℚ)) (coded× coded_ℕ (coded× side_code coded_ℚ))
    (λ n. (n.col, (n.side, n.value))) (λ p. record { col = p.0; side = p.1.0; value = p.1.1 }) (λ _. refl)
