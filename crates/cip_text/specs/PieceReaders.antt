-- What a reader of texts of a format has read. `has_come` and `subject_of` are those of the format (`PieceText`).
--     HasRead has_come subject_of reader subject bytes      it has read these bytes as a text that speaks of this
--     IsSpent reader      a growth was refused
use Rattle.std.specs.Prelude.{◌≡◌, ◌⊎◌, ℕ, List, None, Some, Result, Ok, Err}
use Rattle.cip_text.specs.declared.text_faults.TextFault.{TextFault}
use Rattle.cip_text.specs.declared.text_faults.ReadFault.{ReadFault}
use Rattle.cip_text.specs.declared.text_faults.ReadFault.TheVariants.{Faulty, NoMemory}
use Rattle.cip_text.specs.declared.piece_reader.PieceReader.{PieceReader}

-- the reader has read these bytes, piece by piece
pub record HasRead {T S : Type 0} (has_come : T → List ℕ → Type 0) (subject_of : T → S) (reader : PieceReader T)
    (subject : S) (bytes : List ℕ) : Type 0 where
  pub kept : T
  pub goes_on : reader.text ≡ Some kept
  pub is_subject : subject_of kept ≡ subject
  pub come : has_come kept bytes

-- a growth was refused
abbrev pub IsSpent : {T : Type 0} → PieceReader T → Type 0
IsSpent reader = reader.text ≡ None

-- one of both
abbrev pub HasTaken : {T S : Type 0} → (has_come : T → List ℕ → Type 0) → (subject_of : T → S) → PieceReader T
    → (subject : S) → (bytes : List ℕ) → Type 0
HasTaken has_come subject_of reader subject bytes = HasRead has_come subject_of reader subject bytes ⊎ IsSpent reader

-- what `feed` answers: what is told of the bytes that were read with the piece, or want of memory
abbrev pub IsFed : {K : Type 0} → (HasRead IsSpent : Type 0) → (IsTold : Result (Unit {0}) (TextFault K) → Type 0)
    → Result (Unit {0}) (ReadFault K) → Type 0
IsFed HasRead IsSpent IsTold (Ok u) = HasRead × IsTold (Ok u)
IsFed HasRead IsSpent IsTold (Err (Faulty fault)) = HasRead × IsTold (Err fault)
IsFed HasRead IsSpent IsTold (Err NoMemory) = IsSpent
