-- What a reader has read before the first piece.
use Rattle.std.proofs.Common.{◌≡◌, List, [], ℕ, Option, None, Some, refl, inl, inr}
use Rattle.std.specs.Prelude.{IfSome, IsSomeAnd}
use Rattle.cip_text.specs.declared.piece_reader.PieceReader.{PieceReader}
use Rattle.cip_text.specs.PieceReaders.{HasRead, HasTaken}

pub begun : {T S : Type 0} (has_come : T → List ℕ → Type 0) (subject_of : T → S) (reader : PieceReader T) (subject : S) → ((text : T) → subject_of text ≡ subject) → IsSomeAnd reader.text (λ text. has_come text []) → HasRead has_come subject_of reader subject []
begun {T = T} has_come subject_of reader subject same h = go reader.text refl h
  where
    go : (text : Option T) → reader.text ≡ text → IsSomeAnd text (λ text. has_come text []) → HasRead has_come subject_of reader subject []
    go None e h = absurd h
    go (Some text) e h = record { kept = text; goes_on = e; is_subject = same text; come = h }

pub begun_or_spent : {T S : Type 0} (has_come : T → List ℕ → Type 0) (subject_of : T → S) (reader : PieceReader T) (subject : S) → IfSome reader.text (λ text. has_come text [] × (subject_of text ≡ subject)) → HasTaken has_come subject_of reader subject []
begun_or_spent {T = T} has_come subject_of reader subject h = go reader.text refl h
  where
    go : (text : Option T) → reader.text ≡ text → IfSome text (λ text. has_come text [] × (subject_of text ≡ subject)) → HasTaken has_come subject_of reader subject []
    go None e h = inr e
    go (Some text) e h = inl (record { kept = text; goes_on = e; is_subject = h.1; come = h.0 })
