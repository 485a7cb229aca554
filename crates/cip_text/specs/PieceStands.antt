-- What is kept of a text stands for its stream, which is read byte by byte on plain values.
use Rattle.std.specs.Prelude.{◌≡◌, ℕ, ◌+◌, true, false, Option, None, Some}
use Rattle.cip_text_rules.specs.Lines.{is_filled}
use Rattle.cip_text_rules.specs.LineTexts.{Reading, Outcome, Means, Faulty}
use Rattle.cip_text_rules.specs.LineStream.{Progress, Going, Failed, line_read, Stream}
use Rattle.cip_text.specs.declared.faults.KnownFault.{KnownFault}
use Rattle.cip_text.specs.PieceCuts.{Cut}

-- how far a text has been read: to what is known, or to a fault
abbrev pub progress_of : {K : Type 0} → Option KnownFault → K → Progress K
progress_of None known = Going known
progress_of (Some fault) known = Failed fault.line fault.kind

-- the progress behind a line of this number that has a fault of this kind, or none
abbrev pub progress_after : {K : Type 0} → (number : ℕ) → Option ℕ → K → Progress K
progress_after number None known = Going known
progress_after number (Some kind) known = Failed number kind

-- the stream has this progress, line and size
pub record StandsAt {K : Type 0} (cut : Cut) (known : K) (stream : Stream K) : Type 0 where
  pub progress : stream.progress ≡ progress_of cut.fault known
  pub ended : stream.ended ≡ cut.ended
  pub filled : is_filled stream.line ≡ cut.filled
  pub line : cut.fault ≡ None → stream.line ≡ cut.line
  pub size : stream.size ≡ cut.size

-- what the line that hasn't ended says, where there was no fault before: with it this is known, or it has a fault of
-- this kind
abbrev pub IsRead : {K I X : Type 0} → Reading K I X → Cut → (known after : K) → Option ℕ → Type 0
IsRead reading cut known after kind =
    cut.fault ≡ None
    → line_read reading (Going known) (cut.ended + 1) cut.line ≡ progress_after (cut.ended + 1) kind after

-- what that line says at the end of the text: nothing where it is empty
pub record IsLastRead {K I X : Type 0} (reading : Reading K I X) (cut : Cut) (known after : K) (kind : Option ℕ)
    : Type 0 where
  pub filled : cut.filled ≡ true → IsRead reading cut known after kind
  pub empty : cut.filled ≡ false → (kind ≡ None) × (known ≡ after)

-- what a text comes to that has this fault, or none and then this result
abbrev pub outcome_with : {X : Type 0} → Option KnownFault → X → Outcome X
outcome_with None value = Means value
outcome_with (Some fault) value = Faulty fault.line fault.kind
