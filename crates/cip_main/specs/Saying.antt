-- What a sink took of a text, and the exit status that goes with it.
use Rattle.std.specs.Prelude.{◌≡◌, ◌⊎◌, ℕ, List}
use Rattle.cip_io.specs.Faults.{Rose}
use Rattle.cip_io.specs.Sink.{SinkTells, TakesAll, PushesPart}

-- the sink took the whole text, no call of it failed, and the exit status is this one
pub record SaysAll (old new : SinkTells) (text : List ℕ) (status result : ℕ) : Type 0 where
  pub taken : TakesAll old new text
  pub sound : new.faults ≡ old.faults
  pub exit : result ≡ status

-- the sink failed and took a part of the text, and the exit status is 5
pub record FallsShort (old new : SinkTells) (text : List ℕ) (result : ℕ) : Type 0 where
  pub taken : PushesPart old new text
  pub cause : Rose old.faults new.faults
  pub exit : result ≡ 5

-- a text was said with this exit status, unless the sink failed
abbrev pub Says : (old new : SinkTells) (text : List ℕ) (status result : ℕ) → Type 0
Says old new text status result = SaysAll old new text status result ⊎ FallsShort old new text result
