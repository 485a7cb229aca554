-- What writing through a buffer does to the bytes that a sink has taken and to those that are buffered.
use Rattle.std.specs.Prelude.{◌≡◌, ℕ, List, ◌++◌, Result, MatchResult}
use Rattle.cip_io.specs.Sink.{SinkTells, TakesAll, PushesPart}

-- the sink took the front of the text, and the rest of it is buffered
pub record Passes (old new : SinkTells) (text buffered : List ℕ) : Type 0 where
  pub handed : List ℕ
  pub taken : TakesAll old new handed
  pub whole : text ≡ handed ++ buffered

-- after an `Ok` the text is handed on but for what is buffered, after an `Err` the sink took a part of it
abbrev pub Writes : {T E : Type 0} → Result T E → (old new : SinkTells) → (text buffered : List ℕ) → Type 0
Writes result old new text buffered =
    MatchResult result (λ _. Passes old new text buffered) (λ _. PushesPart old new text)
