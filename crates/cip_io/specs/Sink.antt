-- What a sink tells of itself, and what pushing a piece does to the bytes that it has taken.
use Rattle.std.specs.Prelude.{◌≡◌, ◌<◌, ◌≤◌, ℕ, List, length, take, Option, None}
use Rattle.std.specs.Io.KnownBytes.{append_known}

-- a sink as it tells itself at a moment: the bytes taken, how many faults
pub record SinkTells : Type 0 where
  pub taken : Option (List ℕ)
  pub faults : ℕ

-- a sink that tells how many faults there were, and nothing of the bytes
abbrev pub counting_sink : ℕ → SinkTells
counting_sink faults = record { taken = None; faults = faults }

-- the sink took these bytes
abbrev pub TakesAll : (old new : SinkTells) → List ℕ → Type 0
TakesAll old new bytes = new.taken ≡ append_known old.taken bytes

-- the sink took the first n bytes of the piece, one or more
pub record Pushes (old new : SinkTells) (piece : List ℕ) (n : ℕ) : Type 0 where
  pub some : 0 < n
  pub within : n ≤ length piece
  pub taken : TakesAll old new (take n piece)

-- the sink took a front part of the piece, not all of it
pub record PushesPart (old new : SinkTells) (piece : List ℕ) : Type 0 where
  pub count : ℕ
  pub short : count < length piece
  pub taken : TakesAll old new (take count piece)
