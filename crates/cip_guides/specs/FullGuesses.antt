-- Points that are guessed.
use Rattle.std.specs.Prelude.{◌≡◌, ℕ, List, length}
use Rattle.std.specs.List.{All}
use Rattle.cip_plugin.specs.declared.proposals.Guess.{Guess}

-- each guess has a value for each of so many columns
abbrev pub AreFull : ℕ → List Guess → Type 0
AreFull columns guesses = All (λ (guess : Guess). length guess.values.items ≡ columns) guesses
