-- Names that stand once.
use Rattle.std.specs.Prelude.{◌≡◌, ℕ, List, Some, slice_get}
use Rattle.cip_text_rules.specs.MpsWords.{number_in}

-- each name has its place as its number
pub record AreApart (names : List (List ℕ)) : Type 0 where
  pub apart : (number : ℕ) (name : List ℕ) → slice_get names number ≡ Some name → number_in names name ≡ Some number
