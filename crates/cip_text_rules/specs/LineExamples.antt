-- Outcomes of long texts, for the law of examples.
use Rattle.std.specs.Prelude.{◌≡◌, ℕ}
use Rattle.cip_text_rules.specs.LineTexts.{Outcome, Means, Faulty, too_long}

-- an outcome with the result 5
abbrev pub five : Outcome ℕ
five = Means 5

-- a fault of a line
abbrev pub fault : (line kind : ℕ) → Outcome ℕ
fault line kind = Faulty line kind

-- the first byte too many is on line 7, and the kind of that fault is 6
pub record LongTextsAreFaulty : Type 0 where
  pub no_fault : too_long 6 7 five ≡ Faulty 7 6
  pub before : too_long 6 7 (fault 6 9) ≡ Faulty 6 9
  pub lesser : too_long 6 7 (fault 7 4) ≡ Faulty 7 4
  pub greater : too_long 6 7 (fault 7 9) ≡ Faulty 7 6
  pub behind : too_long 6 7 (fault 8 5) ≡ Faulty 7 6
