-- The laws of texts that are taken byte by byte. Functions of `src/lib.rt` have them as contracts.
use Rattle.std.specs.Prelude.{◌≡◌, ℕ, ◌+◌, ◌≤◌, if◌then◌else◌, List, ◌++◌}
use Rattle.cip_text_rules.specs.Lines.{is_filled}
use Rattle.cip_text_rules.specs.LineTexts.{outcome_of, HasFault}
use Rattle.cip_text_rules.specs.LineStream.{Going, Failed, outcome_from}
use Rattle.cip_text_rules.specs.LpOutcome.{lp_reading}
use Rattle.cip_text_rules.specs.LpBytes.{LpBytes, part_read, text_taken}

-- the number of the last line
abbrev pub last_line : LpBytes → ℕ
last_line bytes = if is_filled bytes.rest then bytes.ended + 1 else bytes.ended

-- the fault of a token that has ended, and that of a text that is too long, stay whatever follows; and they are the
-- text's, where their numbers are those of kinds
pub record TakenFaultsStay : Type 0 where
  pub taken : (text rest : List ℕ) (line number : ℕ) → text_taken text ≡ Failed line number
      → text_taken (text ++ rest) ≡ Failed line number
  pub of_text : (text rest : List ℕ) (line number : ℕ) → text_taken text ≡ Failed line number → number ≤ 12
      → HasFault lp_reading (text ++ rest) line number

-- a text without such a fault that ends here comes to what its last tokens say
abbrev pub TakenTextsComeOut : Type 0
TakenTextsComeOut =
    (text : List ℕ) (bytes : LpBytes) → text_taken text ≡ Going bytes
    → outcome_of lp_reading text ≡ outcome_from lp_reading (last_line bytes) (part_read bytes)
