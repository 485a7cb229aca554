-- The laws of texts, each as one statement: functions of `src/laws.rt` have them as contracts.
use Rattle.std.specs.Prelude.{◌≡◌, ℕ, List}
use Rattle.cip_text_rules.specs.LineTexts.{items_from}
use Rattle.cip_text_rules.specs.MpsOutcome.{mps_records}
use Rattle.cip_text.specs.TextLines.{records_with}

-- with `*` for comments the records are those of free MPS
abbrev pub StarBeginsComments : Type 0
StarBeginsComments =
    (number : ℕ) (lines : List (List ℕ)) → records_with 42 number lines ≡ items_from mps_records.items number lines
