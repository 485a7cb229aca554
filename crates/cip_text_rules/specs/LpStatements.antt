-- The laws of LP texts, each as one statement: functions of `src/lp_texts.rt` have them as contracts.
use Rattle.std.specs.Prelude.{◌≡◌, ℕ, ◌==◌, ◌≤◌, true, false, ◌&&◌, ◌||◌, List, [], ◌∷◌, None, Some, drop, if◌then◌else◌}
use Rattle.std.specs.List.{AllByRecursion, list_any}
use Rattle.cip_rational.specs.Rational.{ℚ, zeroℚ}
use Rattle.cip_problem.specs.Program.{Program}
use Rattle.cip_problem.specs.WellFormed.{IsWellFormed}
use Rattle.cip_text_rules.specs.Lines.{is_blank}
use Rattle.cip_text_rules.specs.LineStatements.{OneOutcome, FaultsBeforeEnds, ResultsAtEnds}
use Rattle.cip_text_rules.specs.LineStream.{TextsAreRead, FaultsOfEndedLines, FaultsStay}
use Rattle.cip_text_rules.specs.MpsStatements.{coefficient_in}
use Rattle.cip_text_rules.specs.LpWords.{first_piece, first_rest}
use Rattle.cip_text_rules.specs.LpTokens.{is_comment, line_pieces}
use Rattle.cip_text_rules.specs.LpPlaces.{Amount, Event, Adds}
use Rattle.cip_text_rules.specs.LpFacts.{FormTerm, LpFacts, nothing_said, has_term, event_rules, event_fault, facts_with, column_number, terms_of}
use Rattle.cip_text_rules.specs.LpSound.{form_rises, IsSoundLp}
use Rattle.cip_text_rules.specs.LpOutcome.{is_end, lp_tokens, lp_reading, HasLpProgram}

-- ---- texts

-- a text has a program or a first fault, never both, and one of each at the most
abbrev pub LpTextsHaveOneOutcome : Type 0
LpTextsHaveOneOutcome = OneOutcome lp_reading

-- the fault of a text is that of its first token that breaks a rule, unless End stands before; else, without End, 8 at
-- the line behind the last
abbrev pub LpFaultsAreFirst : Type 0
LpFaultsAreFirst = FaultsBeforeEnds is_end lp_tokens

-- a program is that of the tokens as far as End, where none of them breaks a rule
abbrev pub LpProgramsAreDescribed : Type 0
LpProgramsAreDescribed = ResultsAtEnds is_end lp_tokens

-- a text that is read byte by byte comes to its outcome
abbrev pub LpTextsAreRead : Type 0
LpTextsAreRead = TextsAreRead lp_reading lp_reading

-- a fault is known exactly where the text, as far as it was read, is faulty at a line that has ended
abbrev pub LpFaultsOfEndedLines : Type 0
LpFaultsOfEndedLines = FaultsOfEndedLines lp_reading lp_reading

-- a fault that is known is the text's, whatever follows, and stays known
abbrev pub LpFaultsStay : Type 0
LpFaultsStay = FaultsStay lp_reading lp_reading

-- a line is cut into pieces: blanks part them, a comment ends it, and each goes as far as its rule says
pub record LpPiecesAreCut : Type 0 where
  pub none : line_pieces [] ≡ []
  pub blank : (byte : ℕ) (behind : List ℕ) → is_blank byte ≡ true → line_pieces (byte ∷ behind) ≡ line_pieces behind
  pub comment : (byte : ℕ) (behind : List ℕ) → is_blank byte ≡ false → is_comment byte ≡ true
      → line_pieces (byte ∷ behind) ≡ []
  pub piece : (byte : ℕ) (behind : List ℕ) → (is_blank byte || is_comment byte) ≡ false
      → line_pieces (byte ∷ behind) ≡ first_piece byte behind ∷ line_pieces (drop (first_rest byte behind) behind)

-- the fault of what is said is a kind whose rule is broken, and no lesser one is; without fault none is
pub record LpFaultsAreLeast : Type 0 where
  pub broken : (facts : LpFacts) (event : Event) (kind : ℕ) → event_fault facts event ≡ Some kind
      → list_any (λ r. r.kind == kind && r.broken) (event_rules facts event) ≡ true
  pub least : (facts : LpFacts) (event : Event) (kind : ℕ) → event_fault facts event ≡ Some kind
      → AllByRecursion (λ r. r.broken ≡ true → kind ≤ r.kind) (event_rules facts event)
  pub none : (facts : LpFacts) (event : Event) → event_fault facts event ≡ None
      → AllByRecursion (λ r. r.broken ≡ false) (event_rules facts event)

-- ---- the program

-- the program of a text is well-formed
abbrev pub LpProgramsAreWellFormed : Type 0
LpProgramsAreWellFormed = (text : List ℕ) (program : Program) → HasLpProgram text program → IsWellFormed program

-- the number of a column in a form, and 0 where it has none
abbrev pub number_in_form : List FormTerm → ℕ → ℚ
number_in_form [] column = zeroℚ
number_in_form (t ∷ ts) column =
    if t.column == column then (if t.zero then zeroℚ else t.value) else number_in_form ts column

-- before the first token the facts are sound, and so they are behind what is said without fault
pub record LpFactsAreSound : Type 0 where
  pub first : IsSoundLp nothing_said
  pub later : (facts : LpFacts) (event : Event) → IsSoundLp facts → event_fault facts event ≡ None
      → IsSoundLp (facts_with facts event)

-- the value of an amount
abbrev pub amount_value : Amount → ℚ
amount_value amount = if amount.zero then zeroℚ else amount.value

-- in a form a term without fault gives its column its number, which had none, and leaves the others; a row has the
-- numbers of its form as coefficients
pub record LpCoefficientsAreNumbers : Type 0 where
  pub none : (facts : LpFacts) (amount : Amount) (name : List ℕ) → IsSoundLp facts
      → event_fault facts (Adds amount name) ≡ None → has_term facts.form (column_number facts name) ≡ false
  pub own : (facts : LpFacts) (amount : Amount) (name : List ℕ) → IsSoundLp facts
      → event_fault facts (Adds amount name) ≡ None
      → number_in_form (facts_with facts (Adds amount name)).form (column_number facts name) ≡ amount_value amount
  pub others : (facts : LpFacts) (amount : Amount) (name : List ℕ) (column : ℕ)
      → (column_number facts name == column) ≡ false
      → number_in_form (facts_with facts (Adds amount name)).form column ≡ number_in_form facts.form column
  pub row : (form : List FormTerm) (column : ℕ) → form_rises form ≡ true
      → coefficient_in (terms_of form) column ≡ number_in_form form column
