-- The laws of texts of free MPS, each as one statement: functions of `src/lib.rt` have them as contracts.
use Rattle.std.specs.Prelude.{◌≡◌, ⊤, ℕ, ◌==◌, ◌≤◌, Bool, true, false, ◌&&◌, List, [], ◌∷◌, None, Some, if◌then◌else◌}
use Rattle.std.specs.List.{AllByRecursion, list_any}
use Rattle.std.specs.Str.{bytes_eq}
use Rattle.cip_rational.specs.Rational.{ℚ, zeroℚ}
use Rattle.cip_text_rules.specs.Program.{Term, Program}
use Rattle.cip_text_rules.specs.Choices.{choice_at, is_open}
use Rattle.cip_text_rules.specs.WellFormed.{IsWellFormed}
use Rattle.cip_text_rules.specs.Lines.{Record}
use Rattle.cip_text_rules.specs.LineTexts.{Numbered}
use Rattle.cip_text_rules.specs.LineStatements.{OneOutcome, known_after, AreOpen, FaultsBeforeEnds, IsEndReached, ResultsAtEnds}
use Rattle.cip_text_rules.specs.MpsWords.{BoundKind, SemiContinuous, number_in, is_in}
use Rattle.cip_text_rules.specs.MpsSayings.{Saying}
use Rattle.cip_text_rules.specs.MpsFacts.{Coefficient, GivenBound, Facts, column_names}
use Rattle.cip_text_rules.specs.MpsProgram.{coefficient, terms_of}
use Rattle.cip_text_rules.specs.MpsRules.{rules, fault_of, has_coefficient}
use Rattle.cip_text_rules.specs.MpsOutcome.{no_context, is_last, mps_records, mps_reading, HasProgram}

-- ---- texts

-- a text has a program or a first fault, never both, and one of each at the most
abbrev pub TextsHaveOneOutcome : Type 0
TextsHaveOneOutcome = OneOutcome mps_reading

-- the fault of a text is that of its first line that breaks a rule, unless ENDATA stands before; else, without ENDATA,
-- 17 at the line behind the last
abbrev pub MpsFaultsAreFirst : Type 0
MpsFaultsAreFirst = FaultsBeforeEnds is_last mps_records

-- a program is that of the lines as far as ENDATA, where none of them breaks a rule
abbrev pub ProgramsAreDescribed : Type 0
ProgramsAreDescribed = ResultsAtEnds is_last mps_records

-- the fault of a line is a kind whose rule is broken, and no lesser one is; a line without fault breaks none
pub record FaultsAreLeast : Type 0 where
  pub broken : (facts : Facts) (now : Saying) (kind : ℕ) → fault_of facts now ≡ Some kind
      → list_any (λ r. r.kind == kind && r.broken) (rules facts now) ≡ true
  pub least : (facts : Facts) (now : Saying) (kind : ℕ) → fault_of facts now ≡ Some kind
      → AllByRecursion (λ r. r.broken ≡ true → kind ≤ r.kind) (rules facts now)
  pub none : (facts : Facts) (now : Saying) → fault_of facts now ≡ None
      → AllByRecursion (λ r. r.broken ≡ false) (rules facts now)

-- ---- the program

-- the program of a text is well-formed
abbrev pub ProgramsAreWellFormed : Type 0
ProgramsAreWellFormed = (text : List ℕ) (program : Program) → HasProgram text program → IsWellFormed program

-- the coefficient of the term on a column, and 0 where there is no such term
abbrev pub coefficient_in : List Term → ℕ → ℚ
coefficient_in [] column = zeroℚ
coefficient_in (t ∷ ts) column = if t.column == column then t.coefficient else coefficient_in ts column

-- no two numbers name one row and column
abbrev pub NameOnce : List Coefficient → Type 0
NameOnce [] = ⊤
NameOnce (entry ∷ entries) = (has_coefficient entries entry.column entry.row ≡ false) × NameOnce entries

-- the numbers of COLUMNS are the coefficients
pub record AreCoefficients (facts : Facts) : Type 0 where
  pub once : NameOnce facts.coefficients
  pub in_row : (row column : List ℕ) (k : ℕ) → number_in (column_names facts) column ≡ Some k
      → coefficient_in (terms_of (column_names facts) facts.coefficients row) k ≡ coefficient facts row column

-- where lines break no rule, the coefficient of a row and a column is the number of the one record that names both, and
-- else 0
abbrev pub CoefficientsAreNumbers : Type 0
CoefficientsAreNumbers =
    (records : List (Numbered Record)) → AreOpen is_last mps_records no_context records
    → AreCoefficients (known_after mps_records no_context records).facts

-- ---- semi-continuous columns

-- the type SC
abbrev pub is_semi_kind : BoundKind → Bool
is_semi_kind SemiContinuous = true
is_semi_kind other = false

-- an SC record names this column
abbrev pub has_semi_record : List GivenBound → List ℕ → Bool
has_semi_record bounds column = list_any (λ bound. bytes_eq column bound.column && is_semi_kind bound.kind) bounds

-- the semi-continuous columns are those that an SC record names, and each such name is that of a column
pub record AreNamedSemi (bounds : List GivenBound) (program : Program) : Type 0 where
  pub known : (name : List ℕ) → has_semi_record bounds name ≡ true → is_in program.column_names name ≡ true
  pub semi : (name : List ℕ) (column : ℕ) → number_in program.column_names name ≡ Some column
      → is_open (choice_at program.choices column) ≡ has_semi_record bounds name

-- the semi-continuous columns of the program of a text are exactly those that an SC record of the lines as far as
-- ENDATA names
abbrev pub SemisAreNamed : Type 0
SemisAreNamed =
    (text : List ℕ) (program : Program) (reached : IsEndReached is_last mps_records text program)
    → AreNamedSemi (known_after mps_records no_context reached.before).facts.bounds program
