-- The laws of the steps, each as one statement: functions of `src/lib.rt` have them as contracts.
use Rattle.std.specs.Prelude.{◌≡◌, ℕ, Bool, true, false, not, ◌&&◌, List, [], ◌∷◌, None, Some, All, ◌^◌, pos, if◌then◌else◌}
use Rattle.cip_rational.specs.Rational.{ℚ, zeroℚ, integer, lt_test, le_test, absolute}
use Rattle.cip_problem.specs.Names.{number_of}
use Rattle.cip_problem.specs.Program.{Program}
use Rattle.cip_problem.specs.RowTerms.{AreTerms}
use Rattle.cip_rational.specs.Numeral.{Numeral, value_of, numeral_of}
use Rattle.cip_text_rules.specs.LineStream.{TextsAreRead, FaultsOfEndedLines, FaultsStay}
use Rattle.cip_text_rules.specs.MpsWords.{Part, End, RowKind, BoundKind, number_in, is_in, is_zero, is_negative, is_positive, is_huge, near_or_huge}
use Rattle.cip_text_rules.specs.MpsSayings.{Value, Saying, no_place, UnknownSection, Opens, Misplaced, Miscounted, Skipped, SenseLine, RowLine, ColumnLine, Marker, BadMarker, RightSideLine, RangeLine, BoundLine, BadBound}
use Rattle.cip_text_rules.specs.MpsFacts.{no_facts}
use Rattle.cip_text_rules.specs.MpsProgram.{number, unsigned}
use Rattle.cip_text_rules.specs.MpsRules.{rule, least, is_end}
use Rattle.cip_text_rules.specs.MpsOutcome.{mps_reading, HasProgram}
use Rattle.cip_text_rules.specs.MpsState.{State, state_of, is_negative_value, is_zero_value}
use Rattle.cip_text_rules.specs.MpsSteps.{tests, taken, mps_steps}
use Rattle.cip_text_rules.specs.MpsSoundState.{IsSoundState}
use Rattle.cip_text_rules.specs.MpsLineTests.{opening_tests, end_tests, sense_tests, row_tests, column_tests, right_side_tests, range_tests, bound_tests}

-- a text that is read byte by byte comes to its outcome
abbrev pub MpsTextsAreRead : Type 0
MpsTextsAreRead = TextsAreRead mps_reading mps_steps

-- a line's tests have the least kind of those of its kind of line
pub record LinesHaveTests : Type 0 where
  pub unknown_section : (state : State) → least (tests state UnknownSection) ≡ Some 1
  pub misplaced : (state : State) → least (tests state Misplaced) ≡ Some 2
  pub miscounted : (state : State) → least (tests state Miscounted) ≡ Some 4
  pub skipped : (state : State) → least (tests state Skipped) ≡ None
  pub opens : (state : State) (part : Part) (words : List (List ℕ)) → is_end (Opens part words) ≡ false
      → least (tests state (Opens part words)) ≡ least (opening_tests state part words)
  pub ends : (state : State) (words : List (List ℕ))
      → least (tests state (Opens End words)) ≡ least (end_tests state words)
  pub sense : (state : State) (word : List ℕ) → least (tests state (SenseLine word)) ≡ least (sense_tests word)
  pub bad_row : (state : State) (name : List ℕ)
      → least (tests state (RowLine None name)) ≡ least (rule 10 (is_in state.row_names name) ∷ rule 13 true ∷ [])
  pub row : (state : State) (kind : RowKind) (name : List ℕ)
      → least (tests state (RowLine (Some kind) name)) ≡ least (row_tests state kind name)
  pub marker : (state : State) (begins : Bool) → least (tests state (Marker begins)) ≡ None
  pub bad_marker : (state : State) → least (tests state BadMarker) ≡ Some 15
  pub column : (state : State) (column : List ℕ) (whole : Bool) (values : List Value)
      → least (tests state (ColumnLine column whole values)) ≡ least (column_tests state column whole values)
  pub right_side : (state : State) (set_name : List ℕ) (values : List Value)
      → least (tests state (RightSideLine set_name values)) ≡ least (right_side_tests state values)
  pub range : (state : State) (set_name : List ℕ) (values : List Value)
      → least (tests state (RangeLine set_name values)) ≡ least (range_tests state values)
  pub bad_bound : (state : State) → least (tests state BadBound) ≡ Some 14
  pub bound : (state : State) (kind : BoundKind) (set_name column : List ℕ) (value : Numeral)
      → least (tests state (BoundLine kind set_name column value)) ≡ least (bound_tests state kind column value)

-- the number of a name is the one that a map of names gives it
abbrev pub NumbersAreOfNames : Type 0
NumbersAreOfNames = (names : List (List ℕ)) (name : List ℕ) → number_in names name ≡ number_of names name

-- ---- texts in pieces

-- a fault is known exactly where the text, as far as it was read, is faulty at a line that has ended
abbrev pub MpsFaultsOfEndedLines : Type 0
MpsFaultsOfEndedLines = FaultsOfEndedLines mps_reading mps_steps

-- a fault that is known is the text's, whatever follows, and stays known
abbrev pub MpsFaultsStay : Type 0
MpsFaultsStay = FaultsStay mps_reading mps_steps

-- ---- rows

-- the rows of a program have their terms by rising column, and none with the coefficient 0
abbrev pub RowsAreTerms : Type 0
RowsAreTerms =
    (text : List ℕ) (program : Program) → HasProgram text program → All (λ row. AreTerms row.terms) program.rows

-- the first state is sound, and so is each state behind a line without fault
pub record StatesAreSound : Type 0 where
  pub first : IsSoundState (state_of no_place no_facts)
  pub later : (state : State) (now : Saying) → IsSoundState state → least (tests state now) ≡ None
      → IsSoundState (taken state now)

-- ---- values

-- a value is above 0
abbrev pub is_positive_value : ℚ → Bool
is_positive_value value = lt_test zeroℚ value

-- a value of size 10^20 or more
abbrev pub is_far_value : ℚ → Bool
is_far_value value = le_test (integer (pos (10 ^ 20))) (absolute value)

-- what the tests of a number text, and of the value of a bound, are on the value
pub record ValuesAreTested : Type 0 where
  pub zero : (text : List ℕ) (value : ℚ) → value_of (numeral_of text) ≡ Some value
      → is_zero (numeral_of text) ≡ is_zero_value value
  pub negative : (text : List ℕ) (value : ℚ) → value_of (numeral_of text) ≡ Some value
      → is_negative (numeral_of text) ≡ is_negative_value value
  pub size : (text : List ℕ) (value : ℚ) → value_of (numeral_of text) ≡ Some value
      → number (unsigned (numeral_of text)) ≡ absolute value
  pub far : (text : List ℕ) (value : ℚ) → value_of (numeral_of text) ≡ Some value
      → is_huge (near_or_huge (numeral_of text)) ≡ is_far_value value
  pub bound : (text : List ℕ) (value : ℚ) → value_of (numeral_of text) ≡ Some value
      → value_of (near_or_huge (numeral_of text)) ≡ (if is_far_value value then None else Some value)
  pub bound_negative : (text : List ℕ) (value : ℚ) → value_of (numeral_of text) ≡ Some value
      → is_negative (near_or_huge (numeral_of text)) ≡ is_negative_value value
  pub bound_positive : (text : List ℕ) (value : ℚ) → value_of (numeral_of text) ≡ Some value
      → is_positive (near_or_huge (numeral_of text)) ≡ (not (is_far_value value) && is_positive_value value)
