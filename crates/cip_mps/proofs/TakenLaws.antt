-- The state behind each kind of line, by the fields that it changes.
use Rattle.std.proofs.Common.{◌≡◌, ℕ, suc, ◌+◌, Bool, true, false, not, ◌&&◌, ◌||◌, cond, List, [], ◌∷◌, length, Option, None, Some, refl, ap, add-zero}
use Rattle.std.specs.Prelude.{nat_lt, nat_le, is_some}
use Rattle.std.specs.List.{filter, list_any}
use Rattle.std.proofs.lemmas.List.{append-nil}
use Rattle.cip_rational.specs.Numeral.{Numeral}
use Rattle.cip_problem.specs.Limits.{most_columns, most_entries, longest_name}
use Rattle.cip_text_rules.specs.MpsWords.{Part, NoPart, Title, Sense, Rows, Columns, RightSides, Ranges, Bounds, End, BoundKind, is_zero, is_no_number, is_too_fine, number_in, is_in}
use Rattle.cip_text_rules.specs.MpsSayings.{LinePlace, Value, Saying, UnknownSection, Opens, Misplaced, Miscounted, Skipped, SenseLine, RowLine, ColumnLine, Marker, BadMarker, RightSideLine, RangeLine, BoundLine, BadBound, no_place, place_after}
use Rattle.cip_text_rules.specs.MpsFacts.{coefficients_in}
use Rattle.cip_text_rules.specs.MpsRules.{Rule, rule, least, entry_count, has_twins, is_before_last}
use Rattle.cip_text_rules.specs.MpsState.{State, row_at}
use Rattle.cip_text_rules.specs.MpsSteps.{or_else, holds, put, taken, tests}
use Rattle.cip_text_rules.specs.MpsLineTests.{column_tests, numbers_of, has_huge, has_unknown}
use Rattle.cip_mps.specs.DraftLines.{entries_in, column_rules, section_tests}
use Rattle.cip_text_rules.specs.MpsStepStatements.{LinesHaveTests}
use Rattle.cip_mps.specs.DraftStates.{at_place}
use Rattle.cip_mps.specs.DraftSteps.{PlacesJoin, IsStep}

or_none : (o : Option Bool) → or_else o None ≡ o
or_none None = refl
or_none (Some b) = refl

-- ---- entries of a line

entries_are : (column : List ℕ) (whole : Bool) (values : List Value) → entry_count (coefficients_in (ColumnLine column whole values)) ≡ entries_in values
entries_are column whole [] = refl
entries_are column whole (v ∷ vs) = go (is_zero v.number) (entries_are column whole vs)
  where
    go : (b : Bool) → entry_count (coefficients_in (ColumnLine column whole vs)) ≡ entries_in vs
        → length (cond (not b) (record { column = column; row = v.row; number = v.number } ∷ filter (λ entry. not (is_zero entry.number)) (coefficients_in (ColumnLine column whole vs))) (filter (λ entry. not (is_zero entry.number)) (coefficients_in (ColumnLine column whole vs))))
        ≡ length (cond (not b) (v ∷ filter (λ value. not (is_zero value.number)) vs) (filter (λ value. not (is_zero value.number)) vs))
    go true h = h
    go false h = ap suc h

-- the tests of a line with so many entries
abbrev rules_at : State → (column : List ℕ) → List Value → ℕ → List Rule
rules_at state column values n =
    rule 5 (list_any is_no_number (numbers_of values))
    ∷ rule 6 (has_huge values)
    ∷ rule 7 (list_any is_too_fine (numbers_of values))
    ∷ rule 8 (has_unknown state values)
    ∷ rule 11 (list_any (λ value. holds (number_in state.column_names column) (row_at state value.row)) values || has_twins values)
    ∷ rule 12 (is_before_last (number_in state.column_names column) (length state.column_names))
    ∷ rule 18 ((not (is_in state.column_names column) && nat_le most_columns (length state.column_names)) || nat_lt most_entries (state.entries + n))
    ∷ rule 19 (nat_lt longest_name (length column))
    ∷ []

pub rules_are : (state : State) (column : List ℕ) (whole : Bool) (values : List Value) → least (column_tests state column whole values) ≡ least (column_rules state column values)
rules_are state column whole values = ap (λ n. least (rules_at state column values n)) (entries_are column whole values)

-- ---- states

-- a line that changes nothing but the place
pub taken_skipped : (state : State) → at_place no_place (taken state Skipped) ≡ at_place no_place state
taken_skipped s = λ i. record s { place = no_place; opened = append-nil s.opened i; sense = or_none s.sense i; entries = add-zero s.entries i }

pub taken_marker : (state : State) (begins : Bool) → at_place no_place (taken state (Marker begins)) ≡ at_place no_place state
taken_marker s begins = λ i. record s { place = no_place; opened = append-nil s.opened i; sense = or_none s.sense i; entries = add-zero s.entries i }

pub taken_column : (state : State) (column : List ℕ) (whole : Bool) (values : List Value) → at_place no_place (taken state (ColumnLine column whole values)) ≡ record (at_place no_place (put state (ColumnLine column whole values))) { entries = state.entries + entries_in values }
taken_column s column whole values = λ i. record (put s (ColumnLine column whole values)) { place = no_place; opened = append-nil s.opened i; sense = or_none s.sense i; entries = s.entries + entries_are column whole values i }

-- lines that put values
pub taken_right_side : (state : State) (set_name : List ℕ) (values : List Value) → at_place no_place (taken state (RightSideLine set_name values)) ≡ at_place no_place (put state (RightSideLine set_name values))
taken_right_side s set_name values = λ i. record (put s (RightSideLine set_name values)) { place = no_place; opened = append-nil s.opened i; sense = or_none s.sense i; entries = add-zero s.entries i }

pub taken_range : (state : State) (set_name : List ℕ) (values : List Value) → at_place no_place (taken state (RangeLine set_name values)) ≡ at_place no_place (put state (RangeLine set_name values))
taken_range s set_name values = λ i. record (put s (RangeLine set_name values)) { place = no_place; opened = append-nil s.opened i; sense = or_none s.sense i; entries = add-zero s.entries i }

pub taken_bound : (state : State) (kind : BoundKind) (set_name column : List ℕ) (value : Numeral)
    → at_place no_place (taken state (BoundLine kind set_name column value)) ≡ at_place no_place (put state (BoundLine kind set_name column value))
taken_bound s kind set_name column value =
    λ i. record (put s (BoundLine kind set_name column value)) { place = no_place; opened = append-nil s.opened i; sense = or_none s.sense i; entries = add-zero s.entries i }

-- ---- places

tests_at : (place : LinePlace) (state : State) (now : Saying) → least (tests (at_place place state) now) ≡ least (tests state now)
tests_at place state UnknownSection = refl
tests_at place state (Opens part words) = refl
tests_at place state Misplaced = refl
tests_at place state Miscounted = refl
tests_at place state Skipped = refl
tests_at place state (SenseLine word) = refl
tests_at place state (RowLine kind name) = refl
tests_at place state (ColumnLine column whole values) = refl
tests_at place state (Marker begins) = refl
tests_at place state BadMarker = refl
tests_at place state (RightSideLine set_name values) = refl
tests_at place state (RangeLine set_name values) = refl
tests_at place state (BoundLine kind set_name column value) = refl
tests_at place state BadBound = refl

taken_at : (place : LinePlace) (state : State) (now : Saying) → at_place (place_after place now) (taken state now) ≡ taken (at_place place state) now
taken_at place state UnknownSection = refl
taken_at place state (Opens part words) = refl
taken_at place state Misplaced = refl
taken_at place state Miscounted = refl
taken_at place state Skipped = refl
taken_at place state (SenseLine word) = refl
taken_at place state (RowLine None name) = refl
taken_at place state (RowLine (Some kind) name) = refl
taken_at place state (ColumnLine column whole values) = refl
taken_at place state (Marker begins) = refl
taken_at place state BadMarker = refl
taken_at place state (RightSideLine set_name values) = refl
taken_at place state (RangeLine set_name values) = refl
taken_at place state (BoundLine kind set_name column value) = refl
taken_at place state BadBound = refl

pub places : PlacesJoin
places = record { same_tests = tests_at; same_state = taken_at }

-- ---- steps

-- a line with a fault changes nothing
pub faulty_step : (old : State) (now : Saying) (fault : Option ℕ) → fault ≡ least (tests old now) → is_some fault ≡ true → IsStep old old now fault
faulty_step old now (Some kind) f e = record { is_fault = f; is_kept = refl }
faulty_step old now None f e = absurd (cc)

-- one without is taken
pub quiet_step : (old new : State) (now : Saying) (fault : Option ℕ) → fault ≡ least (tests old now) → is_some fault ≡ false → new ≡ at_place no_place (taken old now) → IsStep old new now fault
quiet_step old new now None f e t = record { is_fault = f; is_kept = t }
quiet_step old new now (Some kind) f e t = absurd (cc)

pub no_fault : (fault : Option ℕ) → is_some fault ≡ false → fault ≡ None
no_fault None e = refl
no_fault (Some kind) e = absurd (cc)

-- the first sense counts
pub or_new : (old new : Option Bool) → is_some old ≡ false → new ≡ or_else old new
or_new None new e = refl
or_new (Some b) new e = absurd (cc)

pub or_old : (old new : Option Bool) → is_some old ≡ true → old ≡ or_else old new
or_old (Some b) new e = refl
or_old None new e = absurd (cc)

-- the tests of a section line
pub section_is : LinesHaveTests → (state : State) (part : Part) (words : List (List ℕ)) → least (tests state (Opens part words)) ≡ least (section_tests state part words)
section_is l state End words = l.ends state words
section_is l state NoPart words = l.opens state NoPart words refl
section_is l state Title words = l.opens state Title words refl
section_is l state Sense words = l.opens state Sense words refl
section_is l state Rows words = l.opens state Rows words refl
section_is l state Columns words = l.opens state Columns words refl
section_is l state RightSides words = l.opens state RightSides words refl
section_is l state Ranges words = l.opens state Ranges words refl
section_is l state Bounds words = l.opens state Bounds words refl
