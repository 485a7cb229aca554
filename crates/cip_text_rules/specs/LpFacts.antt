-- What an LP text has said so far: the program as far as it goes.
--     event_fault facts event      the kind of the fault of what is said, if it has one
--     facts_with facts event      the facts behind it
use Rattle.std.specs.Prelude.{ℕ, ◌+◌, ◌==◌, nat_lt, nat_le, Bool, true, false, not, ◌&&◌, ◌||◌, if◌then◌else◌, List, [], ◌∷◌, ◌++◌, length, Option, None, Some, slice_index_or, slice_set}
use Rattle.std.specs.List.{list_any}
use Rattle.std.specs.Str.{bytes_eq}
use Rattle.cip_rational.specs.Rational.{ℚ, zeroℚ, oneℚ, negate}
use Rattle.cip_rational.specs.NumberText.{natural_text}
use Rattle.cip_problem.specs.Limits.{most_rows, most_columns, most_entries, longest_name}
use Rattle.cip_problem.specs.Program.{Term, Sides, Row, Program}
use Rattle.cip_text_rules.specs.MpsWords.{number_in, is_in}
use Rattle.cip_text_rules.specs.MpsRules.{Rule, rule, least}
use Rattle.cip_text_rules.specs.LpWords.{LpPart, Costs, Constraints}
use Rattle.cip_text_rules.specs.LpPlaces.{Amount, Event, Fails, Opens, NamesObjective, Begins, AddsCost, AddsConstant, Adds, Ends, Mentions, SetsLow, SetsHigh, SetsBoth, MakesWhole, MakesBinary}

-- a number of the form in hand, by the number of its column
pub record FormTerm : Type 0 where
  pub column : ℕ
  pub value : ℚ
  pub zero : Bool

-- whether the cost is to be greatest; the objective's name; the rows that have ended, and the name of the one that
-- hasn't; the columns in the order of first mention, with cost, sides and whether they are whole; the constant; the
-- numbers of the form in hand by rising column; and how many numbers of rows aren't 0
pub record LpFacts : Type 0 where
  pub maximized : Bool
  pub objective : Option (List ℕ)
  pub row_names : List (List ℕ)
  pub rows : List Row
  pub row_name : Option (List ℕ)
  pub column_names : List (List ℕ)
  pub costs : List ℚ
  pub bounds : List Sides
  pub integral : List Bool
  pub constant : ℚ
  pub form : List FormTerm
  pub entries : ℕ

-- before the first token
abbrev pub nothing_said : LpFacts
nothing_said = record {
  maximized = false;
  objective = None;
  row_names = [];
  rows = [];
  row_name = None;
  column_names = [];
  costs = [];
  bounds = [];
  integral = [];
  constant = zeroℚ;
  form = [];
  entries = 0;
}

-- ---- columns

-- at least 0
abbrev pub default_sides : Sides
default_sides = record { low = Some zeroℚ; high = None }

-- a column was named
abbrev pub is_known : LpFacts → List ℕ → Bool
is_known facts name = is_in facts.column_names name

-- a column is behind the others where its name is new
abbrev pub with_column : LpFacts → List ℕ → LpFacts
with_column facts name =
    if is_known facts name then facts
    else record facts {
      column_names = facts.column_names ++ name ∷ [];
      costs = facts.costs ++ zeroℚ ∷ [];
      bounds = facts.bounds ++ default_sides ∷ [];
      integral = facts.integral ++ false ∷ [];
    }

-- its number; that of the next column where its name is new
abbrev pub number_or : Option ℕ → ℕ → ℕ
number_or None next = next
number_or (Some number) next = number

-- the number of a column, or the one that it gets
abbrev pub column_number : LpFacts → List ℕ → ℕ
column_number facts name = number_or (number_in facts.column_names name) (length facts.column_names)

-- the sides of a column
abbrev pub sides_of : LpFacts → List ℕ → Sides
sides_of facts name = slice_index_or facts.bounds (column_number facts name) default_sides

-- the facts with these sides of a column
abbrev pub with_sides : LpFacts → List ℕ → (low high : Option ℚ) → LpFacts
with_sides facts name low high =
    record facts {
      bounds = slice_set facts.bounds (column_number facts name) (record { low = low; high = high });
    }

-- and with a column that is whole
abbrev pub with_whole : LpFacts → List ℕ → LpFacts
with_whole facts name = record facts { integral = slice_set facts.integral (column_number facts name) true }

-- ---- forms

-- a number of a form, put in front of the first with a greater column
abbrev pub form_with : FormTerm → List FormTerm → List FormTerm
form_with term [] = term ∷ []
form_with term (other ∷ others) =
    if nat_lt term.column other.column then term ∷ other ∷ others else other ∷ form_with term others

-- a form has a number of this column
abbrev pub has_term : List FormTerm → ℕ → Bool
has_term form column = list_any (λ term. term.column == column) form

-- the number of a column in a form
abbrev pub form_term : ℕ → Amount → FormTerm
form_term column amount = record { column = column; value = amount.value; zero = amount.zero }

-- a cost as it is kept: one that is to be greatest is turned round
abbrev pub minimized : LpFacts → ℚ → ℚ
minimized facts value = if facts.maximized then negate value else value

-- one entry more, where the number isn't 0
abbrev pub entries_with : ℕ → Amount → ℕ
entries_with entries amount = if amount.zero then entries else entries + 1

-- a term of the objective
abbrev pub with_cost : LpFacts → Amount → (column : ℕ) → LpFacts
with_cost facts amount column =
    record facts {
      costs = slice_set facts.costs column (minimized facts amount.value);
      form = form_with (form_term column amount) facts.form;
    }

-- a term of a row
abbrev pub with_term : LpFacts → Amount → (column : ℕ) → LpFacts
with_term facts amount column =
    record facts {
      form = form_with (form_term column amount) facts.form;
      entries = entries_with facts.entries amount;
    }

-- ---- rows

-- the terms of a row: the numbers of its form that aren't 0
abbrev pub terms_of : List FormTerm → List Term
terms_of [] = []
terms_of (term ∷ terms) =
    if term.zero then terms_of terms
    else record { column = term.column; coefficient = term.value } ∷ terms_of terms

-- the row in hand ends
abbrev pub with_row : LpFacts → Option (List ℕ) → (low high : Option ℚ) → LpFacts
with_row facts None low high = facts
with_row facts (Some name) low high =
    record facts {
      row_names = facts.row_names ++ name ∷ [];
      rows = facts.rows ++ record { terms = terms_of facts.form; low = low; high = high } ∷ [];
      row_name = None;
      form = [];
    }

-- a row without a name of its own is `R` and its number, counted from 0
abbrev pub own_name : LpFacts → List ℕ
own_name facts = 82 ∷ natural_text (length facts.rows)

-- the name of a row
abbrev pub name_of_row : LpFacts → Option (List ℕ) → List ℕ
name_of_row facts None = own_name facts
name_of_row facts (Some name) = name

-- ---- faults

-- the objective has this name
abbrev pub is_named : Option (List ℕ) → List ℕ → Bool
is_named None name = false
is_named (Some other) name = bytes_eq name other

-- a row or the objective has this name
abbrev pub is_taken : LpFacts → List ℕ → Bool
is_taken facts name = is_named facts.objective name || is_in facts.row_names name

-- a column too many
abbrev pub is_column_too_many : LpFacts → List ℕ → Bool
is_column_too_many facts name = not (is_known facts name) && nat_le most_columns (length facts.column_names)

-- an entry too many
abbrev pub is_entry_too_many : LpFacts → Amount → Bool
is_entry_too_many facts amount = not amount.zero && nat_le most_entries facts.entries

-- a name of over 255 bytes
abbrev pub is_long : List ℕ → Bool
is_long name = nat_lt longest_name (length name)

-- a second number of a column in one form
abbrev pub is_again : LpFacts → List ℕ → Bool
is_again facts name = is_known facts name && has_term facts.form (column_number facts name)

-- the rules that what is said may break, by rising kind
abbrev pub event_rules : LpFacts → Event → List Rule
event_rules facts (Fails kind) = rule kind true ∷ []
event_rules facts (Opens part) = []
event_rules facts (NamesObjective name) = rule 10 (is_long name) ∷ []
event_rules facts (Begins name) =
    rule 6 (is_taken facts (name_of_row facts name)) ∷ rule 9 (nat_le most_rows (length facts.rows))
    ∷ rule 10 (is_long (name_of_row facts name)) ∷ []
event_rules facts (AddsCost amount name) =
    rule 7 (is_again facts name) ∷ rule 9 (is_column_too_many facts name) ∷ rule 10 (is_long name) ∷ []
event_rules facts (AddsConstant amount) = []
event_rules facts (Adds amount name) =
    rule 7 (is_again facts name) ∷ rule 9 (is_column_too_many facts name || is_entry_too_many facts amount)
    ∷ rule 10 (is_long name) ∷ []
event_rules facts (Ends low high) = []
event_rules facts (Mentions name) = rule 9 (is_column_too_many facts name) ∷ rule 10 (is_long name) ∷ []
event_rules facts (SetsLow name side) = []
event_rules facts (SetsHigh name side) = []
event_rules facts (SetsBoth name side) = []
event_rules facts (MakesWhole name) = []
event_rules facts (MakesBinary name) = []

-- the least kind that it breaks
abbrev pub event_fault : LpFacts → Event → Option ℕ
event_fault facts event = least (event_rules facts event)

-- ---- what is said

-- a section begins
abbrev pub with_part : LpFacts → LpPart → LpFacts
with_part facts (Costs maximized) = record facts { maximized = maximized }
with_part facts Constraints = record facts { form = [] }
with_part facts other = facts

-- the facts behind what is said
abbrev pub facts_with : LpFacts → Event → LpFacts
facts_with facts (Fails kind) = facts
facts_with facts (Opens part) = with_part facts part
facts_with facts (NamesObjective name) = record facts { objective = Some name }
facts_with facts (Begins name) = record facts { row_name = Some (name_of_row facts name) }
facts_with facts (AddsCost amount name) = with_cost (with_column facts name) amount (column_number facts name)
facts_with facts (AddsConstant amount) = record facts { constant = minimized facts amount.value }
facts_with facts (Adds amount name) = with_term (with_column facts name) amount (column_number facts name)
facts_with facts (Ends low high) = with_row facts facts.row_name low high
facts_with facts (Mentions name) = with_column facts name
facts_with facts (SetsLow name side) = with_sides facts name side (sides_of facts name).high
facts_with facts (SetsHigh name side) = with_sides facts name (sides_of facts name).low side
facts_with facts (SetsBoth name side) = with_sides facts name side side
facts_with facts (MakesWhole name) = with_whole facts name
facts_with facts (MakesBinary name) = with_sides (with_whole facts name) name (Some zeroℚ) (Some oneℚ)

-- a kind, or else a later one
abbrev pub or_later : Option ℕ → Option ℕ → Option ℕ
or_later None later = later
or_later (Some kind) later = Some kind

-- the fault of several things that are said: that of the first that has one
abbrev pub first_fault : LpFacts → List Event → Option ℕ
first_fault facts [] = None
first_fault facts (event ∷ events) = or_later (event_fault facts event) (first_fault (facts_with facts event) events)

-- the facts behind them
abbrev pub facts_after : LpFacts → List Event → LpFacts
facts_after facts [] = facts
facts_after facts (event ∷ events) = facts_after (facts_with facts event) events

-- ---- the program

-- the program that was said
abbrev pub program_of : LpFacts → Program
program_of facts = record {
  column_names = facts.column_names;
  row_names = facts.row_names;
  rows = facts.rows;
  costs = facts.costs;
  constant = facts.constant;
  maximized = facts.maximized;
  integral = facts.integral;
  bounds = facts.bounds;
  choices = [];
}
