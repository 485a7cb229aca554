-- The bounds of a column: its bound records are taken in order, and later ones win.
--     bounds_of facts column      low, high, and whether the column is whole or semi-continuous
--     column_sides, choices_of      the box of the program, and its choices
use Rattle.std.specs.Prelude.{ℕ, Bool, true, false, not, ◌&&◌, if◌then◌else◌, List, [], Option, None, Some, is_some, fold, map}
use Rattle.std.specs.List.{list_any}
use Rattle.std.specs.Str.{bytes_eq}
use Rattle.cip_rational.specs.Rational.{ℚ, zeroℚ, oneℚ, le_test}
use Rattle.cip_text_rules.specs.Program.{Sides, Choice, Plain, Open}
use Rattle.cip_text_rules.specs.Choices.{open_sides}
use Rattle.cip_rational.specs.Numeral.{Numeral, value_of}
use Rattle.cip_text_rules.specs.MpsWords.{BoundKind, Low, High, Fixed, WholeLow, WholeHigh, Unbounded, NoLow, NoHigh, Binary, SemiContinuous, is_negative}
use Rattle.cip_text_rules.specs.MpsFacts.{GivenColumn, GivenBound, Facts}

-- the bounds of a column so far, whether it is whole, whether a record made it semi-continuous, whether a record has
-- set the low bound, and whether there is any record of it
pub record Bounded : Type 0 where
  pub low : Option ℚ
  pub high : Option ℚ
  pub whole : Bool
  pub semi : Bool
  pub low_set : Bool
  pub named : Bool

-- a column without records is at least 0
abbrev pub unbounded : Bool → Bounded
unbounded whole = record {
  low = Some zeroℚ;
  high = None;
  whole = whole;
  semi = false;
  low_set = false;
  named = false;
}

-- LO; a value that is no bound opens the side
abbrev pub with_low : Bounded → Numeral → Bounded
with_low b value = record {
  low = value_of value;
  high = b.high;
  whole = b.whole;
  semi = b.semi;
  low_set = true;
  named = true;
}

-- UP; a negative one opens the low side where no record has set that
abbrev pub with_high : Bounded → Numeral → Bounded
with_high b value = record {
  low = if is_negative value && not b.low_set then None else b.low;
  high = value_of value;
  whole = b.whole;
  semi = b.semi;
  low_set = b.low_set;
  named = true;
}

-- SC; it leaves the low bound as it is
abbrev pub with_semi : Bounded → Numeral → Bounded
with_semi b value = record {
  low = b.low;
  high = value_of value;
  whole = b.whole;
  semi = true;
  low_set = b.low_set;
  named = true;
}

-- the column is whole
abbrev pub made_whole : Bounded → Bounded
made_whole b = record {
  low = b.low;
  high = b.high;
  whole = true;
  semi = b.semi;
  low_set = b.low_set;
  named = b.named;
}

-- one record more
abbrev pub with_bound : Bounded → BoundKind → Numeral → Bounded
with_bound b Low value = with_low b value
with_bound b High value = with_high b value
with_bound b WholeLow value = made_whole (with_low b value)
with_bound b WholeHigh value = made_whole (with_high b value)
with_bound b Fixed value = record {
  low = value_of value;
  high = value_of value;
  whole = b.whole;
  semi = b.semi;
  low_set = true;
  named = true;
}
with_bound b Unbounded value = record {
  low = None;
  high = None;
  whole = b.whole;
  semi = b.semi;
  low_set = true;
  named = true;
}
with_bound b NoLow value = record {
  low = None;
  high = b.high;
  whole = b.whole;
  semi = b.semi;
  low_set = true;
  named = true;
}
with_bound b NoHigh value = record {
  low = b.low;
  high = None;
  whole = b.whole;
  semi = b.semi;
  low_set = b.low_set;
  named = true;
}
with_bound b Binary value = record {
  low = Some zeroℚ;
  high = Some oneℚ;
  whole = true;
  semi = b.semi;
  low_set = true;
  named = true;
}
with_bound b SemiContinuous value = with_semi b value

-- one record more, if it names the column
abbrev pub bounded_by : List ℕ → Bounded → GivenBound → Bounded
bounded_by column b bound = if bytes_eq column bound.column then with_bound b bound.kind bound.value else b

-- a column between markers that no record names lies between 0 and 1
abbrev pub settled : Bounded → Bounded
settled b = if b.whole && not b.named then record b { low = Some zeroℚ; high = Some oneℚ } else b

-- the bounds of a column so far
abbrev pub bounds_so_far : Facts → GivenColumn → Bounded
bounds_so_far facts column = fold (bounded_by column.name) (unbounded column.whole) facts.bounds

-- the bounds of a column
abbrev pub bounds_of : Facts → GivenColumn → Bounded
bounds_of facts column = settled (bounds_so_far facts column)

-- those of all columns
abbrev pub all_bounds : Facts → List Bounded
all_bounds facts = map (bounds_of facts) facts.columns

-- ---- semi-continuous columns

-- low and high
abbrev pub own_sides : Bounded → Sides
own_sides b = record { low = b.low; high = b.high }

-- a bound that is there and at least 0
abbrev pub is_from_zero : Option ℚ → Bool
is_from_zero None = false
is_from_zero (Some side) = le_test zeroℚ side

-- the bounds that a semi-continuous column must have: a high one, and a low one of at least 0
abbrev pub are_semi_sides : Sides → Bool
are_semi_sides sides = is_some sides.high && is_from_zero sides.low

-- a semi-continuous column without them
abbrev pub lacks_sides : Bounded → Bool
lacks_sides b = b.semi && not (are_semi_sides (own_sides b))

-- a column that is both whole and semi-continuous
abbrev pub is_mixed : Bounded → Bool
is_mixed b = b.whole && b.semi

-- a column is semi-continuous, and isn't such that the text is refused
abbrev pub is_semi : Bounded → Bool
is_semi b = b.semi && not b.whole && are_semi_sides (own_sides b)

-- the sides in the program's box: those of an open choice where the column is semi-continuous
abbrev pub column_sides : Bounded → Sides
column_sides b = if is_semi b then open_sides (own_sides b) else own_sides b

-- the choice of a column: it is open where the column is semi-continuous
abbrev pub choice_of : Bounded → Choice
choice_of b = if is_semi b then Open (own_sides b) else Plain

-- the choices of all columns; the list is empty where no column is semi-continuous
abbrev pub choices_of : List Bounded → List Choice
choices_of bounds = if list_any is_semi bounds then map choice_of bounds else []
