-- What a line of the code says, as what lines of a text say.
--     saying_of line      what it says
use Rattle.std.specs.Prelude.{List, [], ◌∷◌, Option, None, Some, option_map}
use Rattle.cip_text.specs.TextLines.{fields_left}
use Rattle.cip_text_rules.specs.MpsSayings as text
use Rattle.cip_mps_lines.specs.MpsKinds.{part_of, row_kind_in, bound_kind_in}
use Rattle.cip_mps_lines.specs.declared.line.Pair.{Pair}
use Rattle.cip_mps_lines.specs.declared.line.Pairs.{Pairs}
use Rattle.cip_mps_lines.specs.declared.line.Line.{Line}
use Rattle.cip_mps_lines.specs.declared.line.Line.TheVariants.{UnknownSection, Opens, Misplaced, Miscounted, Skipped, SenseLine, RowLine, ColumnLine, Marker, BadMarker, RightSideLine, RangeLine, BoundLine, BadBound}

-- a row's name and the number for it
abbrev pub value_in : Pair → text.Value
value_in pair = record { row = pair.row.now; number = pair.number }

-- a second value, if there is one
abbrev pub second_in : Option Pair → List text.Value
second_in None = []
second_in (Some pair) = value_in pair ∷ []

-- the one or two values of a line
abbrev pub values_of : Pairs → List text.Value
values_of pairs = value_in pairs.first ∷ second_in pairs.second

-- what a line says
abbrev pub saying_of : Line → text.Saying
saying_of UnknownSection = text.UnknownSection
saying_of (Opens part words) = text.Opens (part_of part) (fields_left words)
saying_of Misplaced = text.Misplaced
saying_of Miscounted = text.Miscounted
saying_of Skipped = text.Skipped
saying_of (SenseLine word) = text.SenseLine word.now
saying_of (RowLine kind name) = text.RowLine (option_map row_kind_in kind) name.now
saying_of (ColumnLine column whole values) = text.ColumnLine column.now whole (values_of values)
saying_of (Marker begins) = text.Marker begins
saying_of BadMarker = text.BadMarker
saying_of (RightSideLine set_name values) = text.RightSideLine set_name.now (values_of values)
saying_of (RangeLine set_name values) = text.RangeLine set_name.now (values_of values)
saying_of (BoundLine kind set_name column value) =
    text.BoundLine (bound_kind_in kind) set_name.now column.now value
saying_of BadBound = text.BadBound
