-- The code's sections and types of rows and bounds, as those of a text.
use Rattle.std.specs.Prelude.{ℕ, List}
use Rattle.cip_text_rules.specs.MpsWords as text
use Rattle.cip_mps_lines.specs.declared.words.Part.{Part}
use Rattle.cip_mps_lines.specs.declared.words.Part.TheVariants.{NoPart, Title, Sense, Rows, Columns, RightSides, Ranges, Bounds, End}
use Rattle.cip_mps_lines.specs.declared.words.RowKind.{RowKind}
use Rattle.cip_mps_lines.specs.declared.words.RowKind.TheVariants.{Free, AtMost, AtLeast, EqualTo}
use Rattle.cip_mps_lines.specs.declared.words.BoundKind.{BoundKind}
use Rattle.cip_mps_lines.specs.declared.words.BoundKind.TheVariants.{Low, High, Fixed, WholeLow, WholeHigh, Unbounded, NoLow, NoHigh, Binary, SemiContinuous}

-- a section
abbrev pub part_of : Part → text.Part
part_of NoPart = text.NoPart
part_of Title = text.Title
part_of Sense = text.Sense
part_of Rows = text.Rows
part_of Columns = text.Columns
part_of RightSides = text.RightSides
part_of Ranges = text.Ranges
part_of Bounds = text.Bounds
part_of End = text.End

-- a word of a section
abbrev pub section_word : List ℕ → Part → text.Word text.Part
section_word word part = record { text = word; meaning = part_of part }

-- the type of a row
abbrev pub row_kind_in : RowKind → text.RowKind
row_kind_in Free = text.Free
row_kind_in AtMost = text.AtMost
row_kind_in AtLeast = text.AtLeast
row_kind_in EqualTo = text.EqualTo

-- the type of a bound
abbrev pub bound_kind_in : BoundKind → text.BoundKind
bound_kind_in Low = text.Low
bound_kind_in High = text.High
bound_kind_in Fixed = text.Fixed
bound_kind_in WholeLow = text.WholeLow
bound_kind_in WholeHigh = text.WholeHigh
bound_kind_in Unbounded = text.Unbounded
bound_kind_in NoLow = text.NoLow
bound_kind_in NoHigh = text.NoHigh
bound_kind_in Binary = text.Binary
bound_kind_in SemiContinuous = text.SemiContinuous

-- a word of a type of bounds
abbrev pub bound_word : List ℕ → BoundKind → text.Word text.BoundKind
bound_word word kind = record { text = word; meaning = bound_kind_in kind }
