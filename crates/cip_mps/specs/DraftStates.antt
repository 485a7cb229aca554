-- A draft as the state of a reader that has read the same lines. The place of the next line isn't in the draft.
--     kept draft      the state, in no place
--     at_place place state      the same state at another place
use Rattle.std.specs.Prelude.{map}
use Rattle.cip_mps_lines.specs.MpsKinds.{part_of}
use Rattle.cip_text_rules.specs.MpsSayings.{LinePlace, no_place}
use Rattle.cip_text_rules.specs.MpsState.{State}
use Rattle.cip_mps.specs.declared.draft.Draft.{Draft}

-- what was kept of the lines so far
abbrev pub kept : Draft → State
kept draft = record {
  place = no_place;
  opened = map part_of draft.opened.items;
  sense = draft.sense;
  row_names = draft.row_names;
  rows = draft.rows;
  column_names = draft.column_names;
  columns = draft.columns.items;
  row_count = draft.row_count;
  entries = draft.entries;
}

-- a state at a place
abbrev pub at_place : LinePlace → State → State
at_place place state = record state { place = place }
