-- The lines of a trace as they are printed, with the name of the plugin in the place of its number.
use lib.Chars.{codes}
use Rattle.std.specs.Prelude.{ℕ, List, [], ◌∷◌, ◌++◌, map, Option, None, Some, slice_get}
use Rattle.cip_rational.specs.NumberText.{natural_text}
use Rattle.cip_search.specs.TraceTexts.{Traced}
use Rattle.cip_events.specs.Words.{text_of_word}
use Rattle.cip_events.specs.declared.words.Word.{Word}
use Rattle.cip_events.specs.declared.words.Word.TheVariants.{Dropped, Refused}
use Rattle.cip_events.specs.declared.traces.Trace.{Trace}
use Rattle.cip_events.specs.declared.traces.TraceLine.{TraceLine}

-- what follows a word: how many were dropped, or the name of the fault
abbrev pub behind_word : Word → List ℕ
behind_word (Dropped count) = 32 ∷ natural_text count
behind_word (Refused fault) = 32 ∷ fault.now
behind_word word = []

-- a word with what follows it
abbrev pub word_text : Word → List ℕ
word_text word = text_of_word word ++ behind_word word

-- the name of a plugin, and `?` where it has none
abbrev pub name_or_mark : Option (List ℕ) → List ℕ
name_or_mark None = codes "?"
name_or_mark (Some name) = name

-- a line, for plugins of these names by their numbers
abbrev pub traced_line : List (List ℕ) → TraceLine → Traced
traced_line names traced = record {
  id = traced.id;
  name = name_or_mark (slice_get names traced.id);
  word = word_text traced.word;
}

-- the lines of a trace, and none where no trace was kept
abbrev pub kept_lines : Option Trace → List Traced
kept_lines None = []
kept_lines (Some trace) = map (traced_line trace.names.items) trace.lines.items
