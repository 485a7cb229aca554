-- The first words of a line, as the code keeps them, and the sets of a section.
use Rattle.std.specs.Prelude.{ℕ, List, map, take}
use denote.Ref.{Bor}
use Rattle.cip_mps_lines.specs.declared.fields.Words.{Words}

-- the words behind a list of references
abbrev pub texts : List (Bor (List ℕ)) → List (List ℕ)
texts words = map (λ word. word.now) words

-- the words that are kept
abbrev pub words_of : Words → List (List ℕ)
words_of kept = take kept.count (texts kept.words)
