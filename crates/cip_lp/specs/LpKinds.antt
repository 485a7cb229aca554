-- The code's sections, relations and words, as those of a text.
use lib.Chars.{codes}
use Rattle.std.specs.Prelude.{ℕ, true, false, List}
use Rattle.std.specs.Str.{str_to_ascii_lowercase}
use Rattle.cip_text_rules.specs.MpsWords.{Word}
use Rattle.cip_text_rules.specs.LpWords as text
use Rattle.cip_lp.specs.declared.words.LpPart.{LpPart}
use Rattle.cip_lp.specs.declared.words.LpPart.TheVariants.{NoPart, Minimize, Maximize, Constraints, Bounds, Generals, Binaries, End}
use Rattle.cip_lp.specs.declared.words.Relation.{Relation}
use Rattle.cip_lp.specs.declared.words.Relation.TheVariants.{AtMost, EqualTo, AtLeast}
use Rattle.cip_lp.specs.declared.words.WordMeaning.{WordMeaning}
use Rattle.cip_lp.specs.declared.words.WordMeaning.TheVariants.{Opens, Subject, Such, Outside, Free, Infinity}

-- a section
abbrev pub part_shown : LpPart → text.LpPart
part_shown NoPart = text.NoPart
part_shown Minimize = text.Costs false
part_shown Maximize = text.Costs true
part_shown Constraints = text.Constraints
part_shown Bounds = text.Bounds
part_shown Generals = text.Generals
part_shown Binaries = text.Binaries
part_shown End = text.End

-- a relation
abbrev pub relation_shown : Relation → text.Relation
relation_shown AtMost = text.AtMost
relation_shown EqualTo = text.EqualTo
relation_shown AtLeast = text.AtLeast

-- what a word means
abbrev pub meaning_shown : WordMeaning → text.WordMeaning
meaning_shown (Opens part) = text.OpensPart (part_shown part)
meaning_shown Subject = text.OpensWith (codes "to") text.Constraints
meaning_shown Such = text.OpensWith (codes "that") text.Constraints
meaning_shown Outside = text.Outside
meaning_shown Free = text.FreeWord
meaning_shown Infinity = text.Infinity

-- a word with what it means, in small letters
abbrev pub word_shown : List ℕ → WordMeaning → Word text.WordMeaning
word_shown word meaning = text.with_meaning (str_to_ascii_lowercase word) (meaning_shown meaning)
