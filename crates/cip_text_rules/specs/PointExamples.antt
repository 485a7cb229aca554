-- Texts of points with what they come to, for the laws of examples.
use lib.Chars.{codes}
use Rattle.std.specs.Prelude.{◌≡◌, ℕ, false, pos, negsuc, List, [], ◌∷◌, ◌++◌}
use Rattle.cip_rational.specs.Rational.{ratio}
use Rattle.cip_problem.specs.Program.{Program}
use Rattle.cip_problem.specs.WellFormed.{no_program}
use Rattle.cip_text_rules.specs.LineTexts.{Means, Faulty, outcome_of}
use Rattle.cip_text_rules.specs.PointRules.{point_reading}

-- a program with the columns a, b and c; nothing else of it is looked at
abbrev pub three_columns : Program
three_columns = record (no_program false) { column_names = codes "a" ∷ codes "b" ∷ codes "c" ∷ [] }

-- its columns in another order, with comments, blanks and an empty line
abbrev pub point_text : List ℕ
point_text = codes "* a point\nc -7/4\n\n \t\r\n a\t2\r\n*b 9\n  b 1.50e1"

-- texts with their points
pub record TextsHavePoints : Type 0 where
  pub by_name :
      outcome_of (point_reading three_columns) point_text
      ≡ Means (ratio (pos 2) 1 ∷ ratio (pos 15) 1 ∷ ratio (negsuc 6) 4 ∷ [])
  pub no_column : outcome_of (point_reading (no_program false)) [] ≡ Means []

-- a text has its first fault on a line, of a kind
abbrev pub IsFaulty : List ℕ → (line kind : ℕ) → Type 0
IsFaulty text line kind = outcome_of (point_reading three_columns) text ≡ Faulty line kind

-- two lines without fault
abbrev pub with_two : List ℕ → List ℕ
with_two text = codes "a 1\nb 2\n" ++ text

-- each kind on a text of its own; kind 6 is tried on outcomes
pub record EachPointKindIsFound : Type 0 where
  pub kind1_one_field : IsFaulty (with_two (codes "c\n")) 3 1
  pub kind1_three_fields : IsFaulty (with_two (codes "c 1 2\n")) 3 1
  pub kind2_unknown : IsFaulty (with_two (codes "d 1\n")) 3 2
  pub kind3_again : IsFaulty (with_two (codes "a 1\n")) 3 3
  pub kind4_no_number : IsFaulty (with_two (codes "c x\n")) 3 4
  pub kind4_by_zero : IsFaulty (with_two (codes "c 1/0\n")) 3 4
  pub kind4_huge : IsFaulty (with_two (codes "c 1e39\n")) 3 4
  pub kind4_fine : IsFaulty (with_two (codes "c 1e-39\n")) 3 4
  pub kind5_missing : IsFaulty (with_two []) 3 5
  pub kind5_empty : IsFaulty [] 1 5
  pub kind5_open_line : IsFaulty (codes "a 1\nb 2") 3 5

-- which of several faults counts
pub record PointFaultsAreTold : Type 0 where
  pub again_and_bad : IsFaulty (with_two (codes "a x\n")) 3 3
  pub unknown_and_bad : IsFaulty (with_two (codes "d x\n")) 3 2
  pub first_line : IsFaulty (with_two (codes "c x\nc 1 2\n")) 3 4
  pub before_end : IsFaulty (codes "a 1\na 2\n") 2 3
  pub large_letters : IsFaulty (codes "A 1\n") 1 2
  pub star_behind_blank : IsFaulty (codes " * 1\n") 1 2
  pub block_comment : IsFaulty (codes "\\ a comment\n") 1 1
