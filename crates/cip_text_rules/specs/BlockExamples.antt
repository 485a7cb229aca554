-- Texts of blocks with what they come to, for the laws of examples.
use lib.Chars.{codes}
use Rattle.std.specs.Prelude.{◌≡◌, ℕ, false, List, [], ◌∷◌, ◌++◌, None, Some}
use Rattle.cip_rational.specs.Rational.{zeroℚ}
use Rattle.cip_problem.specs.Program.{Row, Program}
use Rattle.cip_text_rules.specs.MpsExamples.{three_columns_program, term, row_to, up_to}
use Rattle.cip_text_rules.specs.LineTexts.{Means, Faulty, outcome_of}
use Rattle.cip_problem.specs.BlockParts.{BlockPart, Blocks}
use Rattle.cip_text_rules.specs.BlockRules.{block_reading}

-- ---- programs

-- columns from 0 to 1 and rows R1, R2 and R3, of which the terms alone are looked at
abbrev pub four_columns : List Row → Program
four_columns rows = record {
  column_names = codes "x1" ∷ codes "x2" ∷ codes "y1" ∷ codes "y2" ∷ [];
  row_names = codes "R1" ∷ codes "R2" ∷ codes "R3" ∷ [];
  rows = rows;
  costs = zeroℚ ∷ zeroℚ ∷ zeroℚ ∷ zeroℚ ∷ [];
  constant = zeroℚ;
  maximized = false;
  integral = false ∷ false ∷ false ∷ false ∷ [];
  bounds = up_to 1 ∷ up_to 1 ∷ up_to 1 ∷ up_to 1 ∷ [];
  choices = [];
}

-- 2 x1 + 2 x2 is at most 3, and 2 y1 + 2 y2, and x1 + x2 + y1 + y2
abbrev pub joined : Program
joined =
    four_columns
    (row_to 3 (term 2 0 ∷ term 2 1 ∷ []) ∷ row_to 3 (term 2 2 ∷ term 2 3 ∷ [])
    ∷ row_to 3 (term 1 0 ∷ term 1 1 ∷ term 1 2 ∷ term 1 3 ∷ []) ∷ [])

-- three rows on columns of their own
abbrev pub apart : Program
apart =
    four_columns
    (row_to 3 (term 2 0 ∷ []) ∷ row_to 3 (term 2 1 ∷ term 1 3 ∷ []) ∷ row_to 3 (term 1 2 ∷ []) ∷ [])

-- the column y1 has no high bound
abbrev pub opened : Program
opened = record joined {
  bounds = up_to 1 ∷ up_to 1 ∷ record { low = Some zeroℚ; high = None } ∷ up_to 1 ∷ [];
}

-- ---- texts and their blocks

-- a block with these rows and columns
abbrev pub part : List ℕ → List ℕ → BlockPart
part rows columns = record { rows = rows; columns = columns }

-- blocks, master rows, and columns of no block
abbrev pub blocks : List BlockPart → List ℕ → List ℕ → Blocks
blocks parts master_rows free_columns = record {
  blocks = parts;
  master_rows = master_rows;
  free_columns = free_columns;
}

-- R1 in block 1 and R2 in block 2
abbrev pub two_blocks : List ℕ
two_blocks = codes "NBLOCKS 2\nBLOCK 1\nR1\nBLOCK 2\nR2\n"

-- the same with a comment, words on other lines, zeros in front, blocks in another order, and a named master row
abbrev pub loose_blocks : List ℕ
loose_blocks =
    codes "\\ R9 BLOCK\nPRESOLVED\n0 MASTERCONSS R3\n\n \t\r\nNBLOCKS 0002 BLOCK\n 2 R2 BLOCK 01\tR1\r\n"
    ++ codes "MASTERCONSS\nPRESOLVED 0"

-- texts with their blocks
pub record TextsHaveBlocks : Type 0 where
  pub joined_rows :
      outcome_of (block_reading joined) two_blocks
      ≡ Means (blocks (part (0 ∷ []) (0 ∷ 1 ∷ []) ∷ part (1 ∷ []) (2 ∷ 3 ∷ []) ∷ []) (2 ∷ []) [])
  pub loose :
      outcome_of (block_reading joined) loose_blocks
      ≡ Means (blocks (part (0 ∷ []) (0 ∷ 1 ∷ []) ∷ part (1 ∷ []) (2 ∷ 3 ∷ []) ∷ []) (2 ∷ []) [])
  pub own_columns :
      outcome_of (block_reading apart) (codes "NBLOCKS 3\nBLOCK 1\nR1\nBLOCK 2\nR2\nBLOCK 3\nR3")
      ≡ Means
      (blocks (part (0 ∷ []) (0 ∷ []) ∷ part (1 ∷ []) (1 ∷ 3 ∷ []) ∷ part (2 ∷ []) (2 ∷ []) ∷ []) [] [])
  pub no_block :
      outcome_of (block_reading joined) (codes "NBLOCKS 1 BLOCK 1 R2")
      ≡ Means (blocks (part (1 ∷ []) (2 ∷ 3 ∷ []) ∷ []) (0 ∷ 2 ∷ []) (0 ∷ 1 ∷ []))
  pub empty_block :
      outcome_of (block_reading apart) (codes "NBLOCKS 2 BLOCK 2 BLOCK 1 R3 R1")
      ≡ Means (blocks (part (0 ∷ 2 ∷ []) (0 ∷ 2 ∷ []) ∷ part [] [] ∷ []) (1 ∷ []) (1 ∷ 3 ∷ []))
  pub one_block :
      outcome_of (block_reading three_columns_program) (codes "NBLOCKS 1\nBLOCK 1\nR3\nR2\nR1\n")
      ≡ Means (blocks (part (0 ∷ 1 ∷ 2 ∷ []) (0 ∷ 1 ∷ 2 ∷ []) ∷ []) [] [])
  pub open_in_master :
      outcome_of (block_reading opened) (codes "NBLOCKS 1\nBLOCK 1\nR1\n")
      ≡ Means (blocks (part (0 ∷ []) (0 ∷ 1 ∷ []) ∷ []) (1 ∷ 2 ∷ []) (2 ∷ 3 ∷ []))

-- ---- faults

-- a text of blocks has its first fault on a line, of a kind
abbrev pub HasBlockFault : Program → List ℕ → (line kind : ℕ) → Type 0
HasBlockFault program text line kind = outcome_of (block_reading program) text ≡ Faulty line kind

-- lines 1 to 3 name R1 in block 1 of two
abbrev pub with_block : List ℕ → List ℕ
with_block text = codes "NBLOCKS 2\nBLOCK 1\nR1\n" ++ text

-- each kind on a text of its own; kind 9 is tried on outcomes
pub record EachBlockKindIsFound : Type 0 where
  pub kind1_name_first : HasBlockFault joined (codes "\nR1\n") 2 1
  pub kind1_other_value : HasBlockFault joined (codes "PRESOLVED\n1\n") 2 1
  pub kind2_zero : HasBlockFault joined (codes "NBLOCKS\n0\n") 2 2
  pub kind2_large : HasBlockFault joined (codes "NBLOCKS 4097\n") 1 2
  pub kind2_sign : HasBlockFault joined (codes "NBLOCKS +2\n") 1 2
  pub kind3_zero : HasBlockFault joined (with_block (codes "BLOCK 0\n")) 4 3
  pub kind3_large : HasBlockFault joined (with_block (codes "BLOCK 3\n")) 4 3
  pub kind3_again : HasBlockFault joined (with_block (codes "BLOCK\n1\n")) 5 3
  pub kind3_word : HasBlockFault joined (with_block (codes "BLOCK R2\n")) 4 3
  pub kind4_unknown : HasBlockFault joined (with_block (codes "R2 R4\n")) 4 4
  pub kind4_objective : HasBlockFault three_columns_program (with_block (codes "COST\n")) 4 4
  pub kind5_again : HasBlockFault joined (with_block (codes "R1\n")) 4 5
  pub kind5_as_master : HasBlockFault joined (with_block (codes "MASTERCONSS\nR1\n")) 5 5
  pub kind6_linking : HasBlockFault three_columns_program two_blocks 6 6
  pub kind7_open : HasBlockFault opened two_blocks 6 7
  pub kind8_empty : HasBlockFault joined [] 1 8
  pub kind8_no_count : HasBlockFault joined (codes "PRESOLVED 0\nMASTERCONSS\nR1\n") 4 8
  pub kind8_no_block : HasBlockFault joined (with_block []) 4 8

-- words out of place, and which of several faults counts
pub record BlockFaultsAreTold : Type 0 where
  pub block_first : HasBlockFault joined (codes "BLOCK 1\nNBLOCKS 2\n") 1 1
  pub count_again : HasBlockFault joined (with_block (codes "NBLOCKS 2\n")) 4 1
  pub keyword_as_zero : HasBlockFault joined (codes "PRESOLVED\nBLOCK\n") 2 1
  pub keyword_as_count : HasBlockFault joined (codes "NBLOCKS\nNBLOCKS\n") 2 1
  pub keyword_as_block : HasBlockFault joined (with_block (codes "BLOCK\nMASTERCONSS\n")) 5 1
  pub name_behind_count : HasBlockFault joined (codes "MASTERCONSS R1\nNBLOCKS 2 R2\n") 2 1
  pub name_behind_zero : HasBlockFault joined (with_block (codes "PRESOLVED 0\nR9\n")) 5 1
  pub small_letters : HasBlockFault joined (with_block (codes "block\n")) 4 4
  pub other_comment : HasBlockFault joined (with_block (codes "* R2\n")) 4 4
  pub comment_behind_blank : HasBlockFault joined (with_block (codes " \\ R2\n")) 4 4
  pub ends_at_zero : HasBlockFault joined (codes "PRESOLVED\n\n") 3 1
  pub ends_at_count : HasBlockFault joined (codes "NBLOCKS") 2 2
  pub ends_at_block : HasBlockFault joined (with_block (codes "BLOCK\n")) 5 3
  pub linking_before_missing :
      HasBlockFault three_columns_program (codes "NBLOCKS 3\nBLOCK 1 R1\nBLOCK 3 R3\n") 4 6
  pub open_before_missing : HasBlockFault opened (codes "NBLOCKS 3\nBLOCK 1 R2\n") 3 7
  pub linking_before_open :
      HasBlockFault opened (codes "NBLOCKS 2\nBLOCK 1 R2\nBLOCK 2 R3\n") 4 6
  pub word_before_end : HasBlockFault three_columns_program (codes "NBLOCKS 2 BLOCK 1 R1 BLOCK 2 R2\nR2\n") 2 5
