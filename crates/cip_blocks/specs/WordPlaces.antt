-- Where the next word stands, and the places of rows, as the code keeps them.
use Rattle.std.specs.Prelude.{ℕ, nat_lt, Bool, true, Option, None, Some, is_none, unwrap_or}
use Rattle.cip_text_rules.specs.BlockWords as text
use Rattle.cip_text_rules.specs.BlockSteps as steps
use Rattle.cip_blocks.specs.declared.word_places.WordPlace.{WordPlace}
use Rattle.cip_blocks.specs.declared.word_places.WordPlace.TheVariants.{KeywordDue, ZeroDue, CountDue, BlockDue, NamesOf}
use Rattle.cip_blocks.specs.declared.word_places.RowPlace.{RowPlace}
use Rattle.cip_blocks.specs.declared.word_places.RowPlace.TheVariants.{Unnamed, Named}

-- where the next word stands
abbrev pub place_shown : WordPlace → text.WordPlace
place_shown KeywordDue = text.KeywordDue
place_shown ZeroDue = text.ZeroDue
place_shown CountDue = text.CountDue
place_shown BlockDue = text.BlockDue
place_shown (NamesOf block) = text.NamesOf block

-- the place of a row
abbrev pub row_shown : RowPlace → steps.RowPlace
row_shown Unnamed = steps.Unnamed
row_shown (Named block) = steps.place_of block

-- the block of a row, if it has one
abbrev pub block_of : RowPlace → Option ℕ
block_of Unnamed = None
block_of (Named block) = block

-- a block, if there is one, is among so many
abbrev pub is_below : (count : ℕ) → Option ℕ → Bool
is_below count None = true
is_below count (Some block) = nat_lt block count

-- the number of blocks is due only where it wasn't said, and names stand for a block that is one of so many
abbrev pub is_sound_place : Option ℕ → WordPlace → Bool
is_sound_place count CountDue = is_none count
is_sound_place count (NamesOf block) = is_below (unwrap_or count 0) block
is_sound_place count other = true
