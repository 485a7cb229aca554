-- The code's words that are never names, as those of a text.
use Rattle.cip_text_rules.specs.BlockWords as text
use Rattle.cip_blocks.specs.declared.words.Keyword.{Keyword}
use Rattle.cip_blocks.specs.declared.words.Keyword.TheVariants.{Presolved, BlockCount, Block, Master}

-- one of the four words
abbrev pub keyword_shown : Keyword → text.Keyword
keyword_shown Presolved = text.Presolved
keyword_shown BlockCount = text.BlockCount
keyword_shown Block = text.Block
keyword_shown Master = text.Master
