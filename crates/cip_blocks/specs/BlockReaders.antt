-- What a text of blocks comes to, as a reader takes it in pieces.
use Rattle.std.specs.Prelude.{ℕ, List}
use Rattle.cip_text_rules.specs.LineStream.{stream_of}
use Rattle.cip_blocks.specs.declared.block_text.BlockText.{BlockText}
use Rattle.cip_blocks.specs.BlockTexts.{steps_of, StandsFor}

-- these bytes have come
abbrev pub HasCome : BlockText → (bytes : List ℕ) → Type 0
HasCome text bytes = StandsFor text (stream_of (steps_of text) bytes)
