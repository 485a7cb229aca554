use Rattle.std.proofs.Common.{◌≡◌, take}
use Rattle.std.specs.Prelude.{fold}
use Rattle.cip_text_rules.specs.LpBytes.{byte_taken}
use Rattle.cip_lp.specs.LpTexts.{shown_of}
use Rattle.cip_lp.proofs.lp_text.LpTextPieceText.take.Given as goal

abbrev pub invariant-loop-byte : goal.invariant-loop-byte
invariant-loop-byte l = shown_of l.self ≡ fold byte_taken (shown_of l.fn.self) (take l.byte-index l.piece)
