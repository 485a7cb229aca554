use Rattle.std.proofs.Common.{◌≡◌, ℕ, length}
use Rattle.cip_text_rules.specs.LineStream.{Going}
use Rattle.cip_lp.specs.LpLines.{tokens_left}
use Rattle.cip_text_rules.specs.LpBytes.{tokens_read}
use Rattle.cip_lp.specs.LinesRead.{stage_of}
use Rattle.cip_lp.proofs.line_reader.LineReader.take_tokens.Given as goal

abbrev pub invariant-loop-token : goal.invariant-loop-token
invariant-loop-token l =
    (number : ℕ) → tokens_read number (Going (stage_of l.self)) (tokens_left l.tokens) ≡ tokens_read number (Going (stage_of l.fn.self)) (tokens_left l.line)

abbrev pub decreases-loop-token : goal.decreases-loop-token
decreases-loop-token l = length (tokens_left l.tokens)
