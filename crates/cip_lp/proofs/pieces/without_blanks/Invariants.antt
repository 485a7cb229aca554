use Rattle.std.proofs.Common.{◌≡◌, length}
use Rattle.cip_text_rules.specs.LpTokens.{line_pieces}
use Rattle.cip_lp.proofs.pieces.without_blanks.Given as goal

abbrev pub invariant-loop-rest : goal.invariant-loop-rest
invariant-loop-rest l = line_pieces l.rest ≡ line_pieces l.bytes

abbrev pub decreases-loop-rest : goal.decreases-loop-rest
decreases-loop-rest l = length l.rest
