use Rattle.std.proofs.Common.{◌≡◌, length}
use Rattle.cip_text_rules.specs.Lines.{fields}
use Rattle.cip_text.proofs.line_cuts.without_blanks.Given as goal

abbrev pub invariant-loop-rest : goal.invariant-loop-rest
invariant-loop-rest l = fields l.rest ≡ fields l.bytes

abbrev pub decreases-loop-rest : goal.decreases-loop-rest
decreases-loop-rest l = length l.rest
