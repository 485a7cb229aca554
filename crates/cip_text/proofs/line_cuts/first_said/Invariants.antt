use Rattle.std.proofs.Common.{◌≡◌, ◌+◌, ◌<◌, ◌^◌, length}
use Rattle.cip_text_rules.specs.Lines.{lines}
use Rattle.cip_text.specs.TextLines.{records_with}
use Rattle.cip_text.proofs.line_cuts.first_said.Given as goal

abbrev pub invariant-loop-rest : goal.invariant-loop-rest
invariant-loop-rest l = record {
  counted : l.number + length l.rest < 2 ^ 64;
  same : records_with l.comment l.number (lines l.rest) ≡ records_with l.comment l.first_number (lines l.bytes);
}

abbrev pub decreases-loop-rest : goal.decreases-loop-rest
decreases-loop-rest l = length l.rest
