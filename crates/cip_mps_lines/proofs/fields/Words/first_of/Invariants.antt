use Rattle.std.proofs.Common.{◌≡◌, ◌++◌, ◌-◌, length}
use Rattle.cip_text.specs.TextLines.{fields_left}
use Rattle.cip_mps_lines.specs.FirstWords.{words_of}
use Rattle.cip_mps_lines.proofs.fields.Words.first_of.Given as goal

abbrev pub invariant-loop-kept : goal.invariant-loop-kept
invariant-loop-kept l = record {
  joined : words_of l.kept ++ fields_left l.left ≡ fields_left l.fields;
  as_many : length (words_of l.kept) ≡ l.kept.count;
}

abbrev pub decreases-loop-kept : goal.decreases-loop-kept
decreases-loop-kept l = 6 - l.kept.count
