use Rattle.std.proofs.Common.{◌≡◌, ◌+◌, ◌-◌, ◌≤◌, length, take}
use Rattle.std.specs.Prelude.{fold}
use Rattle.cip_problem.specs.Limits.{longest_text}
use Rattle.cip_text_rules.specs.LineEnds.{Stage}
use Rattle.cip_text_rules.specs.LineStream.{Stream, byte_read}
use Rattle.cip_text_rules.specs.MpsState.{State}
use Rattle.cip_text_rules.specs.MpsSteps.{mps_steps}
use Rattle.cip_mps.specs.MpsTexts.{kept_of, StandsFor}
use Rattle.cip_mps.proofs.mps_text.MpsTextPieceText.take.Given as goal

abbrev pub invariant-loop-tail : goal.invariant-loop-tail
invariant-loop-tail l = record {
  reads : (s : Stream (Stage State)) → StandsFor l.fn.self s
      → (t : Stream (Stage State)) × (StandsFor l.self t
      × (fold (byte_read mps_steps) t l.rest ≡ fold (byte_read mps_steps) s (take (longest_text + 1 - (kept_of l.fn.self).size) l.piece)));
  few : (kept_of l.self).size + length l.rest ≤ longest_text + 1;
}

abbrev pub decreases-loop-tail : goal.decreases-loop-tail
decreases-loop-tail l = length l.rest
