use Rattle.std.proofs.Common.{◌≡◌, ◌+◌, ◌≤◌, List, Option, length}
use Rattle.std.specs.Prelude.{fold}
use Rattle.cip_rational.specs.Rational.{ℚ}
use Rattle.cip_problem.specs.Limits.{longest_text}
use Rattle.cip_text_rules.specs.LineStream.{Stream, byte_read}
use Rattle.cip_input.specs.PointTexts.{kept_of, program_of, steps_of, StandsFor}
use Rattle.cip_input.proofs.point_text.PointTextPieceText.take.Given as goal

abbrev pub invariant-loop-tail : goal.invariant-loop-tail
invariant-loop-tail l = record {
  reads : (s : Stream (List (Option ℚ))) → StandsFor l.fn.self s
      → (t : Stream (List (Option ℚ))) × (StandsFor l.self t
      × (fold (byte_read (steps_of l.fn.self)) t l.rest ≡ fold (byte_read (steps_of l.fn.self)) s l.initial.rest));
  few : (kept_of l.self).size + length l.rest ≤ longest_text + 1;
  same : program_of l.self ≡ program_of l.fn.self;
}

abbrev pub decreases-loop-tail : goal.decreases-loop-tail
decreases-loop-tail l = length l.rest
