use Rattle.std.proofs.Common.{◌≡◌, ◌≤◌, ◌-◌, [], length}
use Rattle.cip_blocks.specs.PieceReaders.{HasTaken}
use Rattle.cip_input.specs.TextPulls.{most_pulled, IsReading}
use Rattle.cip_input.specs.declared.pulling.TheConstants.{PIECE}
use Rattle.cip_input.proofs.pulling.read_pieces.Given as goal

abbrev pub invariant-loop-pulled : goal.invariant-loop-pulled
invariant-loop-pulled g l = record {
  in_range : l.pulled ≤ most_pulled;
  size : length l.buffer ≡ PIECE;
  reading : (subject : _) → HasTaken g.T.PieceText.has_come g.T.PieceText.subject l.fn.reader subject []
      → IsReading (HasTaken g.T.PieceText.has_come g.T.PieceText.subject l.reader subject) (g.S.Store.tells l.fn.store) (g.S.Store.tells l.store) l.pulled;
  sound : (g.S.Store.tells l.store).faults ≡ (g.S.Store.tells l.fn.store).faults;
  holds : (g.S.Store.tells l.store).holds ≡ (g.S.Store.tells l.fn.store).holds;
}

abbrev pub decreases-loop-pulled : goal.decreases-loop-pulled
decreases-loop-pulled g l = most_pulled - l.pulled
