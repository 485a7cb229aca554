use Rattle.std.proofs.Common.{◌≡◌, ◌++◌, take, length}
use Rattle.cip_search.specs.Leaf.{at_wholes}
use Rattle.cip_report.specs.Writing.{Passes}
use Rattle.cip_report.proofs.LeafLines.{value_lines}
use Rattle.cip_report.proofs.writing.write_leaf_values.Given as goal

-- the lines of the whole columns so far have been written, with no fault
abbrev pub invariant-loop-column : goal.invariant-loop-column
invariant-loop-column g l = record {
  passes : Passes (g.K.Sink.tells l.initial.out) (g.K.Sink.tells l.out) (l.initial.buffer ++ value_lines (at_wholes (take l.column l.whole) (take l.column l.names)) (take l.place l.leaf)) l.buffer;
  same : (g.K.Sink.tells l.out).faults ≡ (g.K.Sink.tells l.initial.out).faults;
  placed : l.place ≡ length (at_wholes (take l.column l.whole) (take l.column l.names));
}
