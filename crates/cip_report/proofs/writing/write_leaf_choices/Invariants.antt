use Rattle.std.proofs.Common.{◌≡◌, ◌++◌, map, take, length}
use Rattle.cip_problem.specs.Choices.{is_open}
use Rattle.cip_search.specs.Leaf.{at_wholes}
use Rattle.cip_report.specs.Writing.{Passes}
use Rattle.cip_report.proofs.LeafLines.{on_lines}
use Rattle.cip_report.proofs.writing.write_leaf_choices.Given as goal

-- the lines of the semi-continuous columns so far have been written, with no fault
abbrev pub invariant-loop-column : goal.invariant-loop-column
invariant-loop-column g l = record {
  passes : Passes (g.K.Sink.tells l.initial.out) (g.K.Sink.tells l.out) (l.initial.buffer ++ on_lines (at_wholes (take l.column (map is_open l.choices)) (take l.column l.names)) (take l.place l.on)) l.buffer;
  same : (g.K.Sink.tells l.out).faults ≡ (g.K.Sink.tells l.initial.out).faults;
  placed : l.place ≡ length (at_wholes (take l.column (map is_open l.choices)) (take l.column l.names));
}
