use Rattle.std.proofs.Common.{◌≡◌, ◌++◌, take, map}
use Rattle.cip_search.specs.TraceTexts.{trace_lines}
use Rattle.cip_report.specs.Traces.{traced_line}
use Rattle.cip_report.specs.Writing.{Passes}
use Rattle.cip_report.proofs.traces.write_kept.Given as goal

-- the lines so far have been written, with no fault
abbrev pub invariant-loop-place : goal.invariant-loop-place
invariant-loop-place g l =
    Passes (g.K.Sink.tells l.initial.out) (g.K.Sink.tells l.out) (l.initial.buffer ++ trace_lines 1 (map (traced_line l.names) (take l.place l.lines))) l.buffer
    × ((g.K.Sink.tells l.out).faults ≡ (g.K.Sink.tells l.initial.out).faults)
