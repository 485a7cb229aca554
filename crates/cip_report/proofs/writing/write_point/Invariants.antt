use Rattle.std.proofs.Common.{◌≡◌, ◌++◌, take, map}
use Rattle.cip_search.specs.Figures.{point_lines}
use Rattle.cip_report.specs.Writing.{Passes}
use Rattle.cip_report.proofs.writing.write_point.Given as goal

-- the lines of the columns so far have been written, with no fault
abbrev pub invariant-loop-number : goal.invariant-loop-number
invariant-loop-number g l =
    Passes (g.K.Sink.tells l.initial.out) (g.K.Sink.tells l.out) (l.initial.buffer ++ point_lines (take l.number (map (λ name. l.front ++ name) l.names)) (take l.number l.point)) l.buffer
    × ((g.K.Sink.tells l.out).faults ≡ (g.K.Sink.tells l.initial.out).faults)
