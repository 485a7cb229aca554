use Rattle.std.proofs.Common.{◌≡◌, ◌≤◌, ◌-◌, length, take}
use Rattle.cip_io.specs.Sink.{TakesAll}
use Rattle.cip_io.proofs.sink.push_all.Given as goal

-- the front of the piece has been taken, with no fault
abbrev pub invariant-loop-done : goal.invariant-loop-done
invariant-loop-done g l =
    (l.done ≤ length l.piece)
    × TakesAll (g.K.Sink.tells l.initial.out) (g.K.Sink.tells l.out) (take l.done l.piece)
    × ((g.K.Sink.tells l.out).faults ≡ (g.K.Sink.tells l.initial.out).faults)

abbrev pub decreases-loop-done : goal.decreases-loop-done
decreases-loop-done g l = length l.piece - l.done
