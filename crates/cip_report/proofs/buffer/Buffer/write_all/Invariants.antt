use Rattle.std.proofs.Common.{◌≡◌, ◌++◌, take}
use Rattle.cip_report.specs.Writing.{Passes}
use Rattle.cip_report.proofs.WritingLemmas.{joined}
use Rattle.cip_report.proofs.buffer.Buffer.write_all.Given as goal

-- the texts so far have been written, with no fault
abbrev pub invariant-loop-text : goal.invariant-loop-text
invariant-loop-text g l =
    Passes (g.K.Sink.tells l.initial.out) (g.K.Sink.tells l.out) (l.initial.self ++ joined (take l.text-index l.texts)) l.self
    × ((g.K.Sink.tells l.out).faults ≡ (g.K.Sink.tells l.initial.out).faults)
