use Rattle.std.specs.Io.KnownBytes.{Keeps}
use Rattle.cip_io.proofs.host_sink.write_through.Given as goal

-- what was interrupted has written nothing
abbrev pub invariant-loop : goal.invariant-loop
invariant-loop g l = Keeps (g.W.Write.contents l.initial.writer) (g.W.Write.contents l.writer)
