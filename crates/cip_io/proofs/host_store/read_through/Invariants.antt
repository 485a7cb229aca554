use Rattle.std.specs.Io.KnownBytes.{Keeps}
use Rattle.cip_io.proofs.host_store.read_through.Given as goal

-- what was interrupted has read nothing
abbrev pub invariant-loop : goal.invariant-loop
invariant-loop g l = Keeps (g.F.Read.remaining l.initial.file) (g.F.Read.remaining l.file)
