use Rattle.std.proofs.Common.{◌≡◌, length, map, take}
use Rattle.cip_events.specs.Names.{shown_byte}
use Rattle.cip_events.proofs.names.Name.of.Given as goal

abbrev pub invariant-loop-i : goal.invariant-loop-i
invariant-loop-i l = (length l.bytes ≡ 64) × (take l.i l.bytes ≡ map shown_byte (take l.i l.source))
