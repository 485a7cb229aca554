use Rattle.std.proofs.Common.{◌≡◌, drop}
use Rattle.std.specs.List.{find}
use Rattle.cip_roster.specs.Nexts.{is_behind}
use Rattle.cip_roster.proofs.nexts.first_behind.Given as goal

abbrev pub invariant-loop-key : goal.invariant-loop-key
invariant-loop-key l = find (is_behind l.after) (drop l.key-index l.keys) ≡ find (is_behind l.after) l.keys
