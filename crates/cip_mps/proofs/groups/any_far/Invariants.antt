use Rattle.std.proofs.Common.{◌≡◌, ◌==◌, ◌&&◌, take, false}
use Rattle.std.specs.List.{list_any}
use Rattle.cip_mps.proofs.groups.any_far.Given as goal

abbrev pub invariant-loop-other : goal.invariant-loop-other
invariant-loop-other l = list_any (λ n. n.column == l.column && n.row == l.row) (take l.other-index l.far) ≡ false
