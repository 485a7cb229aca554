use Rattle.std.proofs.Common.{◌≡◌, ◌==◌, ◌&&◌, take, false}
use Rattle.std.specs.List.{list_any}
use Rattle.cip_mps.proofs.groups.any_near.Given as goal

abbrev pub invariant-loop-number : goal.invariant-loop-number
invariant-loop-number l = list_any (λ n. n.column == l.column && n.row == l.row) (take l.number-index l.near) ≡ false
