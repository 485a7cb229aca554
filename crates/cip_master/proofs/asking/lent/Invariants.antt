use Rattle.std.proofs.Common.{◌≡◌, map, take}
use Rattle.cip_master.proofs.asking.lent.Given as goal

abbrev pub invariant-loop-row : goal.invariant-loop-row
invariant-loop-row l = map (λ row. row.now) l.lent.items ≡ take l.row-index l.rows
