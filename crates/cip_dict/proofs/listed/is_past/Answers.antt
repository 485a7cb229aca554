use Rattle.std.proofs.lemmas.Grind.{common_steps}
use Rattle.std.proofs.Common.{◌≡◌, ◌+◌, ◌-◌, get_or, length, arith}
use Rattle.std.proofs.lemmas.Bool.{ltb-true}
use Rattle.cip_dict.proofs.PutBehind.{last_below}
use Rattle.cip_dict.proofs.listed.is_past.Goals as goal

pub returns-else-len-eq0 : goal.returns-else-len-eq0
returns-else-len-eq0 g c = λ t.
    let l : length c.args.entries.now - 1 + 1 ≡ length c.args.entries.now = omega (arith, c.if-len-eq0.false) in
    last_below c.args.entries.now (length c.args.entries.now - 1) c.args.k c.index-entries-len.result c.requires l (ltb-true (get_or c.args.entries.now (length c.args.entries.now - 1) c.index-entries-len.result).0 c.args.k t)

pub returns-then-len-eq0 : goal.returns-then-len-eq0
returns-then-len-eq0 g c = grind (arith, common_steps)

pub bounds-entries-len-else-len-eq0 : goal.bounds-entries-len-else-len-eq0
bounds-entries-len-else-len-eq0 g c = grind (arith, common_steps)

pub bounds-entries-len : goal.bounds-entries-len
bounds-entries-len g c = grind (arith, common_steps)

pub overflow_sub-result : goal.overflow_sub-result
overflow_sub-result g c = grind (arith, common_steps)

pub offset_bounds-entries-len : goal.offset_bounds-entries-len
offset_bounds-entries-len g c = grind (arith, common_steps)
