use Rattle.cip_dict.proofs.TakenRows.{AreTaken, taken_more, left_more}
use Rattle.std.proofs.lemmas.Grind.{common_steps}
use Rattle.std.proofs.Common.{arith, length, ◌≡◌, [], ◌+◌}
use Rattle.cip_bland.proofs.Tables.{same_table}
use Rattle.cip_dict.proofs.rows.take_rows.Goals as goal
use Rattle.cip_dict.proofs.rows.take_rows.Goals.{then-changed-v, else-changed-v}

pub returns-clause-taken : goal.returns-clause-taken
returns-clause-taken c =
    let end : c.loop-v.v ≡ length c.args.standing.now = omega arith in
    same_table (length c.args.standing.now) _ c.loop-v.rows [] c.loop-v.invariant.rows_long.each_one (λ m l. c.loop-v.invariant.taken m (omega (arith, l, end)))

pub loop-v-preserved : goal.loop-v-preserved
loop-v-preserved c =
    let h : AreTaken c.args.standing.now c.args.i c.args.j c.args.rows.now c.args.other.now c.loop-v.v c.loop-v.rows c.loop-v.other = record { taken = c.loop-v.invariant.taken; rest = c.loop-v.invariant.rest; other_rest = c.loop-v.invariant.other_rest; rows_long = c.loop-v.invariant.rows_long; other_long = c.loop-v.invariant.other_long } in
    let next : AreTaken c.args.standing.now c.args.i c.args.j c.args.rows.now c.args.other.now (c.loop-v.v + 1) c.if-changed-v.rows c.if-changed-v.other =
    elim c.if-changed-v.branch [
      | then-changed-v w ↦ taken_more c.args.standing.now c.args.i c.args.j c.args.rows.now c.args.other.now c.args.changed.now c.requires.marked c.loop-v.v c.loop-v-test.true c.loop-v.rows c.loop-v.other h w.swap.new.x w.swap.new.y w.index-other-v.result w.index-rows-v.result c.if-changed-v.rows c.if-changed-v.other w.if-changed-v.true w.swap.ensures.x_after w.swap.ensures.y_after w.rows-is w.other-is
      | else-changed-v w ↦ left_more c.args.standing.now c.args.i c.args.j c.args.rows.now c.args.other.now c.args.changed.now c.requires.marked c.loop-v.v c.loop-v-test.true c.loop-v.rows c.loop-v.other h c.if-changed-v.rows c.if-changed-v.other w.if-changed-v.false w.rows-is w.other-is
    ] in
    record { taken = next.taken; rest = next.rest; other_rest = next.other_rest; rows_long = next.rows_long; other_long = next.other_long }

pub loop-v-init : goal.loop-v-init
loop-v-init c = grind (arith, common_steps)

pub bounds-other-v : goal.bounds-other-v
bounds-other-v c = grind (arith, common_steps)

pub bounds-rows-v : goal.bounds-rows-v
bounds-rows-v c = grind (arith, common_steps)

pub offset_bounds-other-v : goal.offset_bounds-other-v
offset_bounds-other-v c = grind (arith, common_steps)

pub offset_bounds-rows-v : goal.offset_bounds-rows-v
offset_bounds-rows-v c = grind (arith, common_steps)

pub returns-clause-rows_long : goal.returns-clause-rows_long
returns-clause-rows_long c = grind (arith, common_steps)

pub returns-clause-other_long : goal.returns-clause-other_long
returns-clause-other_long c = grind (arith, common_steps)

pub bounds-changed-v : goal.bounds-changed-v
bounds-changed-v c = grind (arith, common_steps)
