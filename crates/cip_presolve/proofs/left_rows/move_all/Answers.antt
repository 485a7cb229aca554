use Rattle.std.proofs.lemmas.Grind.{common_steps}
use Rattle.std.proofs.Common.{◌<◌, length, refl, rules, arith}
use Rattle.cip_presolve.proofs.MovedRows.{next_moved, can_move}
use Rattle.cip_presolve.proofs.left_rows.move_all.Goals as goal

pub loop-at-preserved : goal.loop-at-preserved
loop-at-preserved c =
    let below : c.loop-at.at < length c.loop-at.rows.items = search rules in
    next_moved c.args.numbers.now c.args.rows.now.items c.loop-at.rows.items _ c.loop-at.at c.index.result.now c.in_ok-row.row c.loop-at.invariant below c.index.ensures c.in_ok-row.ensures refl

pub moved-requires : goal.moved-requires
moved-requires c =
    let below : c.loop-at.at < length c.loop-at.rows.items = search rules in
    can_move c.args.numbers.now c.args.rows.now.items c.loop-at.rows.items c.loop-at.at c.index.result.now c.loop-at.invariant c.requires below c.index.ensures

pub returns : goal.returns
returns c = grind (arith, common_steps)

pub index_mut-requires : goal.index_mut-requires
index_mut-requires c = grind (arith, common_steps)

pub index-requires : goal.index-requires
index-requires c = grind (arith, common_steps)

pub loop-at-init : goal.loop-at-init
loop-at-init c = grind (arith, common_steps)
