use Rattle.std.proofs.lemmas.Grind.{common_steps}
use Rattle.std.proofs.Common.{ap, length, arith}
use Rattle.cip_relax.specs.NodeRows.{named_multiple}
use Rattle.cip_relax.proofs.Lists.{one_more, all_mapped, mapped_long}
use Rattle.cip_relax.proofs.names.name_combo.Goals as goal

pub loop-at-preserved : goal.loop-at-preserved
loop-at-preserved c = record {
  rows = one_more (named_multiple c.args.own c.args.ids.now) c.loop-at.at c.args.combo.now.rows.items c.loop-at.combo.rows.items c.named_multiple.result c.index-multiple.result.now c.loop-at.invariant.rows c.named_multiple.ensures c.index-multiple.ensures (omega (arith, ap length c.loop-at.invariant.rows, mapped_long (named_multiple c.args.own c.args.ids.now) c.loop-at.at c.args.combo.now.rows.items));
  lows = c.loop-at.invariant.lows;
  highs = c.loop-at.invariant.highs;
}

pub returns-clause-rows : goal.returns-clause-rows
returns-clause-rows c = all_mapped (named_multiple c.args.own c.args.ids.now) c.loop-at.at c.args.combo.now.rows.items c.loop-at.combo.rows.items c.loop-at.invariant.rows (omega (arith, ap length c.loop-at.invariant.rows, mapped_long (named_multiple c.args.own c.args.ids.now) c.loop-at.at c.args.combo.now.rows.items))

pub index-multiple-requires : goal.index-multiple-requires
index-multiple-requires c = omega (arith, ap length c.loop-at.invariant.rows, mapped_long (named_multiple c.args.own c.args.ids.now) c.loop-at.at c.args.combo.now.rows.items)

pub index_mut-requires : goal.index_mut-requires
index_mut-requires c = omega (arith, ap length c.loop-at.invariant.rows, mapped_long (named_multiple c.args.own c.args.ids.now) c.loop-at.at c.args.combo.now.rows.items)

pub returns-clause-highs : goal.returns-clause-highs
returns-clause-highs c = grind (arith, common_steps)

pub returns-clause-lows : goal.returns-clause-lows
returns-clause-lows c = grind (arith, common_steps)

pub loop-at-init : goal.loop-at-init
loop-at-init c = grind (arith, common_steps)
