use Rattle.std.proofs.lemmas.Grind.{common_steps}
use Rattle.std.proofs.Common.{arith}
use Rattle.cip_text_rules.specs.MpsBounds.{Bounded, settled, column_sides}
use Rattle.cip_mps.proofs.ListLaws.{mapped_more, mapped_all}
use Rattle.cip_mps.proofs.column_program.bounds_of.Goals as goal

pub loop-column-init : goal.loop-column-init
loop-column-init c = c.in_ok-bounds.ensures

pub loop-column-preserved : goal.loop-column-preserved
loop-column-preserved c =
    mapped_more (λ (column : Bounded). column_sides (settled column)) c.args.columns.now c.loop-column.column-index c.column-item.result c.sides.result c.loop-column.bounds c.push.new.self
    c.loop-column-test.true c.column-item.is c.loop-column.invariant c.sides.ensures c.in-Ok.ensures.ok

pub returns : goal.returns
returns c = mapped_all (λ (column : Bounded). column_sides (settled column)) c.args.columns.now c.loop-column.column-index c.loop-column.bounds c.loop-column-test.false c.loop-column.invariant

pub offset_bounds-columns-column-index : goal.offset_bounds-columns-column-index
offset_bounds-columns-column-index c = grind (arith, common_steps)

pub returns-in_default : goal.returns-in_default
returns-in_default c = grind (arith, common_steps)
