use Rattle.std.proofs.lemmas.Result.{IfOk-from_err}
use Rattle.std.proofs.lemmas.Grind.{common_steps}
use Rattle.std.proofs.Common.{arith}
use Rattle.cip_text_rules.specs.MpsBounds.{Bounded, settled}
use Rattle.cip_mps.proofs.ListLaws.{mapped_more, mapped_all}
use Rattle.cip_mps.proofs.column_program.wholes_of.Goals as goal

pub loop-column-init : goal.loop-column-init
loop-column-init c = c.new-wholes.ensures.items

pub loop-column-preserved : goal.loop-column-preserved
loop-column-preserved c =
    mapped_more (λ (column : Bounded). (settled column).whole) c.args.columns.now c.loop-column.column-index c.column-item.result c.is_whole.result c.loop-column.wholes.items c.push.new.self.items
    c.loop-column-test.true c.column-item.is c.loop-column.invariant c.is_whole.ensures c.in_ok-push.ensures.items

pub returns : goal.returns
returns c = mapped_all (λ (column : Bounded). (settled column).whole) c.args.columns.now c.loop-column.column-index c.loop-column.wholes.items c.loop-column-test.false c.loop-column.invariant

pub offset_bounds-columns-column-index : goal.offset_bounds-columns-column-index
offset_bounds-columns-column-index c = grind (arith, common_steps)

pub returns-in_err-push : goal.returns-in_err-push
returns-in_err-push c = IfOk-from_err c.from_residual.result _ c.from_residual.ensures.0
