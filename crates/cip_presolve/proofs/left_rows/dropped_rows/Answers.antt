use Rattle.std.proofs.lemmas.Grind.{common_steps}
use Rattle.std.proofs.Common.{ap, ◌∙◌, arith}
use Rattle.cip_presolve.specs.LeftProgram.{is_dropped}
use Rattle.cip_presolve.proofs.Leftovers.{map_more, map_end}
use Rattle.cip_presolve.proofs.left_rows.dropped_rows.Goals as goal

pub loop-row-preserved : goal.loop-row-preserved
loop-row-preserved c =
    map_more (is_dropped c.args.gone.now) c.loop-row.row-index c.args.rows.now c.row-item.result c.loop-row.dropped.items c.push.new.self.items _ _
    c.loop-row-test.true (c.is_dropped.ensures ∙ ap (is_dropped c.args.gone.now) c.row-item.is) c.in_ok-push.ensures.items c.loop-row.invariant

pub returns : goal.returns
returns c = map_end (is_dropped c.args.gone.now) c.loop-row.row-index c.args.rows.now c.loop-row.dropped.items _ c.loop-row-test.false c.loop-row.invariant

pub offset_bounds-rows-row-index : goal.offset_bounds-rows-row-index
offset_bounds-rows-row-index c = grind (arith, common_steps)

pub loop-row-init : goal.loop-row-init
loop-row-init c = grind (arith, common_steps)
