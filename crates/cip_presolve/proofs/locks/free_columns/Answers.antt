use Rattle.std.proofs.lemmas.Grind.{common_steps}
use Rattle.cip_presolve.proofs.Free.{row_locked, row_spent, row_stands}
use Rattle.std.proofs.Common.{◌≡◌, length, sym, ◌∙◌, arith}
use Rattle.cip_presolve.proofs.RowsSpent.{some_spent}
use Rattle.cip_presolve.proofs.locks.free_columns.Goals as goal

pub loop-row-preserved : goal.loop-row-preserved
loop-row-preserved c =
    row_locked c.args.rising c.in_ok-free.free.items c.loop-row.free.items c.lock_terms.new.free.items c.args.forms.now c.args.rows.now c.loop-row.row-index c.row-item.result
    c.low.result c.high.result c.terms.result.now c.loop-row.invariant c.loop-row-test.true c.row-item.is c.lock_terms.ensures.fewer c.low.ensures c.high.ensures c.terms.ensures.terms c.lock_terms.ensures.terms

pub loop-row-preserved-then-is_some : goal.loop-row-preserved-then-is_some
loop-row-preserved-then-is_some c =
    row_spent c.args.rising c.in_ok-free.free.items c.loop-row.free.items c.args.forms.now c.args.rows.now c.loop-row.row-index c.row-item.result
    c.loop-row.invariant c.loop-row-test.true c.row-item.is (some_spent c.args.forms.now c.row-item.result c.spent_column.result c.spent_column.ensures (sym c.is_some.ensures ∙ c.if-is_some.true))

pub lock_terms-requires : goal.lock_terms-requires
lock_terms-requires c =
    let long : length c.in_ok-free.free.items ≡ c.args.columns = omega
    (arith, c.in_ok-free.ensures.len, c.in_ok-free.free.ok.0) in
    row_stands c.args.rising c.args.columns c.in_ok-free.free.items c.loop-row.free.items c.args.forms.now c.args.rows.now c.loop-row.row-index c.row-item.result c.terms.result.now
    c.loop-row.invariant long c.requires c.loop-row-test.true c.row-item.is c.terms.ensures.terms

pub returns : goal.returns
returns c = grind (arith, common_steps)

pub offset_bounds-rows-row-index : goal.offset_bounds-rows-row-index
offset_bounds-rows-row-index c = grind (arith, common_steps)

pub loop-row-init : goal.loop-row-init
loop-row-init c = grind (arith, common_steps)
