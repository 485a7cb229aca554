use Rattle.std.proofs.lemmas.Grind.{common_steps}
use Rattle.std.proofs.Common.{◌∙◌, sym, true≢false, arith}
use Rattle.cip_rows.proofs.BuiltTerms.{row_same, row_zero, row_other}
use Rattle.cip_rows.proofs.built.row_from.Goals as goal
use Rattle.cip_rows.proofs.built.row_from.Goals.{then-not-is_zero+in_ok-append, else-not-is_zero}

pub loop-at-preserved : goal.loop-at-preserved
loop-at-preserved c = elim c.if-not-is_zero.branch [
  | then-not-is_zero+in_ok-append w ↦
      row_same _ _ _ _ _ (w.row-is ∙ w.in_ok-append.ensures.0) (row_other _ _ _ _ c.index-coefficients-at.result c.loop-at-test.true c.index-coefficients-at.is (λ z. true≢false (sym (c.is_zero.ensures.1 z) ∙ w.if-not-is_zero.true)) c.loop-at.invariant)
  | else-not-is_zero w ↦ row_same _ _ _ _ _ w.row-is (row_zero _ _ _ _ c.index-coefficients-at.result c.loop-at-test.true c.index-coefficients-at.is (c.is_zero.ensures.0 w.if-not-is_zero.false) c.loop-at.invariant)
]

pub returns : goal.returns
returns c = grind (arith, common_steps)

pub loop-at-init : goal.loop-at-init
loop-at-init c = grind (arith, common_steps)

pub overflow_cast-at : goal.overflow_cast-at
overflow_cast-at c = grind (arith, common_steps)

pub bounds-coefficients-at : goal.bounds-coefficients-at
bounds-coefficients-at c = grind (arith, common_steps)

pub offset_bounds-coefficients-at : goal.offset_bounds-coefficients-at
offset_bounds-coefficients-at c = grind (arith, common_steps)

pub same-row : goal.same-row
same-row c = grind (arith, common_steps)
