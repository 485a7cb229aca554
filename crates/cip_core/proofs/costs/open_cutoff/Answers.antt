use Rattle.std.proofs.lemmas.Grind.{common_steps}
use Rattle.std.proofs.Common.{◌∙◌, sym, true≢false, arith}
use Rattle.cip_core.proofs.CutoffTerms.{cutoff_same, cutoff_zero, cutoff_other}
use Rattle.cip_core.proofs.costs.open_cutoff.Goals as goal
use Rattle.cip_core.proofs.costs.open_cutoff.Goals.{then-not-is_zero+in_ok-append, else-not-is_zero}

pub loop-at-preserved : goal.loop-at-preserved
loop-at-preserved c = elim c.if-not-is_zero.branch [
  | then-not-is_zero+in_ok-append w ↦
      cutoff_same _ _ _ _ (w.row-is ∙ w.in_ok-append.ensures.0) (cutoff_other _ _ _ c.index-costs-at.result c.loop-at-test.true c.index-costs-at.is (λ z. true≢false (sym (c.is_zero.ensures.1 z) ∙ w.if-not-is_zero.true)) c.loop-at.invariant)
  | else-not-is_zero w ↦ cutoff_same _ _ _ _ w.row-is (cutoff_zero _ _ _ c.index-costs-at.result c.loop-at-test.true c.index-costs-at.is (c.is_zero.ensures.0 w.if-not-is_zero.false) c.loop-at.invariant)
]

pub loop-at-init : goal.loop-at-init
loop-at-init c = grind (arith, common_steps)

pub returns : goal.returns
returns c = grind (arith, common_steps)

pub overflow_cast-at : goal.overflow_cast-at
overflow_cast-at c = grind (arith, common_steps)

pub bounds-costs-at : goal.bounds-costs-at
bounds-costs-at c = grind (arith, common_steps)

pub offset_bounds-costs-at : goal.offset_bounds-costs-at
offset_bounds-costs-at c = grind (arith, common_steps)

pub same-row : goal.same-row
same-row c = grind (arith, common_steps)
