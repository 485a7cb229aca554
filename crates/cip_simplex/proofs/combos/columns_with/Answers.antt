use Rattle.cip_bland.specs.Tables.{each}
use Rattle.cip_simplex.specs.LpAnswers.{column_multiple}
use Rattle.cip_bland.specs.EndAnswers.{low_multiple, high_multiple}
use Rattle.cip_problem.specs.Activity.{value_at}
use Rattle.cip_rational.specs.Rational.{zeroℚ, lt_test}
use Rattle.std.proofs.lemmas.List.{get_or_read}
use Rattle.cip_simplex.proofs.Signs.{positive_test, negative_test}
use Rattle.cip_simplex.proofs.Listed.{listed_none, listed_more, sided_none, sided_some}
use Rattle.std.proofs.lemmas.Result.{IfOk-from_err}
use Rattle.std.proofs.lemmas.Grind.{common_steps}
use Rattle.std.proofs.Common.{arith, ◌≡◌, ◌∙◌, Bool, cond, map, ap, sym}
use Rattle.cip_simplex.proofs.combos.columns_with.Goals as goal
use Rattle.cip_simplex.proofs.combos.columns_with.Goals.{then-above, else-above}

pub loop-k-preserved : goal.loop-k-preserved
loop-k-preserved c =
    let read : c.index-multipliers-k.result ≡ value_at c.args.multipliers.now c.loop-k.k = get_or_read c.args.multipliers.now c.loop-k.k c.index-multipliers-k.result (omega (arith, c.loop-k-test.true, c.requires.within)) c.index-multipliers-k.is zeroℚ in
    let counts : c.if-above.counts ≡ cond c.args.above (lt_test zeroℚ c.index-multipliers-k.result) (lt_test c.index-multipliers-k.result zeroℚ) =
    elim c.if-above.branch [
      | then-above w ↦ w.counts-is ∙ positive_test c.index-multipliers-k.result w.is_positive-counts.result w.is_positive-counts.ensures ∙ sym (ap (λ (t : Bool). cond t (lt_test zeroℚ c.index-multipliers-k.result) (lt_test c.index-multipliers-k.result zeroℚ)) w.if-above.true)
      | else-above w ↦ w.counts-is ∙ negative_test c.index-multipliers-k.result w.is_negative-counts.result w.is_negative-counts.ensures ∙ sym (ap (λ (t : Bool). cond t (lt_test zeroℚ c.index-multipliers-k.result) (lt_test c.index-multipliers-k.result zeroℚ)) w.if-above.false)
    ] in
    listed_more column_multiple (λ k. cond c.args.above (low_multiple k (value_at c.args.multipliers.now k)) (high_multiple k (value_at c.args.multipliers.now k))) c.loop-k.k c.loop-k.listed.items c.loop-k.invariant c.push.new.self.items _ c.in_ok-push.ensures.items (sym (ap (map column_multiple) (sided_some c.args.above c.loop-k.k c.index-multipliers-k.result (value_at c.args.multipliers.now c.loop-k.k) c.if-above.counts read counts c.if-not-counts.false)))

pub loop-k-preserved-then-not-counts : goal.loop-k-preserved-then-not-counts
loop-k-preserved-then-not-counts c =
    let read : c.index-multipliers-k.result ≡ value_at c.args.multipliers.now c.loop-k.k = get_or_read c.args.multipliers.now c.loop-k.k c.index-multipliers-k.result (omega (arith, c.loop-k-test.true, c.requires.within)) c.index-multipliers-k.is zeroℚ in
    let counts : c.if-above.counts ≡ cond c.args.above (lt_test zeroℚ c.index-multipliers-k.result) (lt_test c.index-multipliers-k.result zeroℚ) =
    elim c.if-above.branch [
      | then-above w ↦ w.counts-is ∙ positive_test c.index-multipliers-k.result w.is_positive-counts.result w.is_positive-counts.ensures ∙ sym (ap (λ (t : Bool). cond t (lt_test zeroℚ c.index-multipliers-k.result) (lt_test c.index-multipliers-k.result zeroℚ)) w.if-above.true)
      | else-above w ↦ w.counts-is ∙ negative_test c.index-multipliers-k.result w.is_negative-counts.result w.is_negative-counts.ensures ∙ sym (ap (λ (t : Bool). cond t (lt_test zeroℚ c.index-multipliers-k.result) (lt_test c.index-multipliers-k.result zeroℚ)) w.if-above.false)
    ] in
    listed_none column_multiple (λ k. cond c.args.above (low_multiple k (value_at c.args.multipliers.now k)) (high_multiple k (value_at c.args.multipliers.now k))) c.loop-k.k c.loop-k.listed.items c.loop-k.invariant (sided_none c.args.above c.loop-k.k c.index-multipliers-k.result (value_at c.args.multipliers.now c.loop-k.k) c.if-above.counts read counts c.if-not-counts.true)

pub returns : goal.returns
returns c =
    let end : c.loop-k.k ≡ c.args.columns = omega (arith, c.loop-k-test.false, c.loop-k.auto.k-end) in
    c.loop-k.invariant ∙ ap (λ n. map column_multiple (each n (λ k. cond c.args.above (low_multiple k (value_at c.args.multipliers.now k)) (high_multiple k (value_at c.args.multipliers.now k))))) end

pub overflow_cast-col : goal.overflow_cast-col
overflow_cast-col c = grind (arith, common_steps)

pub bounds-multipliers-k : goal.bounds-multipliers-k
bounds-multipliers-k c = grind (arith, common_steps)

pub offset_bounds-multipliers-k : goal.offset_bounds-multipliers-k
offset_bounds-multipliers-k c = grind (arith, common_steps)

pub loop-k-init : goal.loop-k-init
loop-k-init c = grind (arith, common_steps)

pub returns-in_err-push : goal.returns-in_err-push
returns-in_err-push c = IfOk-from_err c.from_residual.result _ c.from_residual.ensures.0
