use Rattle.cip_dict.specs.Pivots.{absent_by}
use Rattle.cip_dict.proofs.WideProducts.{number_as}
use Rattle.std.proofs.lemmas.Result.{IfOk-from_err}
use Rattle.std.proofs.lemmas.Grind.{common_steps}
use Rattle.std.proofs.Common.{◌≡◌, ◌<◌, ◌∙◌, to_z, of_z, length, arith, suc, sym, subst, lit<, ◌^◌, ap, ◌≤◌, ◌==◌}
use Rattle.std.specs.Int.{w128}
use Rattle.cip_dict.specs.Lists.{basic_in}
use Rattle.cip_dict.specs.SparseLines.{IsNext}
use Rattle.cip_dict.specs.WholeLines.{over, put_number, AreBelow, wholes_of, number_on}
use Rattle.cip_dict.proofs.Places.{place_zero}
use Rattle.cip_dict.proofs.WholeParts.{none_over, read_small}
use Rattle.cip_dict.proofs.WholeLoops.{whole_gap, whole_more, put_none}
use Rattle.cip_dict.proofs.ReadNumbers.{wide_kept}
use Rattle.cip_dict.proofs.whole_sums.sum_entries.Goals as goal

pub loop-step-init : goal.loop-step-init
loop-step-init c =
    let next : IsNext (over 1 c.args.row.now) (over 1 c.args.new.now) 0 0 0 c.next_step-step.result.k = c.next_step-step.ensures.next 0 (omega arith) (place_zero (over 1 c.args.row.now)) (place_zero (over 1 c.args.new.now)) in
    record {
      within = c.next_step-step.ensures.within;
      row_value = λ l. c.next_step-step.ensures.row_value l next.row_place;
      new_value = λ l. c.next_step-step.ensures.new_value l next.new_place;
      row_small = c.next_step-step.ensures.row_small;
      new_small = c.next_step-step.ensures.new_small;
      row_past = λ l. c.next_step-step.ensures.row_past l next.row_place;
      new_past = λ l. c.next_step-step.ensures.new_past l next.new_place;
      written = whole_gap 0 c.next_step-step.result.k (put_number (basic_in c.args.pivot.now.standing.now) c.args.pivot.now.leaving c.args.pivot.now.entering c.args.factors.own c.args.factors.new c.args.row.now c.args.new.now) c.clear.new.self.items next.order c.clear.ensures.items
          (λ m a b. put_none (basic_in c.args.pivot.now.standing.now) c.args.pivot.now.leaving c.args.pivot.now.entering c.args.factors.own c.args.factors.new c.args.row.now c.args.new.now m (none_over 1 c.args.row.now m (lit< tt) (next.row_none m a b)) (none_over 1 c.args.new.now m (lit< tt) (next.new_none m a b)));
      wide = subst (AreBelow (2 ^ 86)) (sym c.clear.ensures.items) tt;
    }

pub substituted_number-z-requires-clause-row_small : goal.substituted_number-z-requires-clause-row_small
substituted_number-z-requires-clause-row_small c = rw (read_small c.loop-step.step.n c.loop-step.invariant.row_small) c.loop-step.invariant.row_small

pub substituted_number-z-requires-clause-new_small : goal.substituted_number-z-requires-clause-new_small
substituted_number-z-requires-clause-new_small c = rw (read_small c.loop-step.step.y c.loop-step.invariant.new_small) c.loop-step.invariant.new_small

pub loop-step-preserved : goal.loop-step-preserved
loop-step-preserved c =
    let l : c.loop-step.step.k < length c.args.pivot.now.standing.now = omega arith in
    let next : IsNext (over 1 c.args.row.now) (over 1 c.args.new.now) c.loop-step.step.here c.loop-step.step.there (suc c.loop-step.step.k) c.next_step-step-in-loop-step.result.k =
    c.next_step-step-in-loop-step.ensures.next (suc c.loop-step.step.k) (omega arith) (c.loop-step.invariant.row_past l) (c.loop-step.invariant.new_past l) in
    let z : c.substituted_number-z.result ≡ put_number (basic_in c.args.pivot.now.standing.now) c.args.pivot.now.leaving c.args.pivot.now.entering c.args.factors.own c.args.factors.new c.args.row.now c.args.new.now c.loop-step.step.k =
    number_as (c.loop-step.step.k == c.args.pivot.now.leaving) (absent_by c.args.pivot.now c.loop-step.step.k) c.args.factors.own c.args.factors.new (number_on c.args.row.now c.loop-step.step.k) _ (number_on c.args.new.now c.loop-step.step.k) _ c.substituted_number-z.result (read_small c.loop-step.step.n c.loop-step.invariant.row_small ∙ c.loop-step.invariant.row_value l) (read_small c.loop-step.step.y c.loop-step.invariant.new_small ∙ c.loop-step.invariant.new_value l) c.substituted_number-z.ensures.value in
    let kept : to_z w128 (of_z w128 c.substituted_number-z.result) ≡ c.substituted_number-z.result = wide_kept c.substituted_number-z.result c.substituted_number-z.ensures.small in
    record {
      within = c.next_step-step-in-loop-step.ensures.within;
      row_value = λ l. c.next_step-step-in-loop-step.ensures.row_value l next.row_place;
      new_value = λ l. c.next_step-step-in-loop-step.ensures.new_value l next.new_place;
      row_small = c.next_step-step-in-loop-step.ensures.row_small;
      new_small = c.next_step-step-in-loop-step.ensures.new_small;
      row_past = λ l. c.next_step-step-in-loop-step.ensures.row_past l next.row_place;
      new_past = λ l. c.next_step-step-in-loop-step.ensures.new_past l next.new_place;
      written = whole_more c.loop-step.step.k c.next_step-step-in-loop-step.result.k (put_number (basic_in c.args.pivot.now.standing.now) c.args.pivot.now.leaving c.args.pivot.now.entering c.args.factors.own c.args.factors.new c.args.row.now c.args.new.now) (to_z w128 (of_z w128 c.substituted_number-z.result)) c.loop-step.sums.items c.keep_sum.new.sums.items next.order c.loop-step.invariant.written c.in_ok-keep_sum.ensures.kept (kept ∙ z)
          (λ m a b. put_none (basic_in c.args.pivot.now.standing.now) c.args.pivot.now.leaving c.args.pivot.now.entering c.args.factors.own c.args.factors.new c.args.row.now c.args.new.now m (none_over 1 c.args.row.now m (lit< tt) (next.row_none m a b)) (none_over 1 c.args.new.now m (lit< tt) (next.new_none m a b)));
      wide = c.in_ok-keep_sum.ensures.below (2 ^ 86) (rw kept c.substituted_number-z.ensures.small) c.loop-step.invariant.wide;
    }

pub returns-in_err-keep_sum-clause-wide : goal.returns-in_err-keep_sum-clause-wide
returns-in_err-keep_sum-clause-wide c =
    let kept : to_z w128 (of_z w128 c.substituted_number-z.result) ≡ c.substituted_number-z.result = wide_kept c.substituted_number-z.result c.substituted_number-z.ensures.small in
    c.in_err-keep_sum.ensures.below (2 ^ 86) (rw kept c.substituted_number-z.ensures.small) c.loop-step.invariant.wide

pub returns-clause-kept : goal.returns-clause-kept
returns-clause-kept c =
    let end : c.loop-step.step.k ≡ length c.args.pivot.now.standing.now = omega arith in
    c.loop-step.invariant.written ∙ ap (λ k. wholes_of k (put_number (basic_in c.args.pivot.now.standing.now) c.args.pivot.now.leaving c.args.pivot.now.entering c.args.factors.own c.args.factors.new c.args.row.now c.args.new.now)) end

pub loop-step-smaller : goal.loop-step-smaller
loop-step-smaller c =
    let l : c.loop-step.step.k < length c.args.pivot.now.standing.now = omega arith in
    let next : IsNext (over 1 c.args.row.now) (over 1 c.args.new.now) c.loop-step.step.here c.loop-step.step.there (suc c.loop-step.step.k) c.next_step-step-in-loop-step.result.k =
    c.next_step-step-in-loop-step.ensures.next (suc c.loop-step.step.k) (omega arith) (c.loop-step.invariant.row_past l) (c.loop-step.invariant.new_past l) in
    let o : suc c.loop-step.step.k ≤ c.next_step-step-in-loop-step.result.k = next.order in
    omega (arith, o, l)

pub next_step-step-requires-in-loop-step-clause-row_kept : goal.next_step-step-requires-in-loop-step-clause-row_kept
next_step-step-requires-in-loop-step-clause-row_kept c = grind (arith, common_steps)

pub next_step-step-requires-in-loop-step-clause-row_small : goal.next_step-step-requires-in-loop-step-clause-row_small
next_step-step-requires-in-loop-step-clause-row_small c = grind (arith, common_steps)

pub next_step-step-requires-in-loop-step-clause-new_kept : goal.next_step-step-requires-in-loop-step-clause-new_kept
next_step-step-requires-in-loop-step-clause-new_kept c = grind (arith, common_steps)

pub next_step-step-requires-in-loop-step-clause-new_small : goal.next_step-step-requires-in-loop-step-clause-new_small
next_step-step-requires-in-loop-step-clause-new_small c = grind (arith, common_steps)

pub substituted_number-z-requires-clause-within : goal.substituted_number-z-requires-clause-within
substituted_number-z-requires-clause-within c = grind (arith, common_steps)

pub returns-clause-wide : goal.returns-clause-wide
returns-clause-wide c = grind (arith, common_steps)

pub substituted_number-z-requires-clause-own_small : goal.substituted_number-z-requires-clause-own_small
substituted_number-z-requires-clause-own_small c = grind (arith, common_steps)

pub substituted_number-z-requires-clause-factor_small : goal.substituted_number-z-requires-clause-factor_small
substituted_number-z-requires-clause-factor_small c = grind (arith, common_steps)

pub next_step-step-requires-clause-new_kept : goal.next_step-step-requires-clause-new_kept
next_step-step-requires-clause-new_kept c = grind (arith, common_steps)

pub next_step-step-requires-clause-row_kept : goal.next_step-step-requires-clause-row_kept
next_step-step-requires-clause-row_kept c = grind (arith, common_steps)

pub next_step-step-requires-clause-new_small : goal.next_step-step-requires-clause-new_small
next_step-step-requires-clause-new_small c = grind (arith, common_steps)

pub next_step-step-requires-clause-row_small : goal.next_step-step-requires-clause-row_small
next_step-step-requires-clause-row_small c = grind (arith, common_steps)

pub overflow_cast-len : goal.overflow_cast-len
overflow_cast-len c = grind (arith, common_steps)

pub returns-in_err-keep_sum-clause-kept : goal.returns-in_err-keep_sum-clause-kept
returns-in_err-keep_sum-clause-kept c = IfOk-from_err c.from_residual.result _ c.from_residual.ensures.0
