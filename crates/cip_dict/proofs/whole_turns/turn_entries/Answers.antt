use Rattle.std.proofs.lemmas.Result.{IfOk-from_err}
use Rattle.std.proofs.lemmas.Grind.{common_steps}
use Rattle.std.proofs.Common.{◌≡◌, ◌<◌, ◌≤◌, ◌^◌, List, [], ◌∷◌, ℕ, ℤ, ◌∙◌, to_z, of_z, length, arith, suc, sym, subst, lit<, ap}
use Rattle.std.specs.Int.{w64}
use Rattle.cip_rational.specs.Range.{magnitude}
use Rattle.cip_dict.specs.Lists.{basic_in}
use Rattle.cip_dict.specs.SparseLines.{IsNext}
use Rattle.cip_dict.specs.WholeLines.{Whole, over, turned_number, AreBelow, wholes_of}
use Rattle.cip_dict.proofs.Places.{place_zero}
use Rattle.cip_dict.proofs.WholeParts.{none_over, read_small}
use Rattle.cip_dict.proofs.WholeLoops.{whole_gap, whole_more, turned_none, turned_leaving}
use Rattle.cip_dict.proofs.whole_turns.turn_entries.Goals as goal

leaving_small : (ws : List Whole) (i : ℕ) (d : ℤ) → ws ≡ (i, d) ∷ [] → magnitude d < 2 ^ 42 → AreBelow (2 ^ 42) ws
leaving_small ws i d e h = subst (AreBelow (2 ^ 42)) (sym e) (h, tt)

pub next_step-step-requires-clause-new_small : goal.next_step-step-requires-clause-new_small
next_step-step-requires-clause-new_small c = leaving_small c.args.leaving.now c.args.pivot.now.leaving c.args.d c.requires.leaves c.requires.own_small

pub next_step-step-requires-in-loop-step-clause-new_small : goal.next_step-step-requires-in-loop-step-clause-new_small
next_step-step-requires-in-loop-step-clause-new_small c = leaving_small c.args.leaving.now c.args.pivot.now.leaving c.args.d c.requires.leaves c.requires.own_small

pub loop-step-init : goal.loop-step-init
loop-step-init c =
    let next : IsNext (over 1 c.args.row.now) (over 1 c.args.leaving.now) 0 0 0 c.next_step-step.result.k = c.next_step-step.ensures.next 0 (omega arith) (place_zero (over 1 c.args.row.now)) (place_zero (over 1 c.args.leaving.now)) in
    record {
      within = c.next_step-step.ensures.within;
      row_value = λ l. c.next_step-step.ensures.row_value l next.row_place;
      row_small = c.next_step-step.ensures.row_small;
      row_past = λ l. c.next_step-step.ensures.row_past l next.row_place;
      leaving_past = λ l. c.next_step-step.ensures.new_past l next.new_place;
      written = whole_gap 0 c.next_step-step.result.k (turned_number (basic_in c.args.pivot.now.standing.now) c.args.pivot.now.leaving c.args.pivot.now.entering c.args.positive (to_z w64 (of_z w64 c.args.d)) c.args.row.now) c.clear.new.self.items next.order c.clear.ensures.items
          (λ m a b. turned_none (basic_in c.args.pivot.now.standing.now) c.args.pivot.now.leaving c.args.pivot.now.entering c.args.positive (to_z w64 (of_z w64 c.args.d)) c.args.row.now m (none_over 1 c.args.row.now m (lit< tt) (next.row_none m a b)) (turned_leaving c.args.pivot.now.leaving m c.args.d c.args.leaving.now (length c.args.pivot.now.standing.now) c.requires.leaves c.requires.leaving_kept (none_over 1 c.args.leaving.now m (lit< tt) (next.new_none m a b))));
      small = subst (AreBelow (2 ^ 42)) (sym c.clear.ensures.items) tt;
    }

pub turned_number-z-requires-clause-own_small : goal.turned_number-z-requires-clause-own_small
turned_number-z-requires-clause-own_small c = rw (read_small c.args.d c.requires.own_small) c.requires.own_small

pub turned_number-z-requires-clause-row_small : goal.turned_number-z-requires-clause-row_small
turned_number-z-requires-clause-row_small c = rw (read_small c.loop-step.step.n c.loop-step.invariant.row_small) c.loop-step.invariant.row_small

pub loop-step-preserved : goal.loop-step-preserved
loop-step-preserved c =
    let l : c.loop-step.step.k < length c.args.pivot.now.standing.now = omega arith in
    let next : IsNext (over 1 c.args.row.now) (over 1 c.args.leaving.now) c.loop-step.step.here c.loop-step.step.there (suc c.loop-step.step.k) c.next_step-step-in-loop-step.result.k =
    c.next_step-step-in-loop-step.ensures.next (suc c.loop-step.step.k) (omega arith) (c.loop-step.invariant.row_past l) (c.loop-step.invariant.leaving_past l) in
    let z : c.turned_number-z.result ≡ turned_number (basic_in c.args.pivot.now.standing.now) c.args.pivot.now.leaving c.args.pivot.now.entering c.args.positive (to_z w64 (of_z w64 c.args.d)) c.args.row.now c.loop-step.step.k =
    rw (read_small c.loop-step.step.n c.loop-step.invariant.row_small, c.loop-step.invariant.row_value l) at c.turned_number-z.ensures.value in
    let kept : to_z w64 (of_z w64 c.turned_number-z.result) ≡ c.turned_number-z.result = read_small c.turned_number-z.result c.turned_number-z.ensures.small in
    record {
      within = c.next_step-step-in-loop-step.ensures.within;
      row_value = λ l. c.next_step-step-in-loop-step.ensures.row_value l next.row_place;
      row_small = c.next_step-step-in-loop-step.ensures.row_small;
      row_past = λ l. c.next_step-step-in-loop-step.ensures.row_past l next.row_place;
      leaving_past = λ l. c.next_step-step-in-loop-step.ensures.new_past l next.new_place;
      written = whole_more c.loop-step.step.k c.next_step-step-in-loop-step.result.k (turned_number (basic_in c.args.pivot.now.standing.now) c.args.pivot.now.leaving c.args.pivot.now.entering c.args.positive (to_z w64 (of_z w64 c.args.d)) c.args.row.now) (to_z w64 (of_z w64 c.turned_number-z.result)) c.loop-step.out.items c.keep_number.new.numbers.items next.order c.loop-step.invariant.written c.in_ok-keep_number.ensures.kept (kept ∙ z)
          (λ m a b. turned_none (basic_in c.args.pivot.now.standing.now) c.args.pivot.now.leaving c.args.pivot.now.entering c.args.positive (to_z w64 (of_z w64 c.args.d)) c.args.row.now m (none_over 1 c.args.row.now m (lit< tt) (next.row_none m a b)) (turned_leaving c.args.pivot.now.leaving m c.args.d c.args.leaving.now (length c.args.pivot.now.standing.now) c.requires.leaves c.requires.leaving_kept (none_over 1 c.args.leaving.now m (lit< tt) (next.new_none m a b))));
      small = c.in_ok-keep_number.ensures.below (2 ^ 42) (rw kept c.turned_number-z.ensures.small) c.loop-step.invariant.small;
    }

pub returns-in_err-keep_number-clause-small : goal.returns-in_err-keep_number-clause-small
returns-in_err-keep_number-clause-small c =
    let kept : to_z w64 (of_z w64 c.turned_number-z.result) ≡ c.turned_number-z.result = read_small c.turned_number-z.result c.turned_number-z.ensures.small in
    c.in_err-keep_number.ensures.below (2 ^ 42) (rw kept c.turned_number-z.ensures.small) c.loop-step.invariant.small

pub loop-step-smaller : goal.loop-step-smaller
loop-step-smaller c =
    let l : c.loop-step.step.k < length c.args.pivot.now.standing.now = omega arith in
    let next : IsNext (over 1 c.args.row.now) (over 1 c.args.leaving.now) c.loop-step.step.here c.loop-step.step.there (suc c.loop-step.step.k) c.next_step-step-in-loop-step.result.k =
    c.next_step-step-in-loop-step.ensures.next (suc c.loop-step.step.k) (omega arith) (c.loop-step.invariant.row_past l) (c.loop-step.invariant.leaving_past l) in
    let o : suc c.loop-step.step.k ≤ c.next_step-step-in-loop-step.result.k = next.order in
    omega (arith, o, l)

pub returns-clause-kept : goal.returns-clause-kept
returns-clause-kept c =
    let end : c.loop-step.step.k ≡ length c.args.pivot.now.standing.now = omega arith in
    let h = c.loop-step.invariant.written ∙ ap (λ k. wholes_of k (turned_number (basic_in c.args.pivot.now.standing.now) c.args.pivot.now.leaving c.args.pivot.now.entering c.args.positive (to_z w64 (of_z w64 c.args.d)) c.args.row.now)) end in
    rw (read_small c.args.d c.requires.own_small) at h

pub next_step-step-requires-in-loop-step-clause-row_kept : goal.next_step-step-requires-in-loop-step-clause-row_kept
next_step-step-requires-in-loop-step-clause-row_kept c = grind (arith, common_steps)

pub next_step-step-requires-in-loop-step-clause-row_small : goal.next_step-step-requires-in-loop-step-clause-row_small
next_step-step-requires-in-loop-step-clause-row_small c = grind (arith, common_steps)

pub next_step-step-requires-in-loop-step-clause-new_kept : goal.next_step-step-requires-in-loop-step-clause-new_kept
next_step-step-requires-in-loop-step-clause-new_kept c = grind (arith, common_steps)

pub turned_number-z-requires-clause-within : goal.turned_number-z-requires-clause-within
turned_number-z-requires-clause-within c = grind (arith, common_steps)

pub returns-clause-small : goal.returns-clause-small
returns-clause-small c = grind (arith, common_steps)

pub next_step-step-requires-clause-new_kept : goal.next_step-step-requires-clause-new_kept
next_step-step-requires-clause-new_kept c = grind (arith, common_steps)

pub next_step-step-requires-clause-row_kept : goal.next_step-step-requires-clause-row_kept
next_step-step-requires-clause-row_kept c = grind (arith, common_steps)

pub next_step-step-requires-clause-row_small : goal.next_step-step-requires-clause-row_small
next_step-step-requires-clause-row_small c = grind (arith, common_steps)

pub overflow_cast-len : goal.overflow_cast-len
overflow_cast-len c = grind (arith, common_steps)

pub returns-in_err-keep_number-clause-kept : goal.returns-in_err-keep_number-clause-kept
returns-in_err-keep_number-clause-kept c = IfOk-from_err c.from_residual.result _ c.from_residual.ensures.0
