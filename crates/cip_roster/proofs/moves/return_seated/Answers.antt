use Rattle.std.proofs.lemmas.Grind.{common_steps}
use Rattle.std.proofs.Common.{◌≡◌, ◌∷◌, ◌∙◌, ◌≤◌, [], ◌++◌, ap, arith, length, refl, sym, vec_len}
use Rattle.std.proofs.lemmas.List.{drop_all}
use Rattle.std.specs.Vec.Iter.{drain_items, drain_kept, drain_lender}
use Rattle.cip_roster.specs.Moved.{numbered}
use Rattle.cip_roster.proofs.Moving.{moved_all, moved_one, whole_range}
use Rattle.cip_roster.proofs.moves.return_seated.Goals as goal

pub loop-seat-init : goal.loop-seat-init
loop-seat-init g c =
    let fits : length c.args.seated.now.items ≤ vec_len c.args.seated.now = omega (arith, c.args.seated.now.ok.0) in
    let from : drain_items c.into_iter-seat-iterator.result ≡ c.args.seated.now.items =
    ap (λ it. drain_items it) c.into_iter-seat-iterator.ensures.into_iter_gives ∙ c.drain-seat-items.ensures.rest
    ∙ whole_range c.args.seated.now.items (vec_len c.args.seated.now) fits in
    let count = ap length from in
    record {
      moved = refl;
      most = omega (arith, c.requires.numbers, count);
      numbers = omega arith;
      filled = omega arith;
      room = omega (arith, c.requires.room, count);
      capacity = refl;
    }

pub push_reserved-requires : goal.push_reserved-requires
push_reserved-requires g c =
    let split : drain_items c.loop-seat.seat-iterator ≡ c.in-Some.seat ∷ drain_items c.next.new.self =
    c.in-Some.ensures.steps.0 in
    omega (arith, c.loop-seat.invariant.room, ap length split)

pub overflow_add-id : goal.overflow_add-id
overflow_add-id g c =
    let split : drain_items c.loop-seat.seat-iterator ≡ c.in-Some.seat ∷ drain_items c.next.new.self =
    c.in-Some.ensures.steps.0 in
    omega (arith, c.loop-seat.invariant.most, c.loop-seat.invariant.numbers, ap length split)

pub loop-seat-preserved : goal.loop-seat-preserved
loop-seat-preserved g c =
    let split : drain_items c.loop-seat.seat-iterator ≡ c.in-Some.seat ∷ drain_items c.next.new.self =
    c.in-Some.ensures.steps.0 in
    let before = c.loop-seat.invariant in
    let pushed = c.push_reserved.ensures in
    let count = ap length split in
    record {
      moved = moved_one _ _ _ _ _ _ (ap (numbered g.S.Leaves.left c.loop-seat.id) split)
          (pushed.items ∙ ap (λ y. c.loop-seat.spent.items ++ y ∷ []) c.leave.ensures) before.moved;
      most = before.most;
      numbers = omega (arith, before.numbers, count);
      filled = omega (arith, before.filled, pushed.len);
      room = omega (arith, before.room, pushed.len, pushed.capacity, count);
      capacity = pushed.capacity ∙ before.capacity;
    }

pub returns-clause-moved : goal.returns-clause-moved
returns-clause-moved g c =
    let fits : length c.args.seated.now.items ≤ vec_len c.args.seated.now = omega (arith, c.args.seated.now.ok.0) in
    let from : drain_items c.into_iter-seat-iterator.result ≡ c.args.seated.now.items =
    ap (λ it. drain_items it) c.into_iter-seat-iterator.ensures.into_iter_gives ∙ c.drain-seat-items.ensures.rest
    ∙ whole_range c.args.seated.now.items (vec_len c.args.seated.now) fits in
    moved_all _ _ _ _ _ (ap (numbered g.S.Leaves.left c.loop-seat.id) c.in-None.ensures.steps.0)
    (ap (numbered g.S.Leaves.left 0) from) c.loop-seat.invariant.moved

pub returns-clause-length : goal.returns-clause-length
returns-clause-length g c =
    let fits : length c.args.seated.now.items ≤ vec_len c.args.seated.now = omega (arith, c.args.seated.now.ok.0) in
    let from : drain_items c.into_iter-seat-iterator.result ≡ c.args.seated.now.items =
    ap (λ it. drain_items it) c.into_iter-seat-iterator.ensures.into_iter_gives ∙ c.drain-seat-items.ensures.rest
    ∙ whole_range c.args.seated.now.items (vec_len c.args.seated.now) fits in
    omega (
      arith,
      c.loop-seat.invariant.filled,
      c.loop-seat.invariant.numbers,
      ap length c.in-None.ensures.steps.0,
      ap length from,
    )

pub returns-clause-capacity : goal.returns-clause-capacity
returns-clause-capacity g c = c.loop-seat.invariant.capacity

pub returns-clause-none : goal.returns-clause-none
returns-clause-none g c =
    let drained = c.drain-seat-items.ensures in
    let yielded = rw c.into_iter-seat-iterator.ensures.into_iter_gives at c.loop-seat.yielded_by in
    let stays = drained.stays _ _ yielded in
    let last = c.in-None.ensures.steps.1 in
    let fits : length c.args.seated.now.items ≤ vec_len c.args.seated.now = omega (arith, c.args.seated.now.ok.0) in
    let left = c.drop-seat-iterator.ensures.items ∙ ap (λ it. drain_kept it) last ∙ stays.1 ∙ drained.kept
    ∙ drop_all _ c.args.seated.now.items fits in
    let lent = ap (λ it. drain_lender it) last ∙ stays.0 ∙ drained.same_reference in
    ap (λ v. v.items) (c.seated-1.given.1 (sym lent)) ∙ left

pub loop-seat-init-derived : goal.loop-seat-init-derived
loop-seat-init-derived g c = grind (arith, common_steps)

pub loop-seat-preserved-derived : goal.loop-seat-preserved-derived
loop-seat-preserved-derived g c = grind (arith, common_steps)

pub drain-seat-items-requires-clause-not_exhausted : goal.drain-seat-items-requires-clause-not_exhausted
drain-seat-items-requires-clause-not_exhausted g c = grind (arith, common_steps)

pub drain-seat-items-requires-clause-in_bounds : goal.drain-seat-items-requires-clause-in_bounds
drain-seat-items-requires-clause-in_bounds g c = grind (arith, common_steps)

pub drain-seat-items-requires-clause-start_le_end : goal.drain-seat-items-requires-clause-start_le_end
drain-seat-items-requires-clause-start_le_end g c = grind (arith, common_steps)
