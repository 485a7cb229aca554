use Rattle.std.proofs.lemmas.Grind.{common_steps}
use Rattle.std.proofs.Common.{◌≡◌, ◌∷◌, ◌∙◌, ◌≤◌, [], ◌++◌, Some, None, ap, arith, length, refl, sym, vec_len}
use Rattle.std.proofs.lemmas.List.{drop_all}
use Rattle.std.specs.Vec.Iter.{drain_items, drain_kept, drain_lender}
use Rattle.std.proofs.Common.{count_by}
use Rattle.std.specs.Prelude.{is_some}
use Rattle.cip_roster.specs.Moved.{unnumbered}
use Rattle.cip_roster.proofs.Moving.{counted_none, counted_one, moved_all, moved_one, none_there, whole_range}
use Rattle.cip_roster.proofs.moves.return_shelved.Goals as goal

pub loop-held-init : goal.loop-held-init
loop-held-init g c =
    let fits : length c.args.shelf.now.items ≤ vec_len c.args.shelf.now = omega (arith, c.args.shelf.now.ok.0) in
    let from : drain_items c.into_iter-held-iterator.result ≡ c.args.shelf.now.items =
    ap (λ it. drain_items it) c.into_iter-held-iterator.ensures.into_iter_gives ∙ c.drain-held-items.ensures.rest
    ∙ whole_range c.args.shelf.now.items (vec_len c.args.shelf.now) fits in
    record {
      moved = refl;
      room = omega (arith, c.requires, ap (count_by is_some) from);
    }

pub push_reserved-requires : goal.push_reserved-requires
push_reserved-requires g c =
    let split : drain_items c.loop-held.held-iterator ≡ Some c.in-Some-held.plugin ∷ drain_items c.next.new.self =
    c.in-Some.ensures.steps.0 ∙ ap (λ held. held ∷ drain_items c.next.new.self) c.in-Some-held.is in
    omega (arith, c.loop-held.invariant.room, counted_one _ _ _ split)

pub loop-held-preserved-in-Some-held : goal.loop-held-preserved-in-Some-held
loop-held-preserved-in-Some-held g c =
    let split : drain_items c.loop-held.held-iterator ≡ Some c.in-Some-held.plugin ∷ drain_items c.next.new.self =
    c.in-Some.ensures.steps.0 ∙ ap (λ held. held ∷ drain_items c.next.new.self) c.in-Some-held.is in
    record {
      moved = moved_one _ _ _ _ _ _ (ap (unnumbered g.P.Leaves.left) split)
          (c.push_reserved.ensures.items ∙ ap (λ y. c.loop-held.spent.items ++ y ∷ []) c.leave.ensures)
          c.loop-held.invariant.moved;
      room = omega (
        arith,
        c.loop-held.invariant.room,
        c.push_reserved.ensures.len,
        c.push_reserved.ensures.capacity,
        counted_one _ _ _ split,
      );
    }

pub loop-held-preserved : goal.loop-held-preserved
loop-held-preserved g c =
    let split : drain_items c.loop-held.held-iterator ≡ None ∷ drain_items c.next.new.self =
    c.in-Some.ensures.steps.0 ∙ ap (λ held. held ∷ drain_items c.next.new.self)
    (none_there c.in-Some.held c.in_default.not-Some) in
    record {
      moved = ap (λ l. c.loop-held.spent.items ++ l) (sym (ap (unnumbered g.P.Leaves.left) split))
          ∙ c.loop-held.invariant.moved;
      room = omega (arith, c.loop-held.invariant.room, counted_none _ _ split);
    }

pub returns-clause-moved : goal.returns-clause-moved
returns-clause-moved g c =
    let fits : length c.args.shelf.now.items ≤ vec_len c.args.shelf.now = omega (arith, c.args.shelf.now.ok.0) in
    let from : drain_items c.into_iter-held-iterator.result ≡ c.args.shelf.now.items =
    ap (λ it. drain_items it) c.into_iter-held-iterator.ensures.into_iter_gives ∙ c.drain-held-items.ensures.rest
    ∙ whole_range c.args.shelf.now.items (vec_len c.args.shelf.now) fits in
    moved_all _ _ _ _ _ (ap (unnumbered g.P.Leaves.left) c.in-None.ensures.steps.0)
    (ap (unnumbered g.P.Leaves.left) from) c.loop-held.invariant.moved

pub returns-clause-none : goal.returns-clause-none
returns-clause-none g c =
    let drained = c.drain-held-items.ensures in
    let yielded = rw c.into_iter-held-iterator.ensures.into_iter_gives at c.loop-held.yielded_by in
    let stays = drained.stays _ _ yielded in
    let last = c.in-None.ensures.steps.1 in
    let fits : length c.args.shelf.now.items ≤ vec_len c.args.shelf.now = omega (arith, c.args.shelf.now.ok.0) in
    let left = c.drop-held-iterator.ensures.items ∙ ap (λ it. drain_kept it) last ∙ stays.1 ∙ drained.kept
    ∙ drop_all _ c.args.shelf.now.items fits in
    let lent = ap (λ it. drain_lender it) last ∙ stays.0 ∙ drained.same_reference in
    ap (λ v. v.items) (c.shelf-1.given.1 (sym lent)) ∙ left

pub loop-held-init-derived : goal.loop-held-init-derived
loop-held-init-derived g c = grind (arith, common_steps)

pub loop-held-preserved-in-Some-held-derived : goal.loop-held-preserved-in-Some-held-derived
loop-held-preserved-in-Some-held-derived g c = grind (arith, common_steps)

pub loop-held-preserved-derived : goal.loop-held-preserved-derived
loop-held-preserved-derived g c = grind (arith, common_steps)

pub drain-held-items-requires-clause-not_exhausted : goal.drain-held-items-requires-clause-not_exhausted
drain-held-items-requires-clause-not_exhausted g c = grind (arith, common_steps)

pub drain-held-items-requires-clause-in_bounds : goal.drain-held-items-requires-clause-in_bounds
drain-held-items-requires-clause-in_bounds g c = grind (arith, common_steps)

pub drain-held-items-requires-clause-start_le_end : goal.drain-held-items-requires-clause-start_le_end
drain-held-items-requires-clause-start_le_end g c = grind (arith, common_steps)
