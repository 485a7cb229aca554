use Rattle.std.proofs.lemmas.Grind.{common_steps}
use Rattle.std.proofs.Common.{◌≡◌, ◌∷◌, ◌∙◌, ◌≤◌, Some, ap, arith, length, map, refl, sym, vec_len}
use Rattle.std.proofs.lemmas.List.{drop_all}
use Rattle.std.specs.Vec.Iter.{drain_items, drain_kept, drain_lender}
use Rattle.cip_roster.proofs.Moving.{moved_all, moved_one, whole_range}
use Rattle.cip_roster.proofs.moves.shelve.Goals as goal

pub loop-plugin-init : goal.loop-plugin-init
loop-plugin-init g c =
    let fits : length c.args.plugins.now.items ≤ vec_len c.args.plugins.now = omega (arith, c.args.plugins.now.ok.0) in
    let from : drain_items c.into_iter-plugin-iterator.result ≡ c.args.plugins.now.items =
    ap (λ it. drain_items it) c.into_iter-plugin-iterator.ensures.into_iter_gives ∙ c.drain-plugin-items.ensures.rest
    ∙ whole_range c.args.plugins.now.items (vec_len c.args.plugins.now) fits in
    record {
      moved = refl;
      room = omega (arith, c.requires.room, ap length from);
    }

pub push_reserved-requires : goal.push_reserved-requires
push_reserved-requires g c =
    let split : drain_items c.loop-plugin.plugin-iterator ≡ c.in-Some.plugin ∷ drain_items c.next.new.self =
    c.in-Some.ensures.steps.0 in
    omega (arith, c.loop-plugin.invariant.room, ap length split)

pub loop-plugin-preserved : goal.loop-plugin-preserved
loop-plugin-preserved g c =
    let split : drain_items c.loop-plugin.plugin-iterator ≡ c.in-Some.plugin ∷ drain_items c.next.new.self =
    c.in-Some.ensures.steps.0 in
    record {
      moved = moved_one _ _ _ _ _ (Some c.in-Some.plugin) (ap (map (λ p. Some p)) split) c.push_reserved.ensures.items
          c.loop-plugin.invariant.moved;
      room = omega (
        arith,
        c.loop-plugin.invariant.room,
        c.push_reserved.ensures.len,
        c.push_reserved.ensures.capacity,
        ap length split,
      );
    }

pub returns-clause-moved : goal.returns-clause-moved
returns-clause-moved g c =
    let fits : length c.args.plugins.now.items ≤ vec_len c.args.plugins.now = omega (arith, c.args.plugins.now.ok.0) in
    let from : drain_items c.into_iter-plugin-iterator.result ≡ c.args.plugins.now.items =
    ap (λ it. drain_items it) c.into_iter-plugin-iterator.ensures.into_iter_gives ∙ c.drain-plugin-items.ensures.rest
    ∙ whole_range c.args.plugins.now.items (vec_len c.args.plugins.now) fits in
    moved_all _ _ _ _ _ (ap (map (λ p. Some p)) c.in-None.ensures.steps.0) (ap (map (λ p. Some p)) from)
    c.loop-plugin.invariant.moved

pub returns-clause-none : goal.returns-clause-none
returns-clause-none g c =
    let drained = c.drain-plugin-items.ensures in
    let yielded = rw c.into_iter-plugin-iterator.ensures.into_iter_gives at c.loop-plugin.yielded_by in
    let stays = drained.stays _ _ yielded in
    let last = c.in-None.ensures.steps.1 in
    let fits : length c.args.plugins.now.items ≤ vec_len c.args.plugins.now = omega (arith, c.args.plugins.now.ok.0) in
    let left = c.drop-plugin-iterator.ensures.items ∙ ap (λ it. drain_kept it) last ∙ stays.1 ∙ drained.kept
    ∙ drop_all _ c.args.plugins.now.items fits in
    let lent = ap (λ it. drain_lender it) last ∙ stays.0 ∙ drained.same_reference in
    ap (λ v. v.items) (c.plugins-1.given.1 (sym lent)) ∙ left

pub loop-plugin-init-derived : goal.loop-plugin-init-derived
loop-plugin-init-derived g c = grind (arith, common_steps)

pub loop-plugin-preserved-derived : goal.loop-plugin-preserved-derived
loop-plugin-preserved-derived g c = grind (arith, common_steps)

pub drain-plugin-items-requires-clause-not_exhausted : goal.drain-plugin-items-requires-clause-not_exhausted
drain-plugin-items-requires-clause-not_exhausted g c = grind (arith, common_steps)
