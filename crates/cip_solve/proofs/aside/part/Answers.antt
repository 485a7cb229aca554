use Rattle.std.proofs.lemmas.Grind.{common_steps}
use Rattle.std.proofs.Common.{◌≡◌, ◌∷◌, ◌∙◌, ◌≤◌, ap, arith, length, rules, vec_len}
use Rattle.std.specs.Prelude.{not}
use Rattle.std.specs.Vec.Iter.{drain_items}
use Rattle.cip_solve.proofs.SetAside.{off_by, kept_more, kept_same, spent_more, spent_same, kept_all, spent_all}
use Rattle.cip_solve.proofs.aside.part.Goals as goal
use Rattle.cip_roster.proofs.Moving.{whole_range}

pub loop-plugin-preserved-then-is_one_of : goal.loop-plugin-preserved-then-is_one_of
loop-plugin-preserved-then-is_one_of g c =
    let split : drain_items c.loop-plugin.plugin-iterator ≡ c.in-Some.plugin ∷ drain_items c.next.new.self = c.in-Some.ensures.steps.0 in
    let off = off_by _ (g.P.Tells.who c.in-Some.plugin) _ _ c.name.ensures c.is_one_of.ensures ∙ c.if-is_one_of.true in
    record {
      kept = kept_same _ _ _ _ _ _ (ap not off) split c.loop-plugin.invariant.kept;
      spent = spent_more _ _ _ _ _ _ _ _ _ off split c.leave.ensures c.push_reserved.ensures.items c.loop-plugin.invariant.spent;
      room = omega (arith, c.loop-plugin.invariant.room, ap length split);
      spare = omega (arith, c.loop-plugin.invariant.spare, ap length split, c.push_reserved.ensures.len, c.push_reserved.ensures.capacity);
    }

pub loop-plugin-preserved : goal.loop-plugin-preserved
loop-plugin-preserved g c =
    let split : drain_items c.loop-plugin.plugin-iterator ≡ c.in-Some.plugin ∷ drain_items c.next.new.self = c.in-Some.ensures.steps.0 in
    let off = off_by _ (g.P.Tells.who c.in-Some.plugin) _ _ c.name.ensures c.is_one_of.ensures ∙ c.if-is_one_of.false in
    let pushed = c.push_reserved-else-is_one_of.ensures in
    record {
      kept = kept_more _ _ _ _ _ _ _ (ap not off) split pushed.items c.loop-plugin.invariant.kept;
      spent = spent_same _ _ _ _ _ _ _ off split c.loop-plugin.invariant.spent;
      room = omega (arith, c.loop-plugin.invariant.room, ap length split, pushed.len, pushed.capacity);
      spare = omega (arith, c.loop-plugin.invariant.spare, ap length split);
    }

pub returns-clause-spent : goal.returns-clause-spent
returns-clause-spent g c =
    let fits : length c.args.plugins.now.items ≤ vec_len c.args.plugins.now = search rules in
    let all : drain_items c.drain-plugin-items.result ≡ c.args.plugins.now.items =
    c.drain-plugin-items.ensures.rest ∙ whole_range c.args.plugins.now.items (vec_len c.args.plugins.now) fits in
    let from : drain_items c.into_iter-plugin-iterator.result ≡ c.args.plugins.now.items =
    ap (λ it. drain_items it) c.into_iter-plugin-iterator.ensures.into_iter_gives ∙ all in
    spent_all _ _ _ _ _ _ _ c.in-None.ensures.steps.0 from c.loop-plugin.invariant.spent

pub returns-clause-kept : goal.returns-clause-kept
returns-clause-kept g c =
    let fits : length c.args.plugins.now.items ≤ vec_len c.args.plugins.now = search rules in
    let from : drain_items c.into_iter-plugin-iterator.result ≡ c.args.plugins.now.items =
    ap (λ it. drain_items it) c.into_iter-plugin-iterator.ensures.into_iter_gives
    ∙ (c.drain-plugin-items.ensures.rest ∙ whole_range c.args.plugins.now.items (vec_len c.args.plugins.now) fits) in
    kept_all _ _ _ _ _ _ c.in-None.ensures.steps.0 from c.loop-plugin.invariant.kept

pub loop-plugin-init : goal.loop-plugin-init
loop-plugin-init g c = grind (arith, common_steps)

pub loop-plugin-preserved-derived : goal.loop-plugin-preserved-derived
loop-plugin-preserved-derived g c = omega arith

pub loop-plugin-preserved-then-is_one_of-derived : goal.loop-plugin-preserved-then-is_one_of-derived
loop-plugin-preserved-then-is_one_of-derived g c = omega arith

pub push_reserved-requires : goal.push_reserved-requires
push_reserved-requires g c = grind (arith, common_steps)

pub push_reserved-requires-else-is_one_of : goal.push_reserved-requires-else-is_one_of
push_reserved-requires-else-is_one_of g c = grind (arith, common_steps)

pub loop-plugin-init-derived : goal.loop-plugin-init-derived
loop-plugin-init-derived g c = grind (arith, common_steps)

pub drain-plugin-items-requires-clause-not_exhausted : goal.drain-plugin-items-requires-clause-not_exhausted
drain-plugin-items-requires-clause-not_exhausted g c = grind (arith, common_steps)

pub drain-plugin-items-requires-clause-in_bounds : goal.drain-plugin-items-requires-clause-in_bounds
drain-plugin-items-requires-clause-in_bounds g c = grind (arith, common_steps)

pub drain-plugin-items-requires-clause-start_le_end : goal.drain-plugin-items-requires-clause-start_le_end
drain-plugin-items-requires-clause-start_le_end g c = grind (arith, common_steps)
