use Rattle.std.proofs.lemmas.Result.{IfOk-from_err}
use Rattle.std.proofs.lemmas.Grind.{common_steps}
use Rattle.cip_plugin.specs.declared.asking.Given.{Given}
use Rattle.std.specs.Prelude.{IsSome, slice_get}
use Rattle.std.proofs.Common.{refl, sym, ◌∙◌, append-nil, ℕ, subst, arith}
use Rattle.cip_calls.specs.Asked.{ask_in}
use Rattle.cip_calls.specs.Noted.{makers}
use Rattle.cip_calls.proofs.Noting.{gone_none, gone_further, seat_noted, all_more}
use Rattle.cip_calls.proofs.Pools.{node_none, node_further, quiet_left}
use Rattle.cip_calls.proofs.plugins.Plugins.take_all.Goals as goal

pub loop-id-init : goal.loop-id-init
loop-id-init g c = record {
  gone = gone_none c.args.core.now c.args.node.now (g.R.Seated.state c.args.self.now.roster) (g.R.Seated.room c.args.self.now.roster) c.args.self.now.scratches c.requires.ready c.requires.sound;
  seated = c.requires.seated;
  judged = sym (append-nil (makers c.args.self.now.judged.items));
  node = λ other. node_none c.args.core.now c.args.node.now;
  rows = λ e. refl;
  pool = λ other. refl;
}

pub loop-id-preserved : goal.loop-id-preserved
loop-id-preserved g c = record {
  gone = gone_further _ _ _ _ _ _ _ _ _ _ _ _ _ c.loop-id.invariant.gone c.take_given.ensures.gone;
  seated = λ k d within. seat_noted _ _ _ c.take_given.ensures.gone.noted (c.loop-id.invariant.seated k d within);
  judged = all_more (ask_in c.args.round) c.args.gave.now c.loop-id.id-index c.loop-id-item.result _ _ _ c.loop-id-test.true c.loop-id-item.is c.loop-id.invariant.judged
      (c.in_ok-came.ensures.judged c.in_default.not-Emptied);
  node = λ other. node_further _ _ _ _ _ _ (c.loop-id.invariant.node other) (c.take_given.ensures.node other);
  rows = λ e.
      let both = c.is_more-any.ensures e in
      c.in_ok-came.ensures.rows (quiet_left _ c.in_default.not-Emptied both.1) ∙ c.loop-id.invariant.rows both.0;
  pool = λ other. c.take_given.ensures.pool other ∙ c.loop-id.invariant.pool other;
}

pub returns-in_err-came-clause-gone : goal.returns-in_err-came-clause-gone
returns-in_err-came-clause-gone g c = gone_further _ _ _ _ _ _ _ _ _ _ _ _ _ c.loop-id.invariant.gone c.take_given.ensures.gone

pub returns-in_err-came-clause-node : goal.returns-in_err-came-clause-node
returns-in_err-came-clause-node g c = λ other. node_further _ _ _ _ _ _ (c.loop-id.invariant.node other) (c.take_given.ensures.node other)

pub returns-in_err-came-clause-pool : goal.returns-in_err-came-clause-pool
returns-in_err-came-clause-pool g c = λ other. c.take_given.ensures.pool other ∙ c.loop-id.invariant.pool other

pub returns-in-Emptied-clause-gone : goal.returns-in-Emptied-clause-gone
returns-in-Emptied-clause-gone g c = gone_further _ _ _ _ _ _ _ _ _ _ _ _ _ c.loop-id.invariant.gone c.take_given.ensures.gone

pub returns-in-Emptied-clause-emptied : goal.returns-in-Emptied-clause-emptied
returns-in-Emptied-clause-emptied g c = λ _. c.in_ok-came.ensures.emptied c.in-Emptied.is

pub returns-in-Emptied-clause-node : goal.returns-in-Emptied-clause-node
returns-in-Emptied-clause-node g c = λ other. node_further _ _ _ _ _ _ (c.loop-id.invariant.node other) (c.take_given.ensures.node other)

pub returns-in-Emptied-clause-pool : goal.returns-in-Emptied-clause-pool
returns-in-Emptied-clause-pool g c = λ other. c.take_given.ensures.pool other ∙ c.loop-id.invariant.pool other

pub returns-in-Emptied-clause-sides : goal.returns-in-Emptied-clause-sides
returns-in-Emptied-clause-sides g c = λ _. c.in_ok-came.ensures.sides c.in-Emptied.is

pub returns-clause-rows : goal.returns-clause-rows
returns-clause-rows g c = λ e. c.loop-id.invariant.rows (c.came_of.ensures.quiet e)

pub take_given-requires-clause-seat : goal.take_given-requires-clause-seat
take_given-requires-clause-seat g c =
    subst (λ (e : ℕ × Given). IsSome (slice_get (g.R.Seated.state c.loop-id.self.roster).seats e.0)) (sym c.loop-id-item.is) (c.loop-id.invariant.seated c.loop-id.id-index c.loop-id-item.result c.loop-id-test.true)

pub returns-clause-emptied : goal.returns-clause-emptied
returns-clause-emptied g c = omega arith

pub returns-in-Emptied-clause-rows : goal.returns-in-Emptied-clause-rows
returns-in-Emptied-clause-rows g c = grind (arith, common_steps)

pub returns-clause-judged : goal.returns-clause-judged
returns-clause-judged g c = grind (arith, common_steps)

pub returns-in-Emptied-clause-judged : goal.returns-in-Emptied-clause-judged
returns-in-Emptied-clause-judged g c = grind (arith, common_steps)

pub returns-clause-sides : goal.returns-clause-sides
returns-clause-sides g c = grind (arith, common_steps)

pub take_given-requires-clause-ready : goal.take_given-requires-clause-ready
take_given-requires-clause-ready g c = c.loop-id.invariant.gone.ready

pub returns-clause-gone : goal.returns-clause-gone
returns-clause-gone g c = grind (arith, common_steps)

pub offset_bounds-gave-id-index : goal.offset_bounds-gave-id-index
offset_bounds-gave-id-index g c = grind (arith, common_steps)

pub returns-in_err-came-clause-judged : goal.returns-in_err-came-clause-judged
returns-in_err-came-clause-judged g c = IfOk-from_err c.from_residual.result _ c.from_residual.ensures.0

pub returns-in_err-came-clause-emptied : goal.returns-in_err-came-clause-emptied
returns-in_err-came-clause-emptied g c = IfOk-from_err c.from_residual.result _ c.from_residual.ensures.0

pub returns-in_err-came-clause-rows : goal.returns-in_err-came-clause-rows
returns-in_err-came-clause-rows g c = IfOk-from_err c.from_residual.result _ c.from_residual.ensures.0

pub returns-in_err-came-clause-sides : goal.returns-in_err-came-clause-sides
returns-in_err-came-clause-sides g c = IfOk-from_err c.from_residual.result _ c.from_residual.ensures.0

pub returns-clause-pool : goal.returns-clause-pool
returns-clause-pool g c = c.loop-id.invariant.pool

pub returns-clause-node : goal.returns-clause-node
returns-clause-node g c = c.loop-id.invariant.node

pub take_given-requires-clause-sound : goal.take_given-requires-clause-sound
take_given-requires-clause-sound g c = c.loop-id.invariant.gone.sound
