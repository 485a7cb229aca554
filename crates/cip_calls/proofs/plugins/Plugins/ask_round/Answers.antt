use Rattle.std.proofs.lemmas.Grind.{common_steps}
use Rattle.std.proofs.Common.{◌≡◌, ◌≢◌, ◌∷◌, [], ◌++◌, ℕ, List, refl, sym, ap, ◌∙◌, subst, arith}
use Rattle.std.proofs.lemmas.Result.{IfOk-weaker, IfOk-from_err}
use Rattle.cip_plugin.specs.declared.asking.Given.{Given}
use Rattle.cip_calls.specs.Asked.{ask_in, told, proposers, AreSeated}
use Rattle.cip_calls.specs.Noted.{makers}
use Rattle.cip_calls.specs.Served.{Used}
use Rattle.cip_calls.specs.declared.judging.Came.TheVariants.{Emptied}
use Rattle.cip_calls.proofs.Noting.{come_called, come_gone}
use Rattle.cip_calls.proofs.Pools.{node_none}
use Rattle.cip_calls.proofs.Serving.{used_nobody, round_used, round_plain}
use Rattle.cip_calls.proofs.plugins.Plugins.ask_round.Goals as goal

pub returns-then-has_none-clause-come : goal.returns-then-has_none-clause-come
returns-then-has_none-clause-come g c =
    come_called c.args.core.now c.args.node.now _ _ (g.R.Seated.room c.args.self.now.roster) c.args.self.now.scratches c.requires.ready c.requires.sound (record { steps = []; run = refl })

pub returns-then-has_none-clause-used : goal.returns-then-has_none-clause-used
returns-then-has_none-clause-used g c = λ _.
    used_nobody (ask_in c.args.round ∷ []) (g.R.Seated.state c.args.self.now.roster) c.args.self.now.judged.items (c.has_none.ensures c.if-has_none.true)

pub returns-then-has_none-clause-node : goal.returns-then-has_none-clause-node
returns-then-has_none-clause-node g c = λ other. node_none c.args.core.now c.args.node.now

pub returns-in_err-gave-clause-node : goal.returns-in_err-gave-clause-node
returns-in_err-gave-clause-node g c = λ other. node_none c.args.core.now c.args.node.now

pub returns-in_err-gave-clause-come : goal.returns-in_err-gave-clause-come
returns-in_err-gave-clause-come g c =
    come_called c.args.core.now c.args.node.now _ _ _ c.args.self.now.scratches c.requires.ready c.ask_all.ensures.sound c.ask_all.ensures.run

pub take_all-came-requires-clause-seated : goal.take_all-came-requires-clause-seated
take_all-came-requires-clause-seated g c =
    subst (λ (l : List (ℕ × Given)). AreSeated (g.R.Seated.state c.ask_all.new.self) l) (sym c.as_slice.ensures.value) c.in_ok-gave.ensures.seated

pub returns-clause-come : goal.returns-clause-come
returns-clause-come g c = come_gone _ _ _ _ _ _ _ _ _ c.ask_all.ensures.run c.take_all-came.ensures.gone

pub returns-clause-used : goal.returns-clause-used
returns-clause-used g c =
    let ask = ask_in c.args.round in
    let a = g.R.Seated.state c.args.self.now.roster in
    let b = g.R.Seated.state c.ask_all.new.self in
    let d = g.R.Seated.state c.take_all-came.new.self.roster in
    let had = c.args.self.now.judged.items in
    let has = c.take_all-came.new.self.judged.items in
    IfOk-weaker c.take_all-came.result (λ came. came ≢ Emptied → makers has ≡ makers had ++ proposers ask (told c.as_slice.result.now)) (λ came. came ≢ Emptied → Used (ask ∷ []) a had d has)
    (λ came h other. round_used ask a b d (told c.in_ok-gave.gave.items) had has (round_plain c.args.round) c.ask_all.ensures.sound.settled c.in_ok-gave.ensures.asked c.take_all-came.ensures.gone.noted
    (h other ∙ ap (λ (l : List (ℕ × Given)). makers had ++ proposers ask (told l)) c.as_slice.ensures.value))
    c.take_all-came.ensures.judged

pub take_all-came-requires-clause-ready : goal.take_all-came-requires-clause-ready
take_all-came-requires-clause-ready g c = c.requires.ready

pub take_all-came-requires-clause-sound : goal.take_all-came-requires-clause-sound
take_all-came-requires-clause-sound g c = c.ask_all.ensures.sound

pub returns-then-has_none-clause-pool : goal.returns-then-has_none-clause-pool
returns-then-has_none-clause-pool g c = λ other. refl

pub returns-in_err-gave-clause-pool : goal.returns-in_err-gave-clause-pool
returns-in_err-gave-clause-pool g c = λ other. refl

pub returns-clause-emptied : goal.returns-clause-emptied
returns-clause-emptied g c = c.take_all-came.ensures.emptied

pub returns-clause-node : goal.returns-clause-node
returns-clause-node g c = c.take_all-came.ensures.node

pub returns-clause-rows : goal.returns-clause-rows
returns-clause-rows g c = c.take_all-came.ensures.rows

pub returns-clause-pool : goal.returns-clause-pool
returns-clause-pool g c = c.take_all-came.ensures.pool

pub returns-clause-sides : goal.returns-clause-sides
returns-clause-sides g c = c.take_all-came.ensures.sides

pub ask_all-requires : goal.ask_all-requires
ask_all-requires g c = record { sound = c.requires.sound }

pub returns-then-has_none-clause-emptied : goal.returns-then-has_none-clause-emptied
returns-then-has_none-clause-emptied g c = grind (arith, common_steps)

pub returns-then-has_none-clause-sides : goal.returns-then-has_none-clause-sides
returns-then-has_none-clause-sides g c = grind (arith, common_steps)

pub returns-then-has_none-clause-rows : goal.returns-then-has_none-clause-rows
returns-then-has_none-clause-rows g c = grind (arith, common_steps)

pub returns-in_err-gave-clause-used : goal.returns-in_err-gave-clause-used
returns-in_err-gave-clause-used g c = IfOk-from_err c.from_residual.result _ c.from_residual.ensures.0

pub returns-in_err-gave-clause-emptied : goal.returns-in_err-gave-clause-emptied
returns-in_err-gave-clause-emptied g c = IfOk-from_err c.from_residual.result _ c.from_residual.ensures.0

pub returns-in_err-gave-clause-rows : goal.returns-in_err-gave-clause-rows
returns-in_err-gave-clause-rows g c = IfOk-from_err c.from_residual.result _ c.from_residual.ensures.0

pub returns-in_err-gave-clause-sides : goal.returns-in_err-gave-clause-sides
returns-in_err-gave-clause-sides g c = IfOk-from_err c.from_residual.result _ c.from_residual.ensures.0
