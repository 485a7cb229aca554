use Rattle.std.proofs.lemmas.Grind.{common_steps}
use Rattle.std.proofs.Common.{◌≡◌, ◌∙◌, [], ◌∷◌, ◌++◌, Some, ap, sym, subst, arith}
use Rattle.cip_tree.specs.declared.walks.Stop.{Stop}
use Rattle.cip_tree.specs.Origins.{Origin}
use Rattle.cip_tree.specs.Slots.{Slot}
use Rattle.cip_tree.specs.Walks.{Way, last_stop, AreRising, AreHeld}
use Rattle.cip_tree.proofs.Walking.{none_rise, one_rises, walked_take, walked_root}
use Rattle.std.proofs.lemmas.Result.{IfOk-from_err}
use Rattle.cip_tree.proofs.walks.Walk.parent_past.Goals as goal

pub returns-then-turn_back-clause-walked : goal.returns-then-turn_back-clause-walked
returns-then-turn_back-clause-walked c = c.turn_back.ensures.walked c.args.kept.now.slots

pub returns-in_ok-push-in-None-clause-walked : goal.returns-in_ok-push-in-None-clause-walked
returns-in_ok-push-in-None-clause-walked c = λ root ids w.
    let stop : Stop = record { number = c.slot.inside.number; mark = 0 } in
    let items : c.push.new.self.items ≡ stop ∷ [] = grind (arith, common_steps) in
    let new : Way = record { domain = c.self.inside.domain; stops = c.push.new.self.items } in
    walked_root root c.args.kept.now.slots ids c.args.place c.in-Some.slot.now c.turn_back.new.self new c.requires.kept (sym c.in-Some.ensures) (sym (ap (λ (t : Slot). t.origin) c.slot.view_is) ∙ c.in-None.is) (ap (λ (t : Way). t.domain) c.self.view_is)
    (items ∙ ap (λ (t : Slot). (let stop : Stop = record { number = t.number; mark = 0 } in stop) ∷ []) c.slot.view_is) (c.turn_back.ensures.walked c.args.kept.now.slots root ids w)

pub returns-in_ok-push-in-None-clause-next : goal.returns-in_ok-push-in-None-clause-next
returns-in_ok-push-in-None-clause-next c =
    let stop : Stop = record { number = c.slot.inside.number; mark = 0 } in
    let items : c.push.new.self.items ≡ stop ∷ [] = grind (arith, common_steps) in
    record {
      slot = c.in-Some.slot.now;
      found = sym c.in-Some.ensures;
      ends = record { stop = stop; last = ap last_stop items; number_is = ap (λ (t : Slot). t.number) c.slot.view_is };
    }

pub returns-in-Some-origin-clause-walked : goal.returns-in-Some-origin-clause-walked
returns-in-Some-origin-clause-walked c = c.turn_back.ensures.walked c.args.kept.now.slots

pub returns-in-Some-origin-clause-next : goal.returns-in-Some-origin-clause-next
returns-in-Some-origin-clause-next c = record {
  slot = c.in-Some.slot.now;
  found = sym c.in-Some.ensures;
  change = c.in-Some-origin.origin.change;
  origin =
      sym (ap (λ (t : Slot). t.origin) c.slot.view_is)
      ∙ c.in-Some-origin.is
      ∙ ap (λ n. Some (let o : Origin = record { parent = n; change = c.in-Some-origin.origin.change } in o)) (sym c.parent.ensures);
}

pub returns-in_ok-push-in-None-clause-domain : goal.returns-in_ok-push-in-None-clause-domain
returns-in_ok-push-in-None-clause-domain c = grind (arith, common_steps)

pub returns-then-turn_back-clause-next : goal.returns-then-turn_back-clause-next
returns-then-turn_back-clause-next c = grind (arith, common_steps)

pub returns-in_default-clause-next : goal.returns-in_default-clause-next
returns-in_default-clause-next c = grind (arith, common_steps)

pub returns-in-Some-origin-clause-domain : goal.returns-in-Some-origin-clause-domain
returns-in-Some-origin-clause-domain c = grind (arith, common_steps)

pub returns-then-turn_back-clause-domain : goal.returns-then-turn_back-clause-domain
returns-then-turn_back-clause-domain c = grind (arith, common_steps)

pub invariant_of-self-in-None : goal.invariant_of-self-in-None
invariant_of-self-in-None c =
    let stop : Stop = record { number = c.slot.inside.number; mark = c.start-mark.result } in
    let items : c.push.new.self.items ≡ stop ∷ [] = c.in_ok-push-in-None.ensures.items
    ∙ ap (λ l. l ++ stop ∷ []) c.clear.ensures.items in
    subst (λ l. AreRising l × AreHeld c.self.inside.domain l) (sym items)
    (one_rises c.self.inside.domain stop c.start-mark.ensures)

pub returns-in_err-push-in-None-clause-domain : goal.returns-in_err-push-in-None-clause-domain
returns-in_err-push-in-None-clause-domain c = grind (arith, common_steps)

pub same-self : goal.same-self
same-self c = grind (arith, common_steps)

pub returns-in_default-clause-domain : goal.returns-in_default-clause-domain
returns-in_default-clause-domain c = grind (arith, common_steps)

pub returns-in_default-clause-walked : goal.returns-in_default-clause-walked
returns-in_default-clause-walked c = grind (arith, common_steps)

pub returns-in_err-push-in-None-clause-walked : goal.returns-in_err-push-in-None-clause-walked
returns-in_err-push-in-None-clause-walked c = λ root ids w.
    walked_take root c.args.kept.now.slots ids 0 c.turn_back.new.self
    (let new : Way = record { domain = c.self.inside.domain; stops = c.push.new.self.items } in new)
    (ap (λ (t : Way). t.domain) c.self.view_is)
    (c.in_err-push-in-None.ensures.items ∙ c.clear.ensures.items)
    (c.turn_back.ensures.walked c.args.kept.now.slots root ids w)

pub returns-in_err-push-in-None-clause-next : goal.returns-in_err-push-in-None-clause-next
returns-in_err-push-in-None-clause-next c = IfOk-from_err c.from_residual.result _ c.from_residual.ensures.0

pub invariant_of-self : goal.invariant_of-self
invariant_of-self c =
    subst (λ l. AreRising l × AreHeld c.self.inside.domain l)
    (sym (c.in_err-push-in-None.ensures.items ∙ c.clear.ensures.items)) (none_rise c.self.inside.domain)
