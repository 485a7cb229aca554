use Rattle.std.proofs.lemmas.Grind.{common_steps}
use Rattle.std.proofs.Common.{◌∙◌, sym, subst, MatchOption, arith}
use Rattle.cip_tree.specs.Walks.{EndsThere, IsParent, Climbs}
use Rattle.cip_tree.proofs.Walking.{climbs_more, parent_kept, parent_lower}
use Rattle.std.proofs.lemmas.Result.{IfOk-from_err}
use Rattle.cip_tree.proofs.walks.Walk.climb.Goals as goal

pub returns-in_err-parent-clause-walked : goal.returns-in_err-parent-clause-walked
returns-in_err-parent-clause-walked c = λ root ids w. c.parent_past.ensures.walked root ids (c.loop-places.invariant.walked root ids w)

pub returns-in_err-push-clause-walked : goal.returns-in_err-push-clause-walked
returns-in_err-push-clause-walked c = λ root ids w. c.parent_past.ensures.walked root ids (c.loop-places.invariant.walked root ids w)

pub returns-clause-walked : goal.returns-clause-walked
returns-clause-walked c = λ root ids w. c.parent_past.ensures.walked root ids (c.loop-places.invariant.walked root ids w)

pub loop-places-smaller : goal.loop-places-smaller
loop-places-smaller c =
    let p = subst (λ o. MatchOption o (EndsThere c.args.kept.now.slots c.parent_past.new.self.stops c.loop-places.top) (IsParent c.args.kept.now.slots c.loop-places.top)) c.in-Some.is c.in_ok-parent.ensures.next in
    parent_lower c.args.kept.now.slots c.loop-places.top c.in-Some.parent c.requires.kept p

pub loop-places-preserved : goal.loop-places-preserved
loop-places-preserved c =
    let p = subst (λ o. MatchOption o (EndsThere c.args.kept.now.slots c.parent_past.new.self.stops c.loop-places.top) (IsParent c.args.kept.now.slots c.loop-places.top)) c.in-Some.is c.in_ok-parent.ensures.next in
    let h = parent_kept c.args.kept.now.slots c.loop-places.top c.in-Some.parent c.requires.kept p in
    record {
      domain = c.parent_past.ensures.domain ∙ c.loop-places.invariant.domain;
      walked = λ root ids w. c.parent_past.ensures.walked root ids (c.loop-places.invariant.walked root ids w);
      climbs = subst (λ l. Climbs c.args.kept.now.slots c.args.place l c.in-Some.parent) (sym c.in_ok-push.ensures.items) (climbs_more c.args.kept.now.slots c.args.place c.loop-places.places.items c.loop-places.top c.in-Some.parent c.loop-places.invariant.climbs p);
      slot = h.parent;
      found = h.found;
    }

pub returns-clause-ends : goal.returns-clause-ends
returns-clause-ends c = grind (arith, common_steps)

pub returns-clause-domain : goal.returns-clause-domain
returns-clause-domain c = grind (arith, common_steps)

pub loop-places-init : goal.loop-places-init
loop-places-init c = grind (arith, common_steps)

pub returns-in_err-push-clause-domain : goal.returns-in_err-push-clause-domain
returns-in_err-push-clause-domain c = grind (arith, common_steps)

pub returns-clause-climbs : goal.returns-clause-climbs
returns-clause-climbs c = grind (arith, common_steps)

pub returns-in_err-parent-clause-domain : goal.returns-in_err-parent-clause-domain
returns-in_err-parent-clause-domain c = grind (arith, common_steps)

pub parent_past-requires-clause-slot : goal.parent_past-requires-clause-slot
parent_past-requires-clause-slot c = grind (arith, common_steps)

pub returns-in_err-push-clause-ends : goal.returns-in_err-push-clause-ends
returns-in_err-push-clause-ends c = IfOk-from_err c.from_residual-in_err-push.result _
    c.from_residual-in_err-push.ensures.0

pub returns-in_err-push-clause-climbs : goal.returns-in_err-push-clause-climbs
returns-in_err-push-clause-climbs c = IfOk-from_err c.from_residual-in_err-push.result _
    c.from_residual-in_err-push.ensures.0
