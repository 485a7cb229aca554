use Rattle.std.proofs.lemmas.Grind.{common_steps}
use Rattle.std.proofs.Common.{Some, sym, subst, arith}
use Rattle.std.specs.Prelude.{MatchBool}
use Rattle.cip_rational.specs.Rational.{IsWhole}
use Rattle.cip_problem.specs.Cuts.{HasWholeCosts}
use Rattle.cip_problem.specs.Improving.{IsBoundIn}
use Rattle.cip_search.specs.Searched.{NoMore}
use Rattle.cip_search.proofs.Bounds.{no_more_itself}
use Rattle.cip_tree.specs.Nodes.{TakenNode, box_of}
use Rattle.cip_core.specs.CoreStates.{CoreState, reduced_of, held_of}
use Rattle.cip_core.specs.Later.{IsLaterAt}
use Rattle.cip_core.specs.Steps.{IsRaisedTo}
use Rattle.cip_core.proofs.Begun.{when_true}
use Rattle.cip_core.proofs.CoreSteps.{later_raised}
use Rattle.cip_core.proofs.Relations.{later_at_itself}
use Rattle.cip_core.proofs.Rounded.{rounded_holds, whole_rounded, raised_to}
use Rattle.cip_core.proofs.cores.Core.raise.Goals as goal

pub returns-then-is_weaker-clause-later : goal.returns-then-is_weaker-clause-later
returns-then-is_weaker-clause-later c =
    let core = c.args.self.now in
    let node = c.args.node.now in
    let rounded = c.rounded_bound-rounded.result in
    let test = c.self.inside.whole_costs in
    let whole = subst (λ (o : CoreState). MatchBool test (HasWholeCosts o.reduced) (¬ HasWholeCosts o.reduced)) c.self.view_is c.self.invariant.1.whole in
    let holds = subst (IsBoundIn (reduced_of core) (held_of core) (box_of core.tree node)) (sym c.rounded_bound-rounded.ensures)
    (rounded_holds (reduced_of core) (held_of core) (box_of core.tree node) c.args.bound test (when_true test whole) c.requires.holds) in
    let weaker = subst (λ b. NoMore b (Some rounded)) c.bound.ensures c.if-is_weaker.ensures in
    subst (λ n. IsLaterAt core node core n) (sym c.raise.ensures)
    (later_raised core node rounded c.requires.at_work holds weaker (λ h. subst IsWhole (sym c.rounded_bound-rounded.ensures) (whole_rounded c.args.bound (HasWholeCosts (reduced_of core)) test whole h)))

pub returns-then-is_weaker-clause-raised : goal.returns-then-is_weaker-clause-raised
returns-then-is_weaker-clause-raised c =
    let core = c.args.self.now in
    let rounded = c.rounded_bound-rounded.result in
    let test = c.self.inside.whole_costs in
    let whole = subst (λ (o : CoreState). MatchBool test (HasWholeCosts o.reduced) (¬ HasWholeCosts o.reduced)) c.self.view_is c.self.invariant.1.whole in
    subst (λ (n : TakenNode). IsRaisedTo core c.args.bound n.bound) (sym c.raise.ensures)
    (raised_to core c.args.bound rounded test (Some rounded) whole c.rounded_bound-rounded.ensures (no_more_itself (Some rounded)))

pub returns-else-is_weaker-clause-later : goal.returns-else-is_weaker-clause-later
returns-else-is_weaker-clause-later c = later_at_itself c.args.self.now c.args.node.now c.requires.at_work

pub returns-else-is_weaker-clause-raised : goal.returns-else-is_weaker-clause-raised
returns-else-is_weaker-clause-raised c =
    let core = c.args.self.now in
    let rounded = c.rounded_bound-rounded.result in
    let test = c.self.inside.whole_costs in
    let whole = subst (λ (o : CoreState). MatchBool test (HasWholeCosts o.reduced) (¬ HasWholeCosts o.reduced)) c.self.view_is c.self.invariant.1.whole in
    raised_to core c.args.bound rounded test c.args.node.now.bound whole c.rounded_bound-rounded.ensures (subst (NoMore (Some rounded)) c.bound.ensures c.if-is_weaker.ensures)

pub returns-then-is_weaker-clause-node : goal.returns-then-is_weaker-clause-node
returns-then-is_weaker-clause-node c = grind (arith, common_steps)

pub returns-else-is_weaker-clause-node : goal.returns-else-is_weaker-clause-node
returns-else-is_weaker-clause-node c = grind (arith, common_steps)
