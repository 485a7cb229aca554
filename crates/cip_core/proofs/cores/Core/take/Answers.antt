use Rattle.std.proofs.lemmas.Grind.{common_steps}
use Rattle.std.proofs.Common.{◌≡◌, [], MatchOption, sym, ap, subst, arith}
use Rattle.cip_tree.specs.Nodes.{Nodes}
use Rattle.cip_tree.specs.Moves.{TakesFirst}
use Rattle.cip_core.specs.CoreStates.{CoreState, IsKeptIn, IsTakenUp, IsGivenBound}
use Rattle.cip_core.proofs.CoreSteps.{with_tree, took, took_given, sound_tree}
use Rattle.cip_core.proofs.cores.Core.take.Goals as goal

pub returns-clause-up : goal.returns-clause-up
returns-clause-up c =
    let core = c.args.self.now in
    let tree = c.next.new.self in
    let first = subst (λ (t : Nodes). MatchOption c.next.result ((t.open_ ≡ []) × (tree ≡ t)) (TakesFirst t tree)) (ap (λ (o : CoreState). o.tree) c.self.view_is) c.next.ensures in
    subst (λ (o : CoreState). MatchOption c.next.result (IsKeptIn (with_tree o tree) []) (IsTakenUp (with_tree o tree))) (sym c.self.view_is) (took core tree c.next.result first c.requires)

pub returns-clause-given : goal.returns-clause-given
returns-clause-given c =
    let core = c.args.self.now in
    let tree = c.next.new.self in
    let first = subst (λ (t : Nodes). MatchOption c.next.result ((t.open_ ≡ []) × (tree ≡ t)) (TakesFirst t tree)) (ap (λ (o : CoreState). o.tree) c.self.view_is) c.next.ensures in
    subst (λ (o : CoreState). MatchOption c.next.result (IsKeptIn (with_tree o tree) []) (λ node. IsGivenBound (with_tree o tree) node.number node.bound)) (sym c.self.view_is) (took_given core tree c.next.result first c.requires)

pub returns-clause-frame : goal.returns-clause-frame
returns-clause-frame c = grind (arith, common_steps)

pub returns-clause-first : goal.returns-clause-first
returns-clause-first c = grind (arith, common_steps)

pub invariant_of-self : goal.invariant_of-self
invariant_of-self c =
    let core : CoreState = record { program = c.self.inside.program.now; reduced = c.self.inside.reduced.now; steps = c.self.inside.steps.now; pool = c.self.inside.pool; tree = c.self.inside.tree; incumbent = c.self.inside.incumbent; touched = c.self.inside.touched } in
    (sound_tree core _ c.self.invariant.0, c.self.invariant.1)
