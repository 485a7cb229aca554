use Rattle.std.proofs.lemmas.Grind.{common_steps}
use Rattle.std.proofs.Common.{◌≡◌, ◌++◌, ◌∷◌, [], sym, ap, subst, arith}
use Rattle.cip_tree.specs.Nodes.{Nodes}
use Rattle.cip_core.specs.CoreStates.{CoreState}
use Rattle.cip_problem.specs.Log.{Closed}
use Rattle.cip_core.specs.Steps.{HasLeft}
use Rattle.cip_core.proofs.CoreSteps.{with_tree, left_pruned, sound_tree}
use Rattle.cip_core.proofs.cores.Core.close_pruned.Goals as goal

pub returns-clause-left : goal.returns-clause-left
returns-clause-left c =
    let core = c.args.self.now in
    let node = c.args.node in
    let tree = c.close.new.self in
    let rest = subst (λ (t : Nodes). tree ≡ record t { taken = tree.taken; log = t.log ++ record { node = node.number; bound = node.bound; end = Closed } ∷ [] }) (ap (λ (o : CoreState). o.tree) c.self.view_is) c.close.ensures.rest in
    subst (λ (o : CoreState). HasLeft core (with_tree o tree) node Closed) (sym c.self.view_is) (left_pruned core node tree c.requires.up rest c.requires.passed)

pub close-requires : goal.close-requires
close-requires c = grind (arith, common_steps)

pub returns-clause-frame : goal.returns-clause-frame
returns-clause-frame c = grind (arith, common_steps)

pub invariant_of-self : goal.invariant_of-self
invariant_of-self c =
    let core : CoreState = record { program = c.self.inside.program.now; reduced = c.self.inside.reduced.now; steps = c.self.inside.steps.now; pool = c.self.inside.pool; tree = c.self.inside.tree; incumbent = c.self.inside.incumbent; touched = c.self.inside.touched } in
    (sound_tree core _ c.self.invariant.0, c.self.invariant.1)
