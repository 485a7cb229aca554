use Rattle.std.proofs.lemmas.Grind.{common_steps}
use Rattle.std.proofs.Common.{◌≡◌, ◌++◌, ◌∷◌, [], sym, ap, subst, arith}
use Rattle.cip_tree.specs.Nodes.{Nodes, shown}
use Rattle.cip_core.specs.CoreStates.{CoreState}
use Rattle.cip_problem.specs.Log.{Parked}
use Rattle.cip_core.specs.Later.{IsLater}
use Rattle.cip_core.proofs.CoreSteps.{with_tree, endless_later, sound_tree}
use Rattle.cip_core.proofs.cores.Core.park_endless.Goals as goal

pub returns-clause-later : goal.returns-clause-later
returns-clause-later c =
    let core = c.args.self.now in
    let node = c.args.node in
    let tree = c.park.new.self in
    let rest = subst (λ (t : Nodes). tree ≡ record t { parked = t.parked ++ shown t node ∷ []; taken = tree.taken; log = t.log ++ record { node = node.number; bound = node.bound; end = Parked } ∷ [] }) (ap (λ (o : CoreState). o.tree) c.self.view_is) c.park.ensures.rest in
    subst (λ (o : CoreState). IsLater core (with_tree o tree)) (sym c.self.view_is) (endless_later core node tree c.requires rest)

pub park-requires : goal.park-requires
park-requires c = grind (arith, common_steps)

pub returns-clause-frame : goal.returns-clause-frame
returns-clause-frame c = grind (arith, common_steps)

pub returns-clause-logged : goal.returns-clause-logged
returns-clause-logged c = grind (arith, common_steps)

pub returns-clause-entry : goal.returns-clause-entry
returns-clause-entry c = grind (arith, common_steps)

pub returns-clause-ids : goal.returns-clause-ids
returns-clause-ids c = grind (arith, common_steps)

pub invariant_of-self : goal.invariant_of-self
invariant_of-self c =
    let core : CoreState = record { program = c.self.inside.program.now; reduced = c.self.inside.reduced.now; steps = c.self.inside.steps.now; pool = c.self.inside.pool; tree = c.self.inside.tree; incumbent = c.self.inside.incumbent; touched = c.self.inside.touched } in
    (sound_tree core _ c.self.invariant.0, c.self.invariant.1)
