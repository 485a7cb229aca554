use Rattle.std.proofs.lemmas.Grind.{common_steps}
use Rattle.std.proofs.Common.{◌≡◌, ◌∷◌, sym, subst, arith}
use Rattle.std.specs.List.Sorted.{IsPermutation}
use Rattle.cip_tree.specs.Nodes.{TakenNode, shown}
use Rattle.cip_core.specs.CoreStates.{CoreState, IsTakenUp, IsGivenBound}
use Rattle.cip_core.specs.Steps.{IsBack, IsTrimmed}
use Rattle.cip_core.proofs.CoreSteps.{with_tree, gone_back, sound_tree}
use Rattle.cip_core.proofs.cores.Core.go_back.Goals as goal

pub returns-clause-back : goal.returns-clause-back
returns-clause-back c =
    let core : CoreState = record { program = c.self.inside.program.now; reduced = c.self.inside.reduced.now; steps = c.self.inside.steps.now; pool = c.self.inside.pool; tree = c.self.inside.tree; incumbent = c.self.inside.incumbent; touched = c.self.inside.touched } in
    let same : core ≡ c.args.self.now = c.self.view_is in
    let node = c.args.node in
    let bound = c.args.bound in
    let up = subst (λ (o : CoreState). IsTakenUp o node) (sym same) c.requires.up in
    let given = subst (λ (o : CoreState). IsGivenBound o node.number bound) (sym same) c.requires.given in
    let back = c.put_back.new.self in
    let tree = c.let_go.new.tree in
    let nodes = subst (λ (n : TakenNode). IsPermutation (shown core.tree n ∷ core.tree.open_) back.open_) c.give_bound.ensures c.put_back.ensures.nodes in
    let trimmed = subst (IsTrimmed back tree) c.cost_of-held.ensures c.let_go.ensures in
    subst (λ (o : CoreState). IsBack o (with_tree core tree) node.number bound) same (gone_back core node bound back tree up given nodes c.put_back.ensures.rest trimmed)

pub put_back-requires : goal.put_back-requires
put_back-requires c = grind (arith, common_steps)

pub returns-clause-frame : goal.returns-clause-frame
returns-clause-frame c = grind (arith, common_steps)

pub invariant_of-self : goal.invariant_of-self
invariant_of-self c =
    let core : CoreState = record { program = c.self.inside.program.now; reduced = c.self.inside.reduced.now; steps = c.self.inside.steps.now; pool = c.self.inside.pool; tree = c.self.inside.tree; incumbent = c.self.inside.incumbent; touched = c.self.inside.touched } in
    (sound_tree core _ c.self.invariant.0, c.self.invariant.1)
