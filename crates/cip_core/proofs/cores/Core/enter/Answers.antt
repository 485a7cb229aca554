use Rattle.std.proofs.lemmas.Grind.{common_steps}
use Rattle.std.proofs.Common.{◌≡◌, IfOk, sym, subst, arith}
use Rattle.cip_tree.specs.Nodes.{Nodes, region_of}
use Rattle.cip_tree.specs.Walks.{IsEntered}
use Rattle.cip_core.specs.CoreStates.{CoreState, IsTakenUp}
use Rattle.cip_core.proofs.CoreSteps.{with_tree, up_entered, sound_tree}
use Rattle.cip_core.proofs.cores.Core.enter.Goals as goal

pub enter-requires : goal.enter-requires
enter-requires c =
    let core : CoreState = record { program = c.self.inside.program.now; reduced = c.self.inside.reduced.now; steps = c.self.inside.steps.now; pool = c.self.inside.pool; tree = c.self.inside.tree; incumbent = c.self.inside.incumbent; touched = c.self.inside.touched } in
    let same : core ≡ c.args.self.now = c.self.view_is in
    (subst (λ (o : CoreState). IsTakenUp o c.args.node.now) (sym same) c.requires).taken

pub returns-clause-entered : goal.returns-clause-entered
returns-clause-entered c =
    let tree = c.enter.new.self in
    subst (λ (t : Nodes). IfOk c.enter.result (IsEntered tree.work (region_of t c.args.node.now))) (sym c.enter.ensures.rest) c.enter.ensures.entered

pub returns-clause-up : goal.returns-clause-up
returns-clause-up c =
    let core : CoreState = record { program = c.self.inside.program.now; reduced = c.self.inside.reduced.now; steps = c.self.inside.steps.now; pool = c.self.inside.pool; tree = c.self.inside.tree; incumbent = c.self.inside.incumbent; touched = c.self.inside.touched } in
    let same : core ≡ c.args.self.now = c.self.view_is in
    let up = subst (λ (o : CoreState). IsTakenUp o c.args.node.now) (sym same) c.requires in
    subst (λ (t : Nodes). IsTakenUp (with_tree core t) c.args.node.now) (sym c.enter.ensures.rest) (up_entered core c.enter.new.self.work c.args.node.now up)

pub returns-clause-frame : goal.returns-clause-frame
returns-clause-frame c = grind (arith, common_steps)

pub invariant_of-self : goal.invariant_of-self
invariant_of-self c =
    let core : CoreState = record { program = c.self.inside.program.now; reduced = c.self.inside.reduced.now; steps = c.self.inside.steps.now; pool = c.self.inside.pool; tree = c.self.inside.tree; incumbent = c.self.inside.incumbent; touched = c.self.inside.touched } in
    (sound_tree core _ c.self.invariant.0, c.self.invariant.1)
