use Rattle.std.proofs.lemmas.Grind.{common_steps}
use Rattle.std.proofs.Common.{◌≡◌, ◌+◌, sym, subst, arith, to_z, of_z, ap, ◌∙◌}
use mir.Syntax.{w128}
use Rattle.std.proofs.lemmas.Int.{ints}
use Rattle.cip_problem.specs.Log.{Split}
use Rattle.cip_tree.specs.Nodes.{region_of as node_region}
use Rattle.cip_tree.specs.Moves.{IsSplit}
use Rattle.cip_core.specs.CoreStates.{CoreState, reduced_of, IsTakenUp, IsGivenBound}
use Rattle.cip_core.specs.KeptNodes.{farthest}
use Rattle.cip_core.specs.SplitPlaces.{IsSplitPlace}
use Rattle.cip_core.specs.Steps.{HasLeft, IsTrimmed, IsBack}
use Rattle.cip_core.proofs.CoreSteps.{with_tree, split_off, sound_tree}
use Rattle.cip_core.proofs.cores.Core.split.Goals as goal

pub returns-in-Ok-clause-split : goal.returns-in-Ok-clause-split
returns-in-Ok-clause-split c =
    let core : CoreState = record { program = c.self.inside.program.now; reduced = c.self.inside.reduced.now; steps = c.self.inside.steps.now; pool = c.self.inside.pool; tree = c.self.inside.tree; incumbent = c.self.inside.incumbent; touched = c.self.inside.touched } in
    let same : core ≡ c.args.self.now = c.self.view_is in
    let node = c.args.node in
    let at = c.args.at in
    let low = c.in-Ok.halves.0 in
    let high = c.in-Ok.halves.1 in
    let e : to_z w128 (of_z w128 at) ≡ at = omega (arith, ints) in
    let up = subst (λ (o : CoreState). IsTakenUp o node) (sym same) c.requires.at_work.up in
    let halved = c.split.new.self in
    let tree = c.let_go.new.tree in
    let s = subst (λ z. IsSplit core.tree halved node c.args.col z low high) e c.in-Ok.ensures in
    let place = subst (λ (o : CoreState). IsSplitPlace (reduced_of o).integral (node_region o.tree node) (farthest o.tree.ids + 1) c.args.col at) (sym same) c.requires.place.2 in
    let trimmed = subst (IsTrimmed halved tree) c.cost_of-held.ensures c.let_go.ensures in
    subst (λ (o : CoreState). HasLeft o (with_tree core tree) node (Split c.args.col at low high)) same (split_off core node c.args.col at low high halved tree up s place c.log-log.ensures.searched trimmed)

pub go_back-requires-clause-given : goal.go_back-requires-clause-given
go_back-requires-clause-given c =
    let core : CoreState = record { program = c.self.inside.program.now; reduced = c.self.inside.reduced.now; steps = c.self.inside.steps.now; pool = c.self.inside.pool; tree = c.self.inside.tree; incumbent = c.self.inside.incumbent; touched = c.self.inside.touched } in
    let back : with_tree core c.split.new.self ≡ c.args.self.now = ap (with_tree core) c.in-Err-NoMemory.ensures.0 ∙ c.self.view_is in
    subst (λ (o : CoreState). IsGivenBound o c.args.node.number c.args.given) (sym back) c.requires.given

pub go_back-requires-clause-up : goal.go_back-requires-clause-up
go_back-requires-clause-up c =
    let core : CoreState = record { program = c.self.inside.program.now; reduced = c.self.inside.reduced.now; steps = c.self.inside.steps.now; pool = c.self.inside.pool; tree = c.self.inside.tree; incumbent = c.self.inside.incumbent; touched = c.self.inside.touched } in
    let back : with_tree core c.split.new.self ≡ c.args.self.now = ap (with_tree core) c.in-Err-NoMemory.ensures.0 ∙ c.self.view_is in
    subst (λ (o : CoreState). IsTakenUp o c.args.node) (sym back) c.requires.at_work.up

pub invariant_of-self-in-Err-NoMemory : goal.invariant_of-self-in-Err-NoMemory
invariant_of-self-in-Err-NoMemory c = grind (arith, common_steps)

pub split-requires-clause-column : goal.split-requires-clause-column
split-requires-clause-column c = grind (arith, common_steps)

pub split-requires-clause-few : goal.split-requires-clause-few
split-requires-clause-few c = grind (arith, common_steps)

pub split-requires-clause-taken : goal.split-requires-clause-taken
split-requires-clause-taken c = grind (arith, common_steps)

pub split-requires-clause-wholes : goal.split-requires-clause-wholes
split-requires-clause-wholes c = grind (arith, common_steps)

pub split-requires-clause-work : goal.split-requires-clause-work
split-requires-clause-work c = grind (arith, common_steps)

pub returns-in-Err-NoMemory-clause-split : goal.returns-in-Err-NoMemory-clause-split
returns-in-Err-NoMemory-clause-split c =
    let core : CoreState = record { program = c.self.inside.program.now; reduced = c.self.inside.reduced.now; steps = c.self.inside.steps.now; pool = c.self.inside.pool; tree = c.self.inside.tree; incumbent = c.self.inside.incumbent; touched = c.self.inside.touched } in
    let back : with_tree core c.split.new.self ≡ c.args.self.now = ap (with_tree core) c.in-Err-NoMemory.ensures.0 ∙ c.self.view_is in
    subst (λ (o : CoreState). IsBack o c.go_back.new.self c.args.node.number c.args.given) back c.go_back.ensures.back

pub returns-in-Ok-clause-frame : goal.returns-in-Ok-clause-frame
returns-in-Ok-clause-frame c = ap (λ (o : CoreState). with_tree o c.let_go.new.tree) c.self.view_is

pub returns-in-Err-NoMemory-clause-frame : goal.returns-in-Err-NoMemory-clause-frame
returns-in-Err-NoMemory-clause-frame c = grind (arith, common_steps)

pub same-node : goal.same-node
same-node c = grind (arith, common_steps)

pub invariant_of-self : goal.invariant_of-self
invariant_of-self c =
    let core : CoreState = record { program = c.self.inside.program.now; reduced = c.self.inside.reduced.now; steps = c.self.inside.steps.now; pool = c.self.inside.pool; tree = c.self.inside.tree; incumbent = c.self.inside.incumbent; touched = c.self.inside.touched } in
    (sound_tree core c.let_go.new.tree c.self.invariant.0, c.self.invariant.1)
