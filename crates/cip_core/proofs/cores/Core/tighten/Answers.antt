use Rattle.std.proofs.Common.{◌≡◌, sym, subst, arith}
use Rattle.std.specs.Prelude.{MatchResult}
use Rattle.cip_core.specs.CoreStates.{CoreState, IsAtWork}
use Rattle.cip_core.specs.Later.{IsLaterAt}
use Rattle.cip_core.specs.SidesTold.{IsSideTold, IsSideTaken}
use Rattle.cip_core.proofs.CoreSteps.{work_long}
use Rattle.cip_core.proofs.SidesTightened.{sound_told, taken_told, later_told}
use Rattle.cip_core.proofs.cores.Core.tighten.Goals as goal

pub tighten-told-requires-clause-work : goal.tighten-told-requires-clause-work
tighten-told-requires-clause-work c =
    let core : CoreState = record { program = c.self.inside.program.now; reduced = c.self.inside.reduced.now; steps = c.self.inside.steps.now; pool = c.self.inside.pool; tree = c.self.inside.tree; incumbent = c.self.inside.incumbent; touched = c.self.inside.touched } in
    let same : core ≡ c.args.self.now = c.self.view_is in
    (subst (λ (o : CoreState). IsAtWork o c.args.node.now) (sym same) c.requires.at_work).region

pub tighten-told-requires-clause-column : goal.tighten-told-requires-clause-column
tighten-told-requires-clause-column c =
    let core : CoreState = record { program = c.self.inside.program.now; reduced = c.self.inside.reduced.now; steps = c.self.inside.steps.now; pool = c.self.inside.pool; tree = c.self.inside.tree; incumbent = c.self.inside.incumbent; touched = c.self.inside.touched } in
    let same : core ≡ c.args.self.now = c.self.view_is in
    let w = subst (λ (o : CoreState). IsAtWork o c.args.node.now) (sym same) c.requires.at_work in
    let told = subst (λ (o : CoreState). IsSideTold o c.args.node.now c.args.col c.args.side c.args.value) (sym same) c.requires.told in
    omega (arith, told.inside, work_long core c.args.node.now c.columns-columns.ensures.formed w)

pub invariant_of-self : goal.invariant_of-self
invariant_of-self c =
    let core : CoreState = record { program = c.self.inside.program.now; reduced = c.self.inside.reduced.now; steps = c.self.inside.steps.now; pool = c.self.inside.pool; tree = c.self.inside.tree; incumbent = c.self.inside.incumbent; touched = c.self.inside.touched } in
    (sound_told core c.args.node.now c.tighten-told.new.node c.args.col c.args.side c.args.value c.tighten-told.new.self c.touched_by-self-inside.result c.tighten-told.result c.touched_by-self-inside.ensures c.self.invariant.0, c.self.invariant.1)

pub returns-clause-tightened : goal.returns-clause-tightened
returns-clause-tightened c =
    let core : CoreState = record { program = c.self.inside.program.now; reduced = c.self.inside.reduced.now; steps = c.self.inside.steps.now; pool = c.self.inside.pool; tree = c.self.inside.tree; incumbent = c.self.inside.incumbent; touched = c.self.inside.touched } in
    let same : core ≡ c.args.self.now = c.self.view_is in
    let node = c.args.node.now in
    let has = c.tighten-told.new.node in
    let tree = c.tighten-told.new.self in
    let touched = c.touched_by-self-inside.result in
    let told = c.tighten-told.result in
    subst (λ (o : CoreState). MatchResult told (IsSideTaken o (record core { tree = tree; touched = touched }) node has c.args.col c.args.side c.args.value) (λ _. (record core { tree = tree; touched = touched } ≡ o) × (has ≡ node))) same
    (taken_told core node has c.args.col c.args.side c.args.value tree touched told c.touched_by-self-inside.ensures c.tighten-told.ensures.outcome c.tighten-told.ensures.tightened)

pub returns-clause-later : goal.returns-clause-later
returns-clause-later c =
    let core : CoreState = record { program = c.self.inside.program.now; reduced = c.self.inside.reduced.now; steps = c.self.inside.steps.now; pool = c.self.inside.pool; tree = c.self.inside.tree; incumbent = c.self.inside.incumbent; touched = c.self.inside.touched } in
    let same : core ≡ c.args.self.now = c.self.view_is in
    let node = c.args.node.now in
    let has = c.tighten-told.new.node in
    let tree = c.tighten-told.new.self in
    let touched = c.touched_by-self-inside.result in
    let w = subst (λ (o : CoreState). IsAtWork o node) (sym same) c.requires.at_work in
    let side = subst (λ (o : CoreState). IsSideTold o node c.args.col c.args.side c.args.value) (sym same) c.requires.told in
    subst (λ (o : CoreState). IsLaterAt o node (record core { tree = tree; touched = touched }) has) same
    (later_told core node has c.args.col c.args.side c.args.value tree touched c.tighten-told.result c.touched_by-self-inside.ensures w side c.tighten-told.ensures.tightened)
