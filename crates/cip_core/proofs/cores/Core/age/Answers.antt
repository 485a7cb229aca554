use Rattle.std.proofs.Common.{◌≡◌, sym, ap, subst}
use Rattle.cip_rows.specs.RowPools.{Pool}
use Rattle.cip_core.specs.CoreStates.{CoreState, IsSound, IsTakenUp}
use Rattle.cip_core.specs.Steps.{aged}
use Rattle.cip_core.proofs.CoreSteps.{up_aged, sound_aged}
use Rattle.cip_core.proofs.cores.Core.age.Goals as goal

pub invariant_of-self : goal.invariant_of-self
invariant_of-self c =
    let core : CoreState = record { program = c.self.inside.program.now; reduced = c.self.inside.reduced.now; steps = c.self.inside.steps.now; pool = c.self.inside.pool; tree = c.self.inside.tree; incumbent = c.self.inside.incumbent; touched = c.self.inside.touched } in
    (subst (λ (p : Pool). IsSound (record core { pool = p })) (sym c.age.ensures) (sound_aged core c.self.invariant.0), c.self.invariant.1)

pub returns-clause-frame : goal.returns-clause-frame
returns-clause-frame c =
    let core : CoreState = record { program = c.self.inside.program.now; reduced = c.self.inside.reduced.now; steps = c.self.inside.steps.now; pool = c.self.inside.pool; tree = c.self.inside.tree; incumbent = c.self.inside.incumbent; touched = c.self.inside.touched } in
    let same : core ≡ c.args.self.now = c.self.view_is in
    subst (λ (o : CoreState). record core { pool = c.age.new.self } ≡ record o { pool = aged o.pool }) same (ap (λ (p : Pool). record core { pool = p }) c.age.ensures)

pub returns-clause-up : goal.returns-clause-up
returns-clause-up c = λ node up.
    let core : CoreState = record { program = c.self.inside.program.now; reduced = c.self.inside.reduced.now; steps = c.self.inside.steps.now; pool = c.self.inside.pool; tree = c.self.inside.tree; incumbent = c.self.inside.incumbent; touched = c.self.inside.touched } in
    let same : core ≡ c.args.self.now = c.self.view_is in
    up_aged core c.age.new.self node (subst (λ (o : CoreState). IsTakenUp o node) (sym same) up)
