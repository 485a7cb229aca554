use Rattle.std.proofs.lemmas.Grind.{common_steps}
use Rattle.std.proofs.Common.{◌≡◌, ◌∙◌, if◌then◌else◌, length, sym, ap, subst, arith}
use Rattle.std.specs.Prelude.{MatchResult}
use Rattle.cip_problem.specs.Cuts.{row_of}
use Rattle.cip_problem.specs.Improving.{IsValid}
use Rattle.cip_problem.specs.Aggregate.{Inequality}
use Rattle.cip_cert.specs.Resting.{valid_below}
use Rattle.cip_rows.specs.Adding.{IsAdded}
use Rattle.cip_core.specs.CoreStates.{CoreState, reduced_of, held_of, IsAtWork}
use Rattle.cip_core.specs.Later.{IsLaterAt}
use Rattle.cip_core.specs.RowsAsked.{scope_of}
use Rattle.cip_core.proofs.RowsAdded.{scope_long, with_pool, sound_given, later_pooled}
use Rattle.cip_core.proofs.cores.Core.add_valid.Goals as goal

pub add-requires-clause-columns : goal.add-requires-clause-columns
add-requires-clause-columns c =
    let core : CoreState = record { program = c.self.inside.program.now; reduced = c.self.inside.reduced.now; steps = c.self.inside.steps.now; pool = c.self.inside.pool; tree = c.self.inside.tree; incumbent = c.self.inside.incumbent; touched = c.self.inside.touched } in
    let same : core ≡ c.args.self.now = c.self.view_is in
    let node = c.args.node.now in
    let local = c.args.local in
    let w = subst (λ (o : CoreState). IsAtWork o node) (sym same) c.requires.at_work in
    let boxed : c.scope-bounds.result.now ≡ scope_of core local = c.scope-bounds.ensures ∙ ap (λ b. if local then b else c.bounds-2.result.now) c.bounds.ensures ∙ ap (λ b. if local then core.tree.work.box else b) c.bounds-2.ensures.bounds in
    ap length boxed ∙ scope_long core node local c.columns-columns.ensures.formed w ∙ sym c.self.invariant.0.same

pub invariant_of-self : goal.invariant_of-self
invariant_of-self c =
    let core : CoreState = record { program = c.self.inside.program.now; reduced = c.self.inside.reduced.now; steps = c.self.inside.steps.now; pool = c.self.inside.pool; tree = c.self.inside.tree; incumbent = c.self.inside.incumbent; touched = c.self.inside.touched } in
    let same : core ≡ c.args.self.now = c.self.view_is in
    let node = c.args.node.now in
    let local = c.args.local in
    let w = subst (λ (o : CoreState). IsAtWork o node) (sym same) c.requires.at_work in
    let boxed : c.scope-bounds.result.now ≡ scope_of core local = c.scope-bounds.ensures ∙ ap (λ b. if local then b else c.bounds-2.result.now) c.bounds.ensures ∙ ap (λ b. if local then core.tree.work.box else b) c.bounds-2.ensures.bounds in
    let rests = c.args.rests in
    let row : Inequality = record { coefficients = c.args.scratch.now.row.entries; least = c.args.least } in
    let added = subst (λ b. MatchResult c.add.result (IsAdded core.pool (row_of row) b rests c.add.new.self) (λ _. c.add.new.self ≡ core.pool)) boxed c.add.ensures.added in
    let valid = subst (λ (o : CoreState). IsValid (reduced_of o) (valid_below (held_of o) rests) (scope_of o local) row) (sym same) c.requires.valid in
    (sound_given core c.add.new.self row (scope_of core local) rests c.add.result added valid c.self.invariant.0, c.self.invariant.1)

pub returns-clause-added : goal.returns-clause-added
returns-clause-added c =
    let core : CoreState = record { program = c.self.inside.program.now; reduced = c.self.inside.reduced.now; steps = c.self.inside.steps.now; pool = c.self.inside.pool; tree = c.self.inside.tree; incumbent = c.self.inside.incumbent; touched = c.self.inside.touched } in
    let same : core ≡ c.args.self.now = c.self.view_is in
    let local = c.args.local in
    let boxed : c.scope-bounds.result.now ≡ scope_of core local = c.scope-bounds.ensures ∙ ap (λ b. if local then b else c.bounds-2.result.now) c.bounds.ensures ∙ ap (λ b. if local then core.tree.work.box else b) c.bounds-2.ensures.bounds in
    let rests = c.args.rests in
    let row : Inequality = record { coefficients = c.args.scratch.now.row.entries; least = c.args.least } in
    subst (λ (o : CoreState). MatchResult c.add.result (IsAdded o.pool (row_of row) (scope_of o local) rests c.add.new.self) (λ _. c.add.new.self ≡ o.pool)) same
    (subst (λ b. MatchResult c.add.result (IsAdded core.pool (row_of row) b rests c.add.new.self) (λ _. c.add.new.self ≡ core.pool)) boxed c.add.ensures.added)

pub returns-clause-later : goal.returns-clause-later
returns-clause-later c =
    let core : CoreState = record { program = c.self.inside.program.now; reduced = c.self.inside.reduced.now; steps = c.self.inside.steps.now; pool = c.self.inside.pool; tree = c.self.inside.tree; incumbent = c.self.inside.incumbent; touched = c.self.inside.touched } in
    let same : core ≡ c.args.self.now = c.self.view_is in
    let node = c.args.node.now in
    let local = c.args.local in
    let w = subst (λ (o : CoreState). IsAtWork o node) (sym same) c.requires.at_work in
    subst (λ (o : CoreState). IsLaterAt o node (with_pool core c.add.new.self) node) same (later_pooled core c.add.new.self node w)

pub add-requires-clause-coefficients : goal.add-requires-clause-coefficients
add-requires-clause-coefficients c = grind (arith, common_steps)

pub returns-clause-frame : goal.returns-clause-frame
returns-clause-frame c = grind (arith, common_steps)
