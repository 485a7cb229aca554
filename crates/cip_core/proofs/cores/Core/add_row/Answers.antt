use Rattle.std.proofs.lemmas.Result.{MatchResult-from_err}
use Rattle.cip_cert.specs.Pool.{AreRising}
use Rattle.std.proofs.lemmas.Grind.{common_steps}
use Rattle.std.proofs.Common.{◌≡◌, ◌∙◌, List, Option, Some, length, Ok, sym, ap, subst, arith, true}
use Rattle.cip_problem.specs.Program.{Row}
use Rattle.cip_problem.specs.WellFormed.{columns}
use Rattle.cip_problem.specs.Cuts.{row_of}
use Rattle.cip_problem.specs.Aggregate.{Inequality}
use Rattle.cip_cert.specs.Checks.{derived}
use Rattle.cip_cert.specs.Lent.{Lent, Fits, multiples_of}
use Rattle.cip_cert.specs.Resting.{rests_on_cutoff}
use Rattle.cip_cert.specs.declared.rows.PoolRow.{PoolRow}
use Rattle.cip_rows.specs.Adding.{IsAdded}
use Rattle.cip_rows.proofs.ValidPools.{derived_added}
use Rattle.cip_core.specs.CoreStates.{CoreState, held_of, all_lent, IsFitted, IsAtWork}
use Rattle.cip_core.specs.CutoffRow.{cutoff_of}
use Rattle.cip_core.specs.Later.{IsLaterAt}
use Rattle.cip_core.specs.RowsAsked.{scope_of, derived_in, rests_in, IsTold}
use Rattle.cip_core.proofs.Relations.{later_at_itself}
use Rattle.cip_core.proofs.RowsAdded.{scope_is, scope_long, lent_there, lent_fits, with_pool, sound_added, sound_kept, later_pooled}
use Rattle.cip_core.proofs.cores.Core.add_row.Goals as goal

pub derive-requires-clause-fits : goal.derive-requires-clause-fits
derive-requires-clause-fits c =
    let core : CoreState = record { program = c.self.inside.program.now; reduced = c.self.inside.reduced.now; steps = c.self.inside.steps.now; pool = c.self.inside.pool; tree = c.self.inside.tree; incumbent = c.self.inside.incumbent; touched = c.self.inside.touched } in
    let same : core ≡ c.args.self.now = c.self.view_is in
    let node = c.args.node.now in
    let formed = c.columns-columns.ensures.formed in
    let w = subst (λ (o : CoreState). IsAtWork o node) (sym same) c.requires in
    let local = c.args.local in
    let long = scope_long core node local formed w in
    let boxed_in : c.scope-bounds.result.now ≡ scope_of core local = scope_is core local c.bounds.result.now c.bounds-2.result.now c.scope-bounds.result.now c.scope-bounds.ensures c.bounds.ensures c.bounds-2.ensures.bounds in
    let made : List Row → List PoolRow → Option Row → Lent = λ own pool cutoff. record { own = own; pool = pool; cutoff = cutoff } in
    let fits = lent_fits core c.self.invariant.0 c.rows-2.ensures.kept formed in
    let at = length c.scope-bounds.result.now in
    subst (λ o. Fits at (made o c.rows-2.result.now c.self.inside.cutoff)) (sym c.rows.ensures.rows)
    (subst (λ p. Fits at (made core.reduced.rows p c.self.inside.cutoff)) (sym c.rows-2.ensures.rows)
    (subst (λ k. Fits at (made core.reduced.rows core.pool.rows k)) (sym c.self.invariant.1.cutoff_is)
    (subst (λ n. Fits n (all_lent core)) (sym (ap length boxed_in ∙ long)) fits)))

pub derive-requires-clause-room : goal.derive-requires-clause-room
derive-requires-clause-room c =
    let core : CoreState = record { program = c.self.inside.program.now; reduced = c.self.inside.reduced.now; steps = c.self.inside.steps.now; pool = c.self.inside.pool; tree = c.self.inside.tree; incumbent = c.self.inside.incumbent; touched = c.self.inside.touched } in
    let same : core ≡ c.args.self.now = c.self.view_is in
    let node = c.args.node.now in
    let formed = c.columns-columns.ensures.formed in
    let w = subst (λ (o : CoreState). IsAtWork o node) (sym same) c.requires in
    let local = c.args.local in
    let long = scope_long core node local formed w in
    let boxed_in : c.scope-bounds.result.now ≡ scope_of core local = scope_is core local c.bounds.result.now c.bounds-2.result.now c.scope-bounds.result.now c.scope-bounds.ensures c.bounds.ensures c.bounds-2.ensures.bounds in
    omega (arith, ap length boxed_in, long, c.self.invariant.1.wide)

pub derive-requires-clause-flags : goal.derive-requires-clause-flags
derive-requires-clause-flags c =
    let core : CoreState = record { program = c.self.inside.program.now; reduced = c.self.inside.reduced.now; steps = c.self.inside.steps.now; pool = c.self.inside.pool; tree = c.self.inside.tree; incumbent = c.self.inside.incumbent; touched = c.self.inside.touched } in
    let same : core ≡ c.args.self.now = c.self.view_is in
    let node = c.args.node.now in
    let formed = c.columns-columns.ensures.formed in
    let w = subst (λ (o : CoreState). IsAtWork o node) (sym same) c.requires in
    let local = c.args.local in
    let long = scope_long core node local formed w in
    let boxed_in : c.scope-bounds.result.now ≡ scope_of core local = scope_is core local c.bounds.result.now c.bounds-2.result.now c.scope-bounds.result.now c.scope-bounds.ensures c.bounds.ensures c.bounds-2.ensures.bounds in
    ap length c.whole.ensures.whole ∙ formed.integral ∙ sym long ∙ sym (ap length boxed_in)

pub add-requires-clause-columns : goal.add-requires-clause-columns
add-requires-clause-columns c =
    let core : CoreState = record { program = c.self.inside.program.now; reduced = c.self.inside.reduced.now; steps = c.self.inside.steps.now; pool = c.self.inside.pool; tree = c.self.inside.tree; incumbent = c.self.inside.incumbent; touched = c.self.inside.touched } in
    let same : core ≡ c.args.self.now = c.self.view_is in
    let node = c.args.node.now in
    let formed = c.columns-columns.ensures.formed in
    let w = subst (λ (o : CoreState). IsAtWork o node) (sym same) c.requires in
    let local = c.args.local in
    let long = scope_long core node local formed w in
    let boxed_in : c.scope-bounds.result.now ≡ scope_of core local = scope_is core local c.bounds.result.now c.bounds-2.result.now c.scope-bounds.result.now c.scope-bounds.ensures c.bounds.ensures c.bounds-2.ensures.bounds in
    ap length boxed_in ∙ long ∙ sym c.self.invariant.0.same

pub returns-in_err-added-in-Ok-clause-later : goal.returns-in_err-added-in-Ok-clause-later
returns-in_err-added-in-Ok-clause-later c =
    let core : CoreState = record { program = c.self.inside.program.now; reduced = c.self.inside.reduced.now; steps = c.self.inside.steps.now; pool = c.self.inside.pool; tree = c.self.inside.tree; incumbent = c.self.inside.incumbent; touched = c.self.inside.touched } in
    let same : core ≡ c.args.self.now = c.self.view_is in
    let node = c.args.node.now in
    let w = subst (λ (o : CoreState). IsAtWork o node) (sym same) c.requires in
    subst (λ (o : CoreState). IsLaterAt o node (with_pool core c.add.new.self) node) same (later_pooled core c.add.new.self node w)

pub returns-in-Err-clause-later : goal.returns-in-Err-clause-later
returns-in-Err-clause-later c =
    let core : CoreState = record { program = c.self.inside.program.now; reduced = c.self.inside.reduced.now; steps = c.self.inside.steps.now; pool = c.self.inside.pool; tree = c.self.inside.tree; incumbent = c.self.inside.incumbent; touched = c.self.inside.touched } in
    let same : core ≡ c.args.self.now = c.self.view_is in
    let node = c.args.node.now in
    let w = subst (λ (o : CoreState). IsAtWork o node) (sym same) c.requires in
    subst (λ (o : CoreState). IsLaterAt o node core node) same (later_at_itself core node w)

pub returns-in_ok-added-in-Ok-clause-later : goal.returns-in_ok-added-in-Ok-clause-later
returns-in_ok-added-in-Ok-clause-later c =
    let core : CoreState = record { program = c.self.inside.program.now; reduced = c.self.inside.reduced.now; steps = c.self.inside.steps.now; pool = c.self.inside.pool; tree = c.self.inside.tree; incumbent = c.self.inside.incumbent; touched = c.self.inside.touched } in
    let same : core ≡ c.args.self.now = c.self.view_is in
    let node = c.args.node.now in
    let w = subst (λ (o : CoreState). IsAtWork o node) (sym same) c.requires in
    subst (λ (o : CoreState). IsLaterAt o node (with_pool core c.add.new.self) node) same (later_pooled core c.add.new.self node w)

pub returns-in_ok-added-in-Ok-clause-asked : goal.returns-in_ok-added-in-Ok-clause-asked
returns-in_ok-added-in-Ok-clause-asked c =
    let core : CoreState = record { program = c.self.inside.program.now; reduced = c.self.inside.reduced.now; steps = c.self.inside.steps.now; pool = c.self.inside.pool; tree = c.self.inside.tree; incumbent = c.self.inside.incumbent; touched = c.self.inside.touched } in
    let same : core ≡ c.args.self.now = c.self.view_is in
    let local = c.args.local in
    let boxed_in : c.scope-bounds.result.now ≡ scope_of core local = scope_is core local c.bounds.result.now c.bounds-2.result.now c.scope-bounds.result.now c.scope-bounds.ensures c.bounds.ensures c.bounds-2.ensures.bounds in
    let made : List Row → List PoolRow → Option Row → Lent = λ own pool cutoff. record { own = own; pool = pool; cutoff = cutoff } in
    let combo = c.args.combo.now in
    let round = c.args.round in
    let row : Inequality = record { coefficients = c.derive.new.scratch.row.entries; least = c.in-Ok.least } in
    let n = columns core.reduced in
    let m = multiples_of combo in
    let integral = core.reduced.integral in
    let box = scope_of core local in
    let steps = subst (λ r. derived (made c.rows.result.now c.rows-2.result.now c.self.inside.cutoff) c.whole.result.now c.scope-bounds.result.now r m round ≡ Ok row) c.self.invariant.1.wide c.in-Ok.ensures.steps in
    let boxed = subst (λ b. derived (made c.rows.result.now c.rows-2.result.now c.self.inside.cutoff) c.whole.result.now b n m round ≡ Ok row) boxed_in steps in
    let flagged = subst (λ i. derived (made c.rows.result.now c.rows-2.result.now c.self.inside.cutoff) i box n m round ≡ Ok row) c.whole.ensures.whole boxed in
    let owned = subst (λ o. derived (made o c.rows-2.result.now c.self.inside.cutoff) integral box n m round ≡ Ok row) c.rows.ensures.rows flagged in
    let pooled = subst (λ p. derived (made core.reduced.rows p c.self.inside.cutoff) integral box n m round ≡ Ok row) c.rows-2.ensures.rows owned in
    let accepted : derived_in core combo round local ≡ Ok row = subst (λ k. derived (made core.reduced.rows core.pool.rows k) integral box n m round ≡ Ok row) c.self.invariant.1.cutoff_is pooled in
    let added = c.in_ok-added-in-Ok.added in
    let rests = c.rests_on_cutoff-rests.ensures ∙ ap (λ p. rests_on_cutoff p combo.rows.items) c.rows-in-Ok.ensures.rows in
    let is_added = subst (λ t. IsAdded core.pool (row_of row) box t c.add.new.self added) rests (subst (λ b. IsAdded core.pool (row_of row) b c.rests_on_cutoff-rests.result c.add.new.self added) boxed_in c.in_ok-added-in-Ok.ensures.added) in
    subst (λ (o : CoreState). IsTold o (with_pool core c.add.new.self) combo round local added) same (record { row = row; accepted = accepted; is_added = is_added })

pub invariant_of-self-in-Ok : goal.invariant_of-self-in-Ok
invariant_of-self-in-Ok c =
    let core : CoreState = record { program = c.self.inside.program.now; reduced = c.self.inside.reduced.now; steps = c.self.inside.steps.now; pool = c.self.inside.pool; tree = c.self.inside.tree; incumbent = c.self.inside.incumbent; touched = c.self.inside.touched } in
    let same : core ≡ c.args.self.now = c.self.view_is in
    let node = c.args.node.now in
    let formed = c.columns-columns.ensures.formed in
    let w = subst (λ (o : CoreState). IsAtWork o node) (sym same) c.requires in
    let local = c.args.local in
    let long = scope_long core node local formed w in
    let boxed_in : c.scope-bounds.result.now ≡ scope_of core local = scope_is core local c.bounds.result.now c.bounds-2.result.now c.scope-bounds.result.now c.scope-bounds.ensures c.bounds.ensures c.bounds-2.ensures.bounds in
    let made : List Row → List PoolRow → Option Row → Lent = λ own pool cutoff. record { own = own; pool = pool; cutoff = cutoff } in
    let fits = lent_fits core c.self.invariant.0 c.rows-2.ensures.kept formed in
    let combo = c.args.combo.now in
    let round = c.args.round in
    let row : Inequality = record { coefficients = c.derive.new.scratch.row.entries; least = c.in-Ok.least } in
    let n = columns core.reduced in
    let m = multiples_of combo in
    let integral = core.reduced.integral in
    let box = scope_of core local in
    let steps = subst (λ r. derived (made c.rows.result.now c.rows-2.result.now c.self.inside.cutoff) c.whole.result.now c.scope-bounds.result.now r m round ≡ Ok row) c.self.invariant.1.wide c.in-Ok.ensures.steps in
    let boxed = subst (λ b. derived (made c.rows.result.now c.rows-2.result.now c.self.inside.cutoff) c.whole.result.now b n m round ≡ Ok row) boxed_in steps in
    let flagged = subst (λ i. derived (made c.rows.result.now c.rows-2.result.now c.self.inside.cutoff) i box n m round ≡ Ok row) c.whole.ensures.whole boxed in
    let owned = subst (λ o. derived (made o c.rows-2.result.now c.self.inside.cutoff) integral box n m round ≡ Ok row) c.rows.ensures.rows flagged in
    let pooled = subst (λ p. derived (made core.reduced.rows p c.self.inside.cutoff) integral box n m round ≡ Ok row) c.rows-2.ensures.rows owned in
    let accepted : derived_in core combo round local ≡ Ok row = subst (λ k. derived (made core.reduced.rows core.pool.rows k) integral box n m round ≡ Ok row) c.self.invariant.1.cutoff_is pooled in
    let added = c.in_ok-added-in-Ok.added in
    let rests = c.rests_on_cutoff-rests.ensures ∙ ap (λ p. rests_on_cutoff p combo.rows.items) c.rows-in-Ok.ensures.rows in
    let is_added = subst (λ t. IsAdded core.pool (row_of row) box t c.add.new.self added) rests (subst (λ b. IsAdded core.pool (row_of row) b c.rests_on_cutoff-rests.result c.add.new.self added) boxed_in c.in_ok-added-in-Ok.ensures.added) in
    let valid = derived_added core.reduced (held_of core) core.pool (Some (cutoff_of core.reduced (held_of core))) box n m round row
    (subst (λ k. Fits k (all_lent core)) (sym long) fits) (omega (arith, long)) (lent_there core box c.self.invariant.0) accepted in (
      sound_added core c.add.new.self row box (rests_in core combo) added is_added valid c.self.invariant.0,
      subst (IsFitted core.reduced (held_of core) c.self.inside.cutoff c.self.inside.whole_costs) (sym c.in-Ok.ensures.columns) c.self.invariant.1,
    )

pub invariant_of-self-in_err-added-in-Ok : goal.invariant_of-self-in_err-added-in-Ok
invariant_of-self-in_err-added-in-Ok c =
    let core : CoreState = record { program = c.self.inside.program.now; reduced = c.self.inside.reduced.now; steps = c.self.inside.steps.now; pool = c.self.inside.pool; tree = c.self.inside.tree; incumbent = c.self.inside.incumbent; touched = c.self.inside.touched } in (
      sound_kept core c.add.new.self c.in_err-added-in-Ok.ensures.added c.self.invariant.0,
      subst (IsFitted core.reduced (held_of core) c.self.inside.cutoff c.self.inside.whole_costs) (sym c.in-Ok.ensures.columns) c.self.invariant.1,
    )

pub add-requires-clause-coefficients : goal.add-requires-clause-coefficients
add-requires-clause-coefficients c = c.in-Ok.ensures.columns ∙ c.self.invariant.1.wide ∙ sym c.self.invariant.0.same

pub invariant_of-self : goal.invariant_of-self
invariant_of-self c =
    let core : CoreState = record { program = c.self.inside.program.now; reduced = c.self.inside.reduced.now; steps = c.self.inside.steps.now; pool = c.self.inside.pool; tree = c.self.inside.tree; incumbent = c.self.inside.incumbent; touched = c.self.inside.touched } in (
      c.self.invariant.0,
      subst (IsFitted core.reduced (held_of core) c.self.inside.cutoff c.self.inside.whole_costs) (sym c.in-Err.ensures.columns) c.self.invariant.1,
    )

pub returns-in_ok-added-in-Ok-clause-frame : goal.returns-in_ok-added-in-Ok-clause-frame
returns-in_ok-added-in-Ok-clause-frame c = ap (λ (o : CoreState). record o { pool = c.add.new.self; touched = true }) c.self.view_is

pub returns-in-Err-clause-frame : goal.returns-in-Err-clause-frame
returns-in-Err-clause-frame c = ap (λ (o : CoreState). record o { pool = c.self.inside.pool; touched = c.self.inside.touched }) c.self.view_is

pub returns-in-Err-clause-asked : goal.returns-in-Err-clause-asked
returns-in-Err-clause-asked c = grind (arith, common_steps)

pub rests_on_cutoff-rests-requires : goal.rests_on_cutoff-rests-requires
rests_on_cutoff-rests-requires c = subst AreRising (sym c.rows-in-Ok.ensures.rows) c.rows-in-Ok.ensures.kept.rising

pub returns-in_err-added-in-Ok-clause-asked : goal.returns-in_err-added-in-Ok-clause-asked
returns-in_err-added-in-Ok-clause-asked c =
    MatchResult-from_err c.from_residual.result _ _ c.from_residual.ensures.0
    (λ _. c.in_err-added-in-Ok.ensures.added ∙ ap (λ (o : CoreState). o.pool) c.self.view_is)

pub returns-in_err-added-in-Ok-clause-frame : goal.returns-in_err-added-in-Ok-clause-frame
returns-in_err-added-in-Ok-clause-frame c = ap (λ (o : CoreState). record o { pool = c.add.new.self; touched = true }) c.self.view_is
