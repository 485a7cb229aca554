use Rattle.std.proofs.lemmas.Result.{MatchResult-from_err}
use Rattle.cip_cert.specs.Pool.{AreRising}
use Rattle.std.proofs.Common.{◌≡◌, ◌∙◌, if◌then◌else◌, length, refl, sym, ap, subst, arith}
use Rattle.cip_problem.specs.Program.{Program}
use Rattle.cip_problem.specs.Improving.{IsValid}
use Rattle.cip_problem.specs.Aggregate.{Inequality}
use Rattle.cip_cert.specs.Lent.{Lent, Fits, lent_of}
use Rattle.cip_cert.specs.Resting.{valid_below}
use Rattle.cip_split.specs.SplitMeaning.{split_rests}
use Rattle.cip_core.specs.CoreStates.{reduced_of, held_of, all_lent}
use Rattle.cip_core.specs.RowsAsked.{scope_of}
use Rattle.cip_core.proofs.Relations.{later_at_itself}
use Rattle.cip_core.proofs.RowsAdded.{lent_fits, scope_long}
use Rattle.cip_calls.specs.SplitCutsJudged.{IsCutJudged}
use Rattle.cip_calls.proofs.RowsTold.{cut_judged}
use Rattle.cip_calls.proofs.SplitCutsTold.{accepted_by, refused_by, split_there, split_told}
use Rattle.cip_calls.proofs.split_cuts.judge_split_cut.Goals as goal

pub split_row-requires-clause-fits : goal.split_row-requires-clause-fits
split_row-requires-clause-fits c =
    let core = c.args.core.now in
    let local = c.args.local in
    let boxed : c.scope-bounds.result.now ≡ scope_of core local = c.scope-bounds.ensures ∙ ap (λ b. if local then b else c.bounds-2.result.now) c.bounds.ensures ∙ ap (λ b. if local then core.tree.work.box else b) (c.bounds-2.ensures.bounds ∙ ap (λ (p : Program). p.bounds) c.reduced.ensures) in
    let formed = c.is_sound.ensures.reduced in
    let long = scope_long core c.args.node.now local formed c.requires.at_work in
    subst (Fits (length c.scope-bounds.result.now)) (sym c.rows-2.ensures.lent)
    (subst (λ n. Fits n (all_lent core)) (sym (ap length boxed ∙ long)) (lent_fits core c.is_sound.ensures.sound c.is_sound.ensures.pool formed))

pub split_row-requires-clause-room : goal.split_row-requires-clause-room
split_row-requires-clause-room c =
    let core = c.args.core.now in
    let local = c.args.local in
    let boxed : c.scope-bounds.result.now ≡ scope_of core local = c.scope-bounds.ensures ∙ ap (λ b. if local then b else c.bounds-2.result.now) c.bounds.ensures ∙ ap (λ b. if local then core.tree.work.box else b) (c.bounds-2.ensures.bounds ∙ ap (λ (p : Program). p.bounds) c.reduced.ensures) in
    let formed = c.is_sound.ensures.reduced in
    let long = scope_long core c.args.node.now local formed c.requires.at_work in
    omega (arith, ap length boxed, long, c.requires.room.0)

pub split_row-requires-clause-flags : goal.split_row-requires-clause-flags
split_row-requires-clause-flags c =
    let core = c.args.core.now in
    let local = c.args.local in
    let boxed : c.scope-bounds.result.now ≡ scope_of core local = c.scope-bounds.ensures ∙ ap (λ b. if local then b else c.bounds-2.result.now) c.bounds.ensures ∙ ap (λ b. if local then core.tree.work.box else b) (c.bounds-2.ensures.bounds ∙ ap (λ (p : Program). p.bounds) c.reduced.ensures) in
    let formed = c.is_sound.ensures.reduced in
    let long = scope_long core c.args.node.now local formed c.requires.at_work in
    ap length c.rows-2.ensures.whole ∙ formed.integral ∙ sym long ∙ sym (ap length boxed)

pub split_row-requires-clause-same : goal.split_row-requires-clause-same
split_row-requires-clause-same c = c.requires.room.1 ∙ sym c.requires.room.0

pub add_valid-requires-clause-at_work : goal.add_valid-requires-clause-at_work
add_valid-requires-clause-at_work c = c.requires.at_work

pub add_valid-requires-clause-long : goal.add_valid-requires-clause-long
add_valid-requires-clause-long c = c.split_row.ensures.columns ∙ c.requires.room.0

pub add_valid-requires-clause-valid : goal.add_valid-requires-clause-valid
add_valid-requires-clause-valid c =
    let core = c.args.core.now in
    let local = c.args.local in
    let boxed : c.scope-bounds.result.now ≡ scope_of core local = c.scope-bounds.ensures ∙ ap (λ b. if local then b else c.bounds-2.result.now) c.bounds.ensures ∙ ap (λ b. if local then core.tree.work.box else b) (c.bounds-2.ensures.bounds ∙ ap (λ (p : Program). p.bounds) c.reduced.ensures) in
    let formed = c.is_sound.ensures.reduced in
    let long = scope_long core c.args.node.now local formed c.requires.at_work in
    let cut = c.args.cut.now in
    let row : Inequality = record { coefficients = c.split_row.new.first.row.entries; least = c.in-Ok.least } in
    let accepted = accepted_by core cut local (lent_of c.rows-2.result) c.rows-2.result.whole.now c.scope-bounds.result.now (length c.args.first.now.row.entries) row c.rows-2.ensures.lent c.rows-2.ensures.whole boxed c.requires.room.0 c.in-Ok.ensures.steps in
    let rests = c.split_rests_on_cutoff-rests.ensures ∙ ap (λ (l : Lent). split_rests l.pool cut) c.rows.ensures.lent in
    let valid = split_there core cut local c.args.node.now row c.is_sound.ensures.sound c.is_sound.ensures.pool formed c.requires.at_work accepted in
    subst (λ t. IsValid (reduced_of core) (valid_below (held_of core) t) (scope_of core local) row) (sym rests) valid

pub returns-in-Err-clause-judged : goal.returns-in-Err-clause-judged
returns-in-Err-clause-judged c =
    let core = c.args.core.now in
    let local = c.args.local in
    let boxed : c.scope-bounds.result.now ≡ scope_of core local = c.scope-bounds.ensures ∙ ap (λ b. if local then b else c.bounds-2.result.now) c.bounds.ensures ∙ ap (λ b. if local then core.tree.work.box else b) (c.bounds-2.ensures.bounds ∙ ap (λ (p : Program). p.bounds) c.reduced.ensures) in (
      refused_by core c.args.cut.now local (lent_of c.rows-2.result) c.rows-2.result.whole.now c.scope-bounds.result.now (length c.args.first.now.row.entries) c.in-Err.fault c.rows-2.ensures.lent c.rows-2.ensures.whole boxed c.requires.room.0 c.in-Err.ensures.steps,
      refl,
    )

pub returns-in-Err-clause-later : goal.returns-in-Err-clause-later
returns-in-Err-clause-later c = later_at_itself c.args.core.now c.args.node.now c.requires.at_work

pub returns-in-Err-clause-frame : goal.returns-in-Err-clause-frame
returns-in-Err-clause-frame c = refl

pub returns-in-Err-clause-scratches : goal.returns-in-Err-clause-scratches
returns-in-Err-clause-scratches c = (c.split_row.ensures.columns, c.split_row.ensures.others)

pub returns-in_err-added-in-Ok-clause-later : goal.returns-in_err-added-in-Ok-clause-later
returns-in_err-added-in-Ok-clause-later c = c.add_valid.ensures.later

pub returns-in_err-added-in-Ok-clause-frame : goal.returns-in_err-added-in-Ok-clause-frame
returns-in_err-added-in-Ok-clause-frame c = c.add_valid.ensures.frame

pub returns-in_err-added-in-Ok-clause-scratches : goal.returns-in_err-added-in-Ok-clause-scratches
returns-in_err-added-in-Ok-clause-scratches c = (c.split_row.ensures.columns, c.split_row.ensures.others)

pub returns-in_ok-added-in-Ok-clause-later : goal.returns-in_ok-added-in-Ok-clause-later
returns-in_ok-added-in-Ok-clause-later c = c.add_valid.ensures.later

pub returns-in_ok-added-in-Ok-clause-frame : goal.returns-in_ok-added-in-Ok-clause-frame
returns-in_ok-added-in-Ok-clause-frame c = c.add_valid.ensures.frame

pub returns-in_ok-added-in-Ok-clause-scratches : goal.returns-in_ok-added-in-Ok-clause-scratches
returns-in_ok-added-in-Ok-clause-scratches c = (c.split_row.ensures.columns, c.split_row.ensures.others)

pub returns-in_ok-added-in-Ok-clause-judged : goal.returns-in_ok-added-in-Ok-clause-judged
returns-in_ok-added-in-Ok-clause-judged c =
    let core = c.args.core.now in
    let local = c.args.local in
    let boxed : c.scope-bounds.result.now ≡ scope_of core local = c.scope-bounds.ensures ∙ ap (λ b. if local then b else c.bounds-2.result.now) c.bounds.ensures ∙ ap (λ b. if local then core.tree.work.box else b) (c.bounds-2.ensures.bounds ∙ ap (λ (p : Program). p.bounds) c.reduced.ensures) in
    let formed = c.is_sound.ensures.reduced in
    let long = scope_long core c.args.node.now local formed c.requires.at_work in
    let cut = c.args.cut.now in
    let row : Inequality = record { coefficients = c.split_row.new.first.row.entries; least = c.in-Ok.least } in
    let accepted = accepted_by core cut local (lent_of c.rows-2.result) c.rows-2.result.whole.now c.scope-bounds.result.now (length c.args.first.now.row.entries) row c.rows-2.ensures.lent c.rows-2.ensures.whole boxed c.requires.room.0 c.in-Ok.ensures.steps in
    let rests = c.split_rests_on_cutoff-rests.ensures ∙ ap (λ (l : Lent). split_rests l.pool cut) c.rows.ensures.lent in
    let new = c.add_valid.new.self in
    let told = c.in_ok-added-in-Ok.added in
    subst (IsCutJudged core new cut local) (sym c.judged_row.ensures)
    (cut_judged core new cut local told (split_told core new cut local row c.split_rests_on_cutoff-rests.result told accepted rests c.in_ok-added-in-Ok.ensures.added))

pub split_rests_on_cutoff-rests-requires : goal.split_rests_on_cutoff-rests-requires
split_rests_on_cutoff-rests-requires c = subst (λ (l : Lent). AreRising l.pool) (sym c.rows.ensures.lent) c.is_sound.ensures.pool.rising

pub returns-in_err-added-in-Ok-clause-judged : goal.returns-in_err-added-in-Ok-clause-judged
returns-in_err-added-in-Ok-clause-judged c =
    MatchResult-from_err c.from_residual.result _ _ c.from_residual.ensures.0 (λ _. c.in_err-added-in-Ok.ensures.added)
