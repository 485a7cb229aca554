use Rattle.std.proofs.lemmas.Grind.{common_steps}
use Rattle.std.proofs.Common.{◌≡◌, ◌∙◌, ◌<◌, List, Bool, ℕ, None, length, refl, sym, ap, subst, arith}
use Rattle.std.specs.Prelude.{IsOk, OnOk}
use Rattle.cip_cert.specs.Lent.{Lent, Fits, multiples_of}
use Rattle.cip_cert.specs.Reductions.{SideFollows, reduced}
use Rattle.cip_core.specs.OpenColumns.{is_whole_at}
use Rattle.cip_core.specs.CoreStates.{reduced_of, all_lent}
use Rattle.cip_core.proofs.RowsAdded.{lent_fits}
use Rattle.cip_calls.specs.ReductionsJudged.{side_fault, unless_faulty, by_check, side_checked}
use Rattle.cip_calls.proofs.LentRows.{side_holds}
use Rattle.cip_calls.proofs.SidesJudged.{named_inside, by_check_ok}
use Rattle.cip_calls.proofs.reductions.refusal.Goals as goal

pub reduction-requires-clause-fits : goal.reduction-requires-clause-fits
reduction-requires-clause-fits c =
    let core = c.args.core.now in
    subst (Fits (length c.bounds.result.now)) (sym c.rows.ensures.lent)
    (subst (λ n. Fits n (all_lent core)) (sym (ap length c.bounds.ensures ∙ c.requires.long)) (lent_fits core c.is_sound.ensures.sound c.is_sound.ensures.pool c.is_sound.ensures.reduced))

pub reduction-requires-clause-room : goal.reduction-requires-clause-room
reduction-requires-clause-room c = omega (arith, ap length c.bounds.ensures, c.requires.long, c.requires.room)

pub reduction-requires-clause-flags : goal.reduction-requires-clause-flags
reduction-requires-clause-flags c =
    ap length c.rows.ensures.whole ∙ c.is_sound.ensures.reduced.integral ∙ sym (ap length c.bounds.ensures ∙ c.requires.long)

pub reduction-requires-clause-inside : goal.reduction-requires-clause-inside
reduction-requires-clause-inside c =
    let core = c.args.core.now in
    let told = c.args.told.now in
    subst (λ n. told.col < n) (sym (ap length c.bounds.ensures ∙ c.requires.long))
    (named_inside (reduced_of core) told.col told.value (ap (λ p. side_fault p told.col told.value) (sym c.reduced.ensures) ∙ sym c.side_fault.ensures ∙ c.in_default.is))

pub returns-in-Some-clause-answer : goal.returns-in-Some-clause-answer
returns-in-Some-clause-answer c = λ outcome.
    let core = c.args.core.now in
    let told = c.args.told.now in
    let named = sym c.in-Some.is ∙ c.side_fault.ensures ∙ ap (λ p. side_fault p told.col told.value) c.reduced.ensures in
    ap (λ f. unless_faulty f (by_check (side_checked core told.col told.side told.value (multiples_of told.combo)) outcome)) named

pub returns-in-Err-clause-answer : goal.returns-in-Err-clause-answer
returns-in-Err-clause-answer c = λ outcome.
    let core = c.args.core.now in
    let told = c.args.told.now in
    let named : side_fault (reduced_of core) told.col told.value ≡ None = ap (λ p. side_fault p told.col told.value) (sym c.reduced.ensures) ∙ sym c.side_fault.ensures ∙ c.in_default.is in
    let combo = multiples_of told.combo in
    let steps = c.reduction.ensures.steps
    ∙ ap (λ (l : Lent). reduced told.side l (is_whole_at c.rows.result.whole.now told.col) c.bounds.result.now (length c.args.scratch.now.row.entries) told.col told.value combo) c.rows.ensures.lent
    ∙ ap (λ (i : List Bool). reduced told.side (all_lent core) (is_whole_at i told.col) c.bounds.result.now (length c.args.scratch.now.row.entries) told.col told.value combo) c.rows.ensures.whole
    ∙ ap (λ b. reduced told.side (all_lent core) (is_whole_at (reduced_of core).integral told.col) b (length c.args.scratch.now.row.entries) told.col told.value combo) c.bounds.ensures
    ∙ ap (λ (n : ℕ). reduced told.side (all_lent core) (is_whole_at (reduced_of core).integral told.col) core.tree.work.box n told.col told.value combo) c.requires.room in
    rw named (ap (λ r. by_check r outcome) (sym c.in-Err.is ∙ steps))

pub returns-in-Ok-clause-answer : goal.returns-in-Ok-clause-answer
returns-in-Ok-clause-answer c = λ outcome.
    let core = c.args.core.now in
    let told = c.args.told.now in
    let named : side_fault (reduced_of core) told.col told.value ≡ None = ap (λ p. side_fault p told.col told.value) (sym c.reduced.ensures) ∙ sym c.side_fault.ensures ∙ c.in_default.is in
    let combo = multiples_of told.combo in
    let steps = c.reduction.ensures.steps
    ∙ ap (λ (l : Lent). reduced told.side l (is_whole_at c.rows.result.whole.now told.col) c.bounds.result.now (length c.args.scratch.now.row.entries) told.col told.value combo) c.rows.ensures.lent
    ∙ ap (λ (i : List Bool). reduced told.side (all_lent core) (is_whole_at i told.col) c.bounds.result.now (length c.args.scratch.now.row.entries) told.col told.value combo) c.rows.ensures.whole
    ∙ ap (λ b. reduced told.side (all_lent core) (is_whole_at (reduced_of core).integral told.col) b (length c.args.scratch.now.row.entries) told.col told.value combo) c.bounds.ensures
    ∙ ap (λ (n : ℕ). reduced told.side (all_lent core) (is_whole_at (reduced_of core).integral told.col) core.tree.work.box n told.col told.value combo) c.requires.room in
    rw named (by_check_ok c.in-Ok.field-0 outcome ∙ ap (λ r. by_check r outcome) (sym c.in-Ok.is ∙ steps))

pub returns-in-Ok-clause-shown : goal.returns-in-Ok-clause-shown
returns-in-Ok-clause-shown c = λ none.
    let core = c.args.core.now in
    let told = c.args.told.now in
    let lent = subst (λ l. OnOk c.reduction.result (SideFollows told.side l c.bounds.result.now told.col (is_whole_at c.rows.result.whole.now told.col) told.value)) c.rows.ensures.lent c.reduction.ensures.follows in
    let boxed = subst (λ b. OnOk c.reduction.result (SideFollows told.side (all_lent core) b told.col (is_whole_at c.rows.result.whole.now told.col) told.value)) c.bounds.ensures lent in
    let flagged = subst (λ i. OnOk c.reduction.result (SideFollows told.side (all_lent core) core.tree.work.box told.col (is_whole_at i told.col) told.value)) c.rows.ensures.whole boxed in
    record {
      named = ap (λ p. side_fault p told.col told.value) (sym c.reduced.ensures) ∙ sym c.side_fault.ensures ∙ c.in_default.is;
      follows = side_holds core told.col told.side told.value c.reduction.result c.is_sound.ensures.sound flagged (subst IsOk (sym c.in-Ok.is) refl);
    }

pub returns-in-Err-clause-room : goal.returns-in-Err-clause-room
returns-in-Err-clause-room c = omega arith

pub returns-in-Ok-clause-room : goal.returns-in-Ok-clause-room
returns-in-Ok-clause-room c = omega arith

pub returns-in-Err-clause-shown : goal.returns-in-Err-clause-shown
returns-in-Err-clause-shown c = grind (arith, common_steps)

pub returns-in-Some-clause-shown : goal.returns-in-Some-clause-shown
returns-in-Some-clause-shown c = grind (arith, common_steps)

pub returns-in-Some-clause-room : goal.returns-in-Some-clause-room
returns-in-Some-clause-room c = grind (arith, common_steps)
