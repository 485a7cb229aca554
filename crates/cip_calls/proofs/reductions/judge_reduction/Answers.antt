use Rattle.std.proofs.lemmas.Result.{IfOk-from_err}
use Rattle.std.proofs.lemmas.Grind.{common_steps}
use Rattle.std.proofs.Common.{◌≡◌, ◌∙◌, None, refl, sym, ap, subst, arith}
use Rattle.cip_problem.specs.Box.{sides_at}
use Rattle.cip_problem.specs.Improving.{HoldsInBox, HasNoImproving}
use Rattle.cip_domain.specs.Changes.{Region, side_change}
use Rattle.cip_domain.specs.Domain.{tightening}
use Rattle.cip_domain.specs.Narrowing.{Meets}
use Rattle.cip_domain.specs.declared.stores.Tightened.TheVariants.{Empty}
use Rattle.cip_core.specs.CoreStates.{reduced_of, held_of}
use Rattle.cip_core.proofs.CoreSteps.{work_long}
use Rattle.cip_core.proofs.Relations.{later_at_itself}
use Rattle.cip_calls.specs.ReductionsJudged.{judged_by, IsAfterReduction}
use Rattle.cip_calls.proofs.SidesJudged.{named_inside, named_near, none_left, after_side, emptied_side}
use Rattle.cip_calls.proofs.reductions.judge_reduction.Goals as goal
use Rattle.cip_calls.proofs.reductions.judge_reduction.Goals.{in-Yes, in-Same, in-Empty}

pub refusal-requires-clause-long : goal.refusal-requires-clause-long
refusal-requires-clause-long c = work_long c.args.core.now c.args.node.now c.is_sound.ensures.reduced c.requires.at_work

pub returns-in-Some-clause-answer : goal.returns-in-Some-clause-answer
returns-in-Some-clause-answer c =
    let told = c.args.told.now in
    let outcome = tightening (sides_at c.args.core.now.tree.work.box told.col) told.side told.value in
    ap (λ r. judged_by r outcome) (sym c.in-Some.is) ∙ c.refusal.ensures.answer outcome

pub returns-in-Some-clause-after : goal.returns-in-Some-clause-after
returns-in-Some-clause-after c = (refl, refl)

pub returns-in-Some-clause-later : goal.returns-in-Some-clause-later
returns-in-Some-clause-later c = later_at_itself c.args.core.now c.args.node.now c.requires.at_work

pub returns-in-Some-clause-scratch : goal.returns-in-Some-clause-scratch
returns-in-Some-clause-scratch c = c.refusal.ensures.room

pub tighten-requires-clause-told : goal.tighten-requires-clause-told
tighten-requires-clause-told c =
    let core = c.args.core.now in
    let told = c.args.told.now in
    let shown = c.refusal.ensures.shown c.in_default.is in
    record {
      inside = named_inside (reduced_of core) told.col told.value shown.named;
      near = named_near (reduced_of core) told.col told.side told.value core.tree.ids shown.named;
      follows = subst (λ (r : Region). HoldsInBox (reduced_of core) (held_of core) r.box (λ point. Meets point (side_change told.col told.side told.value))) c.requires.at_work.region shown.follows;
    }

pub returns-in_err-outcome-clause-later : goal.returns-in_err-outcome-clause-later
returns-in_err-outcome-clause-later c = c.tighten.ensures.later

pub returns-in_err-outcome-clause-scratch : goal.returns-in_err-outcome-clause-scratch
returns-in_err-outcome-clause-scratch c = c.refusal.ensures.room

pub returns-clause-answer : goal.returns-clause-answer
returns-clause-answer c =
    let here : c.match-outcome.came ≡ judged_by None c.in_ok-outcome.outcome =
    elim c.match-outcome.branch [
      | in-Yes w ↦ w.came-is ∙ ap (judged_by None) (sym w.in-Yes.is)
      | in-Same w ↦ w.came-is ∙ ap (judged_by None) (sym w.in-Same.is)
      | in-Empty w ↦ w.came-is ∙ ap (judged_by None) (sym w.in-Empty.is)
    ] in
    let told = c.args.told.now in
    let outcome = tightening (sides_at c.args.core.now.tree.work.box told.col) told.side told.value in
    here ∙ ap (judged_by None) c.in_ok-outcome.ensures.tightened.outcome ∙ ap (λ r. judged_by r outcome) (sym c.in_default.is) ∙ c.refusal.ensures.answer outcome

pub returns-clause-after : goal.returns-clause-after
returns-clause-after c =
    let here : c.match-outcome.came ≡ judged_by None c.in_ok-outcome.outcome =
    elim c.match-outcome.branch [
      | in-Yes w ↦ w.came-is ∙ ap (judged_by None) (sym w.in-Yes.is)
      | in-Same w ↦ w.came-is ∙ ap (judged_by None) (sym w.in-Same.is)
      | in-Empty w ↦ w.came-is ∙ ap (judged_by None) (sym w.in-Empty.is)
    ] in
    let told = c.args.told.now in
    let old = c.args.core.now in
    let new = c.tighten.new.self in
    let had = c.args.node.now in
    let has = c.tighten.new.node in
    subst (λ j. IsAfterReduction j old new had has told.col told.side told.value) (sym here) (after_side old new had has told.col told.side told.value c.in_ok-outcome.outcome c.in_ok-outcome.ensures.tightened)

pub returns-clause-emptied : goal.returns-clause-emptied
returns-clause-emptied c = λ e.
    let here : c.match-outcome.came ≡ judged_by None c.in_ok-outcome.outcome =
    elim c.match-outcome.branch [
      | in-Yes w ↦ w.came-is ∙ ap (judged_by None) (sym w.in-Yes.is)
      | in-Same w ↦ w.came-is ∙ ap (judged_by None) (sym w.in-Same.is)
      | in-Empty w ↦ w.came-is ∙ ap (judged_by None) (sym w.in-Empty.is)
    ] in
    let core = c.args.core.now in
    let told = c.args.told.now in
    let shown = c.refusal.ensures.shown c.in_default.is in
    let crossed : tightening (sides_at core.tree.work.box told.col) told.side told.value ≡ Empty = sym c.in_ok-outcome.ensures.tightened.outcome ∙ emptied_side c.in_ok-outcome.outcome (sym here ∙ e) in
    subst (λ (r : Region). HasNoImproving (reduced_of core) (held_of core) r.box) c.requires.at_work.region
    (none_left (reduced_of core) (held_of core) core.tree.work.box told.col told.side told.value shown.follows crossed)

pub returns-clause-later : goal.returns-clause-later
returns-clause-later c = c.tighten.ensures.later

pub returns-clause-scratch : goal.returns-clause-scratch
returns-clause-scratch c = c.refusal.ensures.room

pub tighten-requires-clause-at_work : goal.tighten-requires-clause-at_work
tighten-requires-clause-at_work c = c.requires.at_work

pub refusal-requires-clause-room : goal.refusal-requires-clause-room
refusal-requires-clause-room c = c.requires.room

pub returns-in-Some-clause-emptied : goal.returns-in-Some-clause-emptied
returns-in-Some-clause-emptied c = grind (arith, common_steps)

pub returns-in_err-outcome-clause-answer : goal.returns-in_err-outcome-clause-answer
returns-in_err-outcome-clause-answer c = IfOk-from_err c.from_residual.result _ c.from_residual.ensures.0

pub returns-in_err-outcome-clause-emptied : goal.returns-in_err-outcome-clause-emptied
returns-in_err-outcome-clause-emptied c = IfOk-from_err c.from_residual.result _ c.from_residual.ensures.0
