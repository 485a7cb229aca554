use Rattle.std.proofs.lemmas.Grind.{common_steps}
use Rattle.std.proofs.Common.{◌≡◌, ◌∙◌, List, length, refl, sym, ap, subst, arith}
use Rattle.cip_rational.specs.Rational.{ℚ}
use Rattle.cip_problem.specs.WellFormed.{columns}
use Rattle.cip_core.specs.StepsBack.{StepsTaken, point_back, FitsBack}
use Rattle.cip_core.specs.CoreStates.{reduced_of}
use Rattle.cip_core.proofs.Relations.{later_at_itself}
use Rattle.cip_calls.specs.GuessesJudged.{IsAfterGuess}
use Rattle.cip_calls.proofs.ComingBack.{back_long, tested_back}
use Rattle.cip_calls.proofs.guesses.judge_guess.Goals as goal

pub returns-then-values-columns-clause-later : goal.returns-then-values-columns-clause-later
returns-then-values-columns-clause-later c = later_at_itself c.args.core.now c.args.node.now c.requires.at_work

pub returns-in-Err-NoMemory-clause-later : goal.returns-in-Err-NoMemory-clause-later
returns-in-Err-NoMemory-clause-later c = later_at_itself c.args.core.now c.args.node.now c.requires.at_work

pub returns-in-Err-clause-later : goal.returns-in-Err-clause-later
returns-in-Err-clause-later c = later_at_itself c.args.core.now c.args.node.now c.requires.at_work

pub returns-in-Ok-clause-judged : goal.returns-in-Ok-clause-judged
returns-in-Ok-clause-judged c =
    let core = c.args.core.now in
    let values = c.args.guess.now.values.items in
    let read = c.as_slice-values.result.now in
    let long : length values ≡ columns (reduced_of core) =
    sym (ap length c.as_slice-values.ensures.value) ∙ c.if-values-columns.false ∙ c.columns.ensures.count ∙ ap columns c.reduced.ensures in
    let fits = subst (λ (x : List ℚ). FitsBack core.steps x) c.as_slice-values.ensures.value
    (subst (λ (t : StepsTaken). FitsBack t read) c.steps.ensures c.in-Ok.ensures.fits) in
    let point : c.as_slice.result.now ≡ point_back core.steps values =
    c.as_slice.ensures.value ∙ c.in-Ok.ensures.point ∙ ap (λ (t : StepsTaken). point_back t read) c.steps.ensures
    ∙ ap (point_back core.steps) c.as_slice-values.ensures.value in
    tested_back core values c.as_slice.result.now c.judge_point.result long fits point c.judge_point.ensures.answer

pub returns-then-values-columns-clause-after : goal.returns-then-values-columns-clause-after
returns-then-values-columns-clause-after c = refl

pub returns-then-values-columns-clause-region : goal.returns-then-values-columns-clause-region
returns-then-values-columns-clause-region c = refl

pub returns-then-values-columns-clause-frame : goal.returns-then-values-columns-clause-frame
returns-then-values-columns-clause-frame c = refl

pub returns-in-Err-NoMemory-clause-after : goal.returns-in-Err-NoMemory-clause-after
returns-in-Err-NoMemory-clause-after c = refl

pub returns-in-Err-NoMemory-clause-region : goal.returns-in-Err-NoMemory-clause-region
returns-in-Err-NoMemory-clause-region c = refl

pub returns-in-Err-NoMemory-clause-frame : goal.returns-in-Err-NoMemory-clause-frame
returns-in-Err-NoMemory-clause-frame c = refl

pub returns-in-Err-clause-after : goal.returns-in-Err-clause-after
returns-in-Err-clause-after c = refl

pub returns-in-Err-clause-region : goal.returns-in-Err-clause-region
returns-in-Err-clause-region c = refl

pub returns-in-Err-clause-frame : goal.returns-in-Err-clause-frame
returns-in-Err-clause-frame c = refl

pub judge_point-requires-clause-values : goal.judge_point-requires-clause-values
judge_point-requires-clause-values c =
    let core = c.args.core.now in
    let values = c.args.guess.now.values.items in
    let read = c.as_slice-values.result.now in
    let long : length values ≡ columns (reduced_of core) =
    sym (ap length c.as_slice-values.ensures.value) ∙ c.if-values-columns.false ∙ c.columns.ensures.count ∙ ap columns c.reduced.ensures in
    let point : c.as_slice.result.now ≡ point_back core.steps values =
    c.as_slice.ensures.value ∙ c.in-Ok.ensures.point ∙ ap (λ (t : StepsTaken). point_back t read) c.steps.ensures
    ∙ ap (point_back core.steps) c.as_slice-values.ensures.value in
    ap length point ∙ back_long core values c.is_sound.ensures.sound c.is_sound.ensures.formed c.is_sound.ensures.reduced long

pub judge_point-requires-clause-at_work : goal.judge_point-requires-clause-at_work
judge_point-requires-clause-at_work c = c.requires.at_work

pub returns-in-Ok-clause-after : goal.returns-in-Ok-clause-after
returns-in-Ok-clause-after c =
    let core = c.args.core.now in
    let values = c.args.guess.now.values.items in
    let read = c.as_slice-values.result.now in
    let point : c.as_slice.result.now ≡ point_back core.steps values =
    c.as_slice.ensures.value ∙ c.in-Ok.ensures.point ∙ ap (λ (t : StepsTaken). point_back t read) c.steps.ensures
    ∙ ap (point_back core.steps) c.as_slice-values.ensures.value in
    subst (IsAfterGuess c.judge_point.result core c.judge_point.new.core) point c.judge_point.ensures.after

pub returns-in-Ok-clause-later : goal.returns-in-Ok-clause-later
returns-in-Ok-clause-later c = c.judge_point.ensures.later

pub returns-in-Ok-clause-region : goal.returns-in-Ok-clause-region
returns-in-Ok-clause-region c = c.judge_point.ensures.region

pub returns-in-Ok-clause-frame : goal.returns-in-Ok-clause-frame
returns-in-Ok-clause-frame c = c.judge_point.ensures.frame

pub returns-in-Err-clause-judged : goal.returns-in-Err-clause-judged
returns-in-Err-clause-judged c = grind (arith, common_steps)

pub returns-then-values-columns-clause-judged : goal.returns-then-values-columns-clause-judged
returns-then-values-columns-clause-judged c = grind (arith, common_steps)

pub returns-in-Err-NoMemory-clause-judged : goal.returns-in-Err-NoMemory-clause-judged
returns-in-Err-NoMemory-clause-judged c = grind (arith, common_steps)
