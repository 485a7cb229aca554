use Rattle.std.proofs.lemmas.Grind.{common_steps}
use Rattle.std.proofs.Common.{◌≡◌, Bool, List, Option, length, sym, ap, ◌∙◌, subst, arith}
use Rattle.cip_rational.specs.Rational.{ℚ}
use Rattle.cip_presolve.specs.Forms.{Form}
use Rattle.cip_presolve.specs.WholeParts.{with_wholes}
use Rattle.cip_presolve.specs.Places.{whole_and_left}
use Rattle.cip_presolve.specs.StepsBack.{StepsTaken}
use Rattle.cip_presolve.specs.FilledPoints.{IsFilled}
use Rattle.cip_presolve.proofs.PointsBack.{wholes_long, leaf_filled}
use Rattle.cip_presolve.proofs.steps.leaf_fits.Goals as goal

pub filled-requires : goal.filled-requires
filled-requires c =
    let forms : c.as_slice-forms.result.now ≡ c.args.steps.now.forms = c.as_slice-forms.ensures.value ∙ ap (λ (s : StepsTaken). s.forms) c.steps.view_is in
    let whole : c.as_slice.result.now ≡ c.args.steps.now.whole = c.as_slice.ensures.value ∙ ap (λ (s : StepsTaken). s.whole) c.steps.view_is in
    let left : c.in_ok-left.left.items ≡ whole_and_left c.args.steps.now.forms c.args.steps.now.whole =
    c.in_ok-left.ensures ∙ ap (λ (fs : List (Option Form)). whole_and_left fs c.as_slice.result.now) forms ∙ ap (λ (ws : List Bool). whole_and_left c.args.steps.now.forms ws) whole in
    let at : c.in_ok-at.at.items ≡ with_wholes c.in_ok-left.left.items c.args.wholes.now = c.in_ok-at.ensures ∙ ap (λ (ls : List Bool). with_wholes ls c.args.wholes.now) c.as_slice-2.ensures.value in
    ap (λ (fs : List (Option Form)). length fs) forms
    ∙ wholes_long c.args.steps.now c.in_ok-left.left.items c.args.wholes.now c.in_ok-at.at.items left at
    ∙ sym (ap (λ (vs : List ℚ). length vs) c.as_slice-3.ensures.value)

pub returns-in-Some : goal.returns-in-Some
returns-in-Some c =
    let forms : c.as_slice-forms.result.now ≡ c.args.steps.now.forms = c.as_slice-forms.ensures.value ∙ ap (λ (s : StepsTaken). s.forms) c.steps.view_is in
    let whole : c.as_slice.result.now ≡ c.args.steps.now.whole = c.as_slice.ensures.value ∙ ap (λ (s : StepsTaken). s.whole) c.steps.view_is in
    let left : c.in_ok-left.left.items ≡ whole_and_left c.args.steps.now.forms c.args.steps.now.whole =
    c.in_ok-left.ensures ∙ ap (λ (fs : List (Option Form)). whole_and_left fs c.as_slice.result.now) forms ∙ ap (λ (ws : List Bool). whole_and_left c.args.steps.now.forms ws) whole in
    let at : c.in_ok-at.at.items ≡ with_wholes c.in_ok-left.left.items c.args.wholes.now = c.in_ok-at.ensures ∙ ap (λ (ls : List Bool). with_wholes ls c.args.wholes.now) c.as_slice-2.ensures.value in
    let is : IsFilled c.as_slice-forms.result.now c.as_slice-3.result.now c.in-Some.whole.items = rw c.in-Some.is at c.in_ok-whole.ensures in
    leaf_filled c.args.steps.now c.in_ok-left.left.items c.args.wholes.now c.in_ok-at.at.items c.in-Some.whole.items left at
    (subst (λ (fs : List (Option Form)). IsFilled fs c.in_ok-at.at.items c.in-Some.whole.items) forms (subst (λ (vs : List ℚ). IsFilled c.as_slice-forms.result.now vs c.in-Some.whole.items) c.as_slice-3.ensures.value is))

pub returns : goal.returns
returns c = grind (arith, common_steps)
