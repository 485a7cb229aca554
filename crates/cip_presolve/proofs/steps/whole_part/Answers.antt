use Rattle.std.proofs.Common.{◌≡◌, Bool, List, Option, length, sym, ap, ◌∙◌, subst}
use Rattle.std.proofs.lemmas.Result.{IfOk-weaker}
use Rattle.cip_rational.specs.Rational.{ℚ}
use Rattle.cip_presolve.specs.Forms.{Form, filled}
use Rattle.cip_presolve.specs.Leaf.{at_wholes}
use Rattle.cip_presolve.specs.WholeParts.{with_wholes}
use Rattle.cip_presolve.specs.Places.{whole_and_left}
use Rattle.cip_presolve.specs.StepsBack.{StepsTaken, WholesFit}
use Rattle.cip_presolve.proofs.PointsBack.{wholes_long, wholes_fit, wholes_back}
use Rattle.cip_presolve.proofs.steps.whole_part.Goals as goal

pub wholes_filled-requires-clause-long : goal.wholes_filled-requires-clause-long
wholes_filled-requires-clause-long c =
    let forms : c.as_slice-forms.result.now ≡ c.args.steps.now.forms = c.as_slice-forms.ensures.value ∙ ap (λ (s : StepsTaken). s.forms) c.steps.view_is in
    let whole : c.as_slice.result.now ≡ c.args.steps.now.whole = c.as_slice.ensures.value ∙ ap (λ (s : StepsTaken). s.whole) c.steps.view_is in
    let left : c.in_ok-left.left.items ≡ whole_and_left c.args.steps.now.forms c.args.steps.now.whole =
    c.in_ok-left.ensures ∙ ap (λ (fs : List (Option Form)). whole_and_left fs c.as_slice.result.now) forms ∙ ap (λ (ws : List Bool). whole_and_left c.args.steps.now.forms ws) whole in
    let at : c.in_ok-at.at.items ≡ with_wholes c.in_ok-left.left.items c.args.wholes.now = c.in_ok-at.ensures ∙ ap (λ (ls : List Bool). with_wholes ls c.args.wholes.now) c.as_slice-2.ensures.value in
    ap (λ (fs : List (Option Form)). length fs) forms
    ∙ wholes_long c.args.steps.now c.in_ok-left.left.items c.args.wholes.now c.in_ok-at.at.items left at
    ∙ sym (ap (λ (vs : List ℚ). length vs) c.as_slice-4.ensures.value)

pub wholes_filled-requires-clause-fit : goal.wholes_filled-requires-clause-fit
wholes_filled-requires-clause-fit c =
    let forms : c.as_slice-forms.result.now ≡ c.args.steps.now.forms = c.as_slice-forms.ensures.value ∙ ap (λ (s : StepsTaken). s.forms) c.steps.view_is in
    let whole : c.as_slice.result.now ≡ c.args.steps.now.whole = c.as_slice.ensures.value ∙ ap (λ (s : StepsTaken). s.whole) c.steps.view_is in
    let left : c.in_ok-left.left.items ≡ whole_and_left c.args.steps.now.forms c.args.steps.now.whole =
    c.in_ok-left.ensures ∙ ap (λ (fs : List (Option Form)). whole_and_left fs c.as_slice.result.now) forms ∙ ap (λ (ws : List Bool). whole_and_left c.args.steps.now.forms ws) whole in
    let at : c.in_ok-at.at.items ≡ with_wholes c.in_ok-left.left.items c.args.wholes.now = c.in_ok-at.ensures ∙ ap (λ (ls : List Bool). with_wholes ls c.args.wholes.now) c.as_slice-2.ensures.value in
    let again : c.as_slice-3.result.now ≡ c.args.steps.now.whole = c.as_slice-3.ensures.value ∙ ap (λ (s : StepsTaken). s.whole) c.steps.view_is in
    subst (λ (fs : List (Option Form)). WholesFit fs c.as_slice-3.result.now c.as_slice-4.result.now) (sym forms)
    (subst (λ (ws : List Bool). WholesFit c.args.steps.now.forms ws c.as_slice-4.result.now) (sym again)
    (subst (λ (vs : List ℚ). WholesFit c.args.steps.now.forms c.args.steps.now.whole vs) (sym c.as_slice-4.ensures.value)
    (wholes_fit c.args.steps.now c.in_ok-left.left.items c.args.wholes.now c.in_ok-at.at.items left at c.requires)))

pub returns : goal.returns
returns c =
    let forms : c.as_slice-forms.result.now ≡ c.args.steps.now.forms = c.as_slice-forms.ensures.value ∙ ap (λ (s : StepsTaken). s.forms) c.steps.view_is in
    let whole : c.as_slice.result.now ≡ c.args.steps.now.whole = c.as_slice.ensures.value ∙ ap (λ (s : StepsTaken). s.whole) c.steps.view_is in
    let left : c.in_ok-left.left.items ≡ whole_and_left c.args.steps.now.forms c.args.steps.now.whole =
    c.in_ok-left.ensures ∙ ap (λ (fs : List (Option Form)). whole_and_left fs c.as_slice.result.now) forms ∙ ap (λ (ws : List Bool). whole_and_left c.args.steps.now.forms ws) whole in
    let at : c.in_ok-at.at.items ≡ with_wholes c.in_ok-left.left.items c.args.wholes.now = c.in_ok-at.ensures ∙ ap (λ (ls : List Bool). with_wholes ls c.args.wholes.now) c.as_slice-2.ensures.value in
    let again : c.as_slice-3.result.now ≡ c.args.steps.now.whole = c.as_slice-3.ensures.value ∙ ap (λ (s : StepsTaken). s.whole) c.steps.view_is in
    IfOk-weaker c.wholes_filled.result _ _
    (λ all e. wholes_back c.args.steps.now c.in_ok-left.left.items c.args.wholes.now c.in_ok-at.at.items all.items left at
    (e ∙ ap (λ (ws : List Bool). at_wholes ws (filled c.as_slice-forms.result.now c.as_slice-4.result.now c.as_slice-4.result.now)) again
    ∙ ap (λ (fs : List (Option Form)). at_wholes c.args.steps.now.whole (filled fs c.as_slice-4.result.now c.as_slice-4.result.now)) forms
    ∙ ap (λ (vs : List ℚ). at_wholes c.args.steps.now.whole (filled c.args.steps.now.forms vs vs)) c.as_slice-4.ensures.value))
    c.wholes_filled.ensures
