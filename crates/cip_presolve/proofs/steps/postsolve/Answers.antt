use Rattle.std.proofs.lemmas.Grind.{common_steps}
use Rattle.std.proofs.Common.{◌≡◌, Bool, List, Option, ap, ◌∙◌, subst, length, sym, arith}
use Rattle.std.specs.Prelude.{map, is_none}
use Rattle.cip_rational.specs.Rational.{ℚ}
use Rattle.cip_presolve.specs.Forms.{Form}
use Rattle.cip_presolve.specs.WholeParts.{with_wholes}
use Rattle.cip_presolve.specs.StepsBack.{StepsTaken, HasOverflow}
use Rattle.cip_presolve.specs.FilledPoints.{IsFilled}
use Rattle.cip_presolve.proofs.PointsBack.{wide_back, filled_back, long_placed, ComesBackAs}
use Rattle.cip_presolve.proofs.steps.postsolve.Goals as goal

pub returns-in-Some-clause-point : goal.returns-in-Some-clause-point
returns-in-Some-clause-point c =
    let forms : c.as_slice-forms.result.now ≡ c.args.steps.now.forms = c.as_slice-forms.ensures.value ∙ ap (λ (s : StepsTaken). s.forms) c.steps.view_is in
    let left : c.in-Ok.left.items ≡ map is_none c.args.steps.now.forms = c.in-Ok.ensures ∙ ap (λ (fs : List (Option Form)). map is_none fs) forms in
    let at : c.in-Ok-placed.at.items ≡ with_wholes c.in-Ok.left.items c.args.point.now = c.in-Ok-placed.ensures ∙ ap (λ (ls : List Bool). with_wholes ls c.args.point.now) c.as_slice.ensures.value in
    let slice : c.as_slice-2.result.now ≡ c.in-Ok-placed.at.items = c.as_slice-2.ensures.value in
    let back : ComesBackAs c.args.steps.now c.args.point.now c.in-Some.whole.items =
    filled_back c.args.steps.now c.in-Ok.left.items c.args.point.now c.in-Ok-placed.at.items c.in-Some.whole.items left at
    (subst (λ (fs : List (Option Form)). IsFilled fs c.in-Ok-placed.at.items c.in-Some.whole.items) forms (subst (λ (vs : List ℚ). IsFilled c.as_slice-forms.result.now vs c.in-Some.whole.items) slice (rw c.in-Some.is at c.in-Ok-filled.ensures))) in
    back.are

pub returns-in-Some-clause-fits : goal.returns-in-Some-clause-fits
returns-in-Some-clause-fits c =
    let forms : c.as_slice-forms.result.now ≡ c.args.steps.now.forms = c.as_slice-forms.ensures.value ∙ ap (λ (s : StepsTaken). s.forms) c.steps.view_is in
    let left : c.in-Ok.left.items ≡ map is_none c.args.steps.now.forms = c.in-Ok.ensures ∙ ap (λ (fs : List (Option Form)). map is_none fs) forms in
    let at : c.in-Ok-placed.at.items ≡ with_wholes c.in-Ok.left.items c.args.point.now = c.in-Ok-placed.ensures ∙ ap (λ (ls : List Bool). with_wholes ls c.args.point.now) c.as_slice.ensures.value in
    let slice : c.as_slice-2.result.now ≡ c.in-Ok-placed.at.items = c.as_slice-2.ensures.value in
    let back : ComesBackAs c.args.steps.now c.args.point.now c.in-Some.whole.items =
    filled_back c.args.steps.now c.in-Ok.left.items c.args.point.now c.in-Ok-placed.at.items c.in-Some.whole.items left at
    (subst (λ (fs : List (Option Form)). IsFilled fs c.in-Ok-placed.at.items c.in-Some.whole.items) forms (subst (λ (vs : List ℚ). IsFilled c.as_slice-forms.result.now vs c.in-Some.whole.items) slice (rw c.in-Some.is at c.in-Ok-filled.ensures))) in
    back.fits

pub filled-requires : goal.filled-requires
filled-requires c =
    let forms : c.as_slice-forms.result.now ≡ c.args.steps.now.forms = c.as_slice-forms.ensures.value ∙ ap (λ (s : StepsTaken). s.forms) c.steps.view_is in
    let left : c.in-Ok.left.items ≡ map is_none c.args.steps.now.forms = c.in-Ok.ensures ∙ ap (λ (fs : List (Option Form)). map is_none fs) forms in
    let at : c.in-Ok-placed.at.items ≡ with_wholes c.in-Ok.left.items c.args.point.now = c.in-Ok-placed.ensures ∙ ap (λ (ls : List Bool). with_wholes ls c.args.point.now) c.as_slice.ensures.value in
    ap (λ (fs : List (Option Form)). length fs) forms
    ∙ long_placed c.args.steps.now.forms c.in-Ok.left.items c.args.point.now c.in-Ok-placed.at.items left at
    ∙ sym (ap (λ (vs : List ℚ). length vs) c.as_slice-2.ensures.value)

pub returns-clause-fault : goal.returns-clause-fault
returns-clause-fault c =
    let forms : c.as_slice-forms.result.now ≡ c.args.steps.now.forms = c.as_slice-forms.ensures.value ∙ ap (λ (s : StepsTaken). s.forms) c.steps.view_is in
    let left : c.in-Ok.left.items ≡ map is_none c.args.steps.now.forms = c.in-Ok.ensures ∙ ap (λ (fs : List (Option Form)). map is_none fs) forms in
    let at : c.in-Ok-placed.at.items ≡ with_wholes c.in-Ok.left.items c.args.point.now = c.in-Ok-placed.ensures ∙ ap (λ (ls : List Bool). with_wholes ls c.args.point.now) c.as_slice.ensures.value in
    let slice : c.as_slice-2.result.now ≡ c.in-Ok-placed.at.items = c.as_slice-2.ensures.value in
    wide_back c.args.steps.now c.in-Ok.left.items c.args.point.now c.in-Ok-placed.at.items left at
    (subst (λ (fs : List (Option Form)). HasOverflow fs c.in-Ok-placed.at.items) forms (subst (λ (vs : List ℚ). HasOverflow c.as_slice-forms.result.now vs) slice (rw c.in-None.is at c.in-Ok-filled.ensures)))

pub returns-clause-point : goal.returns-clause-point
returns-clause-point c = grind (arith, common_steps)

pub returns-clause-fits : goal.returns-clause-fits
returns-clause-fits c = grind (arith, common_steps)

pub returns-in-Some-clause-fault : goal.returns-in-Some-clause-fault
returns-in-Some-clause-fault c = grind (arith, common_steps)
