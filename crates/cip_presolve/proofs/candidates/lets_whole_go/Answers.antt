use Rattle.std.proofs.lemmas.Grind.{common_steps}
use Rattle.std.proofs.Common.{◌≡◌, true, List, Some, slice_get, ap, ◌∙◌, subst, arith}
use Rattle.std.proofs.lemmas.Bool.{OnTrue_at, OnTrue_from}
use Rattle.cip_rational.specs.Rational.{ℚ}
use Rattle.cip_rational.specs.Range.{fits_range}
use Rattle.cip_problem.specs.Program.{Sides}
use Rattle.cip_problem.specs.Box.{sides_at}
use Rattle.cip_presolve.specs.Forms.{Form}
use Rattle.cip_presolve.specs.FormEnds.{FormAssigns}
use Rattle.cip_presolve.proofs.FormsKept.{fits_by}
use Rattle.cip_presolve.proofs.candidates.lets_whole_go.Goals as goal

pub returns-then-is_whole : goal.returns-then-is_whole
returns-then-is_whole c =
    let constant : c.form.inside.constant ≡ c.args.form.now.constant = ap (λ (f : Form). f.constant) c.form.view_is in
    let source : c.form.inside.source ≡ c.args.form.now.source = ap (λ (f : Form). f.source) c.form.view_is in
    let own : c.sides.result ≡ sides_at c.args.draft.now.bounds c.args.form.now.source =
    c.sides.ensures ∙ ap (λ (box : List Sides). sides_at box c.form.inside.source) c.bounds.ensures.bounds ∙ ap (λ n. sides_at c.args.draft.now.bounds n) source in
    let whole : slice_get c.args.draft.now.integral c.form.inside.source ≡ Some true = c.is_whole-2.ensures ∙ ap (λ b. Some b) c.if-is_whole.true in
    OnTrue_from c.assigns.result _
    (λ t h. record {
      in_range = subst (λ (q : ℚ). fits_range q ≡ true) constant
          (fits_by c.form.inside.constant c.numerator-numerator.result c.denominator-denominator.result c.numerator-numerator.ensures.value c.numerator-numerator.ensures.bounded c.denominator-denominator.ensures.value c.denominator-denominator.ensures.bounded);
      source = subst (λ n. slice_get c.args.draft.now.integral n ≡ Some true) source whole;
      assigns = subst (λ (s : Sides). FormAssigns c.args.form.now s) own (OnTrue_at t c.assigns.ensures);
    })

pub is_whole-requires-2 : goal.is_whole-requires-2
is_whole-requires-2 c = grind (arith, common_steps)

pub returns-else-is_whole : goal.returns-else-is_whole
returns-else-is_whole c = grind (arith, common_steps)

pub returns-then-not-is_whole : goal.returns-then-not-is_whole
returns-then-not-is_whole c = grind (arith, common_steps)

pub sides-requires : goal.sides-requires
sides-requires c = grind (arith, common_steps)

pub is_whole-requires : goal.is_whole-requires
is_whole-requires c = grind (arith, common_steps)
