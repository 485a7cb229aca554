use Rattle.std.proofs.Common.{◌≡◌, ◌∙◌, ap}
use Rattle.cip_rational.specs.Rational.{negate}
use Rattle.cip_lin.specs.RowSums.{least_added}
use Rattle.cip_presolve.specs.Forms.{Form}
use Rattle.cip_presolve.proofs.FormsKept.{kept_by}
use Rattle.cip_presolve.proofs.keeping.keeps.Goals as goal

pub returns : goal.returns
returns c =
    let constant : c.form.inside.constant ≡ c.args.form.now.constant = ap (λ (f : Form). f.constant) c.form.view_is in
    let factor : c.form.inside.factor ≡ c.args.form.now.factor = ap (λ (f : Form). f.factor) c.form.view_is in
    kept_by c.args.form.now c.args.own c.args.outer c.value_of-low.result c.negated_value-high.result c.add_least.result c.add_least-2.result c.is_inside.result
    c.value_of-low.ensures c.negated_value-high.ensures
    (c.add_least.ensures ∙ ap (λ q. least_added q c.form.inside.factor c.args.own) constant ∙ ap (λ q. least_added c.args.form.now.constant q c.args.own) factor)
    (c.add_least-2.ensures ∙ ap (λ q. least_added q c.neg-2.result c.args.own) (c.neg.ensures ∙ ap negate constant) ∙ ap (λ q. least_added (negate c.args.form.now.constant) q c.args.own) (c.neg-2.ensures ∙ ap negate factor))
    c.is_inside.ensures
