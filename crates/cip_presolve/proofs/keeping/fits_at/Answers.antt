use Rattle.std.proofs.lemmas.Grind.{common_steps}
use Rattle.std.proofs.Common.{◌≡◌, Ok, sym, ap, ◌∙◌, arith}
use Rattle.std.proofs.lemmas.Bool.{OnTrue_from}
use Rattle.cip_frac.specs.Outcomes.{product_added}
use Rattle.cip_presolve.specs.Forms.{Form}
use Rattle.cip_presolve.proofs.FormsKept.{end_fits, product_fits}
use Rattle.cip_presolve.proofs.keeping.fits_at.Goals as goal

pub returns-in-Ok-clause-fits : goal.returns-in-Ok-clause-fits
returns-in-Ok-clause-fits c =
    let sum : product_added c.args.form.now.constant c.args.form.now.factor c.args.value ≡ Ok c.in-Ok.sum = ap (λ (f : Form). product_added f.constant f.factor c.args.value) (sym c.form.view_is) ∙ sym c.in-Ok.ensures in
    OnTrue_from c.is_whole.result _ (λ t. end_fits c.args.form.now.constant c.args.form.now.factor c.args.value c.in-Ok.sum c.numerator-numerator.result c.denominator-denominator.result sum
    c.numerator-numerator.ensures.value c.numerator-numerator.ensures.bounded c.denominator-denominator.ensures.value c.denominator-denominator.ensures.bounded)

pub returns-in-Ok-clause-product : goal.returns-in-Ok-clause-product
returns-in-Ok-clause-product c =
    let sum : product_added c.args.form.now.constant c.args.form.now.factor c.args.value ≡ Ok c.in-Ok.sum = ap (λ (f : Form). product_added f.constant f.factor c.args.value) (sym c.form.view_is) ∙ sym c.in-Ok.ensures in
    OnTrue_from c.is_whole.result _ (λ t. product_fits c.args.form.now.constant c.args.form.now.factor c.args.value c.in-Ok.sum sum)

pub returns-in-Ok-clause-whole : goal.returns-in-Ok-clause-whole
returns-in-Ok-clause-whole c = OnTrue_from c.is_whole.result _ (λ t. c.is_whole.ensures.0 t)

pub returns-in-Err-clause-fits : goal.returns-in-Err-clause-fits
returns-in-Err-clause-fits c = grind (arith, common_steps)

pub returns-in-Err-clause-product : goal.returns-in-Err-clause-product
returns-in-Err-clause-product c = grind (arith, common_steps)

pub returns-in-Err-clause-whole : goal.returns-in-Err-clause-whole
returns-in-Err-clause-whole c = grind (arith, common_steps)
