use Rattle.cip_presolve.proofs.keeping.assigns.Goals.{then-is_whole, else-is_whole}
use Rattle.cip_presolve.proofs.PartsRead.{assigned_on}
use Rattle.cip_presolve.specs.Forms.{Form}
use Rattle.cip_problem.specs.Program.{Sides}
use Rattle.cip_rational.specs.Rational.{IsWhole}
use Rattle.std.proofs.lemmas.Grind.{common_steps}
use Rattle.std.proofs.Common.{arith, ◌∙◌, ap, sym, subst, true≢false}
use Rattle.cip_presolve.proofs.keeping.assigns.Goals as goal

pub returns-else-fits_at : goal.returns-else-fits_at
returns-else-fits_at c = grind (arith, common_steps)

pub returns-then-fits_at : goal.returns-then-fits_at
returns-then-fits_at c =
    let parts : IsWhole c.form.inside.constant × IsWhole c.form.inside.factor = elim c.if-is_whole.branch [
      | then-is_whole w ↦ (
        c.is_whole.ensures.0 w.if-is_whole.true,
        w.is_whole-then-is_whole.ensures.0
            (sym w.value-is ∙ c.if-not-is_whole.false),
      )
      | else-is_whole w ↦ absurd (true≢false (sym c.if-not-is_whole.false ∙ w.value-is ∙ w.if-is_whole.false))
    ] in
    assigned_on c.args.form.now c.args.own c.in-Some.low c.in-Some-high.high c.fits_at-then-fits_at.result
    (sym (ap (λ (s : Sides). s.low) c.own.view_is) ∙ c.in-Some.is)
    (sym (ap (λ (s : Sides). s.high) c.own.view_is) ∙ c.in-Some-high.is)
    (sym c.cross.ensures ∙ c.if-cross.false)
    (subst IsWhole (ap (λ (f : Form). f.constant) c.form.view_is) parts.0)
    (subst IsWhole (ap (λ (f : Form). f.factor) c.form.view_is) parts.1)
    c.if-fits_at.ensures.whole c.if-fits_at.ensures.fits c.if-fits_at.ensures.product
    c.fits_at-then-fits_at.ensures.whole c.fits_at-then-fits_at.ensures.fits c.fits_at-then-fits_at.ensures.product
