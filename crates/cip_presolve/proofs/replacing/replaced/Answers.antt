use Rattle.std.proofs.lemmas.Grind.{common_steps}
use Rattle.std.proofs.Common.{◌≡◌, List, refl, ap, ◌∙◌, subst, arith}
use Rattle.cip_rational.specs.Rational.{◌*ℚ◌}
use Rattle.cip_problem.specs.Program.{Term, Row}
use Rattle.cip_presolve.specs.Forms.{Form}
use Rattle.cip_presolve.specs.RowSteps.{side_less}
use Rattle.cip_presolve.specs.PutTerms.{HasAll}
use Rattle.cip_presolve.proofs.RowsReplaced.{replaced_is}
use Rattle.cip_presolve.proofs.replacing.replaced.Goals as goal

pub returns-then-whole : goal.returns-then-whole
returns-then-whole c =
    let shift : c.in-Ok.shift ≡ c.coef_on-coef.result *ℚ c.args.form.now.constant = c.in-Ok.ensures.1 ∙ ap (λ (f : Form). c.coef_on-coef.result *ℚ f.constant) c.form.view_is in
    let more : c.in-Ok-mul.more ≡ c.coef_on-coef.result *ℚ c.args.form.now.factor = c.in-Ok-mul.ensures.1 ∙ ap (λ (f : Form). c.coef_on-coef.result *ℚ f.factor) c.form.view_is in
    let source : c.form.inside.source ≡ c.args.form.now.source = ap (λ (f : Form). f.source) c.form.view_is in
    let own : Term = record { column = c.args.column; coefficient = c.neg.result } in
    let other : Term = record { column = c.form.inside.source; coefficient = c.in-Ok-mul.more } in
    let all : HasAll c.empty-new.result own other c.terms-2.result.now c.put_both.new.new = rw c.if-whole.true at c.in-Ok-put_both.ensures in
    replaced_is c.args.row.now c.empty-new.result c.put_both.new.new own other c.args.column c.args.form.now c.coef_on-coef.result c.in-Ok.shift c.in-Ok-mul.more shift more refl c.neg.ensures source refl
    (ap (λ (r : Row). r.terms) c.empty-new.ensures)
    (ap (λ (r : Row). r.low) c.empty-new.ensures ∙ c.in-Some.ensures ∙ ap (λ o. side_less o c.in-Ok.shift) c.low.ensures)
    (ap (λ (r : Row). r.high) c.empty-new.ensures ∙ c.in-Some-less.ensures ∙ ap (λ o. side_less o c.in-Ok.shift) c.high.ensures)
    (subst (λ (ts : List Term). HasAll c.empty-new.result own other ts c.put_both.new.new) c.terms-2.ensures.terms all)

pub returns : goal.returns
returns c = grind (arith, common_steps)

pub returns-in_default-mul : goal.returns-in_default-mul
returns-in_default-mul c = grind (arith, common_steps)

pub returns-in_default : goal.returns-in_default
returns-in_default c = grind (arith, common_steps)

pub returns-then-is_zero : goal.returns-then-is_zero
returns-then-is_zero c = grind (arith, common_steps)
