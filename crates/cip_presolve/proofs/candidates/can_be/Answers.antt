use Rattle.cip_presolve.proofs.FormsKept.{fits_by}
use Rattle.std.proofs.Common.{◌∙◌, sym, true≢false}
use Rattle.std.proofs.lemmas.Bool.{OnTrue_from}
use Rattle.cip_presolve.proofs.candidates.can_be.Goals as goal

pub returns-then-whole-clause-in_range : goal.returns-then-whole-clause-in_range
returns-then-whole-clause-in_range c =
    fits_by c.args.value c.numerator-numerator.result c.denominator-denominator.result c.numerator-numerator.ensures.value c.numerator-numerator.ensures.bounded c.denominator-denominator.ensures.value c.denominator-denominator.ensures.bounded

pub returns-clause-in_range : goal.returns-clause-in_range
returns-clause-in_range c =
    fits_by c.args.value c.numerator-numerator.result c.denominator-denominator.result c.numerator-numerator.ensures.value c.numerator-numerator.ensures.bounded c.denominator-denominator.ensures.value c.denominator-denominator.ensures.bounded

pub returns-then-whole-clause-whole : goal.returns-then-whole-clause-whole
returns-then-whole-clause-whole c = OnTrue_from c.is_whole.result _ (λ t h. c.is_whole.ensures.0 t)

pub returns-clause-whole : goal.returns-clause-whole
returns-clause-whole c = λ h. absurd (true≢false (sym h ∙ c.if-whole.false))
