use Rattle.std.proofs.Common.{◌∙◌, ap, sym, cond}
use Rattle.cip_rational.proofs.Comparisons.{is_le-compare}
use Rattle.cip_master.proofs.lowering.least.Goals as goal

pub returns-then-le : goal.returns-then-le
returns-then-le c = sym (ap (λ t. cond t c.args.price c.args.value)
    (sym (c.le.ensures ∙ is_le-compare _ _) ∙ c.if-le.true))

pub returns-else-le : goal.returns-else-le
returns-else-le c = sym (ap (λ t. cond t c.args.price c.args.value)
    (sym (c.le.ensures ∙ is_le-compare _ _) ∙ c.if-le.false))
