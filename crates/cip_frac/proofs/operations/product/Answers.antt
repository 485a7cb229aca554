use Rattle.std.proofs.lemmas.Grind.{common_steps}
use Rattle.std.proofs.Common.{arith}
use Rattle.cip_frac.proofs.WholeNumbers.{whole_product_is}
use Rattle.cip_frac.proofs.operations.product.Goals as goal

pub returns-then-d-eq1 : goal.returns-then-d-eq1
returns-then-d-eq1 c =
    whole_product_is c.args.left c.args.right _ _ _ _ c.terms-a.ensures.over c.terms-a.ensures.under c.terms-a.ensures.lowest c.terms-c.ensures.over c.terms-c.ensures.under c.terms-c.ensures.lowest
    c.if-b-eq1.true c.if-d-eq1.true c.whole_product.result c.whole_product.ensures

pub returns : goal.returns
returns c = grind (arith, common_steps)
