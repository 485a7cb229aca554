use Rattle.std.proofs.lemmas.Grind.{common_steps}
use Rattle.std.proofs.Common.{arith}
use Rattle.cip_frac.proofs.WholeNumbers.{made_lowest, short_step_is, all_ones}
use Rattle.cip_frac.proofs.in_place.whole_number_step.Goals as goal

pub of_lowest-requires : goal.of_lowest-requires
of_lowest-requires c = made_lowest _ _ (c.in-Some.ensures.1, c.in-Some.ensures.2)

pub returns-in-Some : goal.returns-in-Some
returns-in-Some c =
    let ones = all_ones c.terms-n.result.1 c.terms-a.result.1 c.terms-c.result.1 c.terms-n.ensures.lowest.positive c.terms-a.ensures.lowest.positive c.terms-c.ensures.lowest.positive c.if-m-b-ne1.false in
    short_step_is c.args.start c.args.left.now c.args.right.now _ _ _ _ _ _ c.terms-n.ensures.over c.terms-n.ensures.under c.terms-n.ensures.lowest c.terms-a.ensures.over c.terms-a.ensures.under c.terms-a.ensures.lowest c.terms-c.ensures.over c.terms-c.ensures.under c.terms-c.ensures.lowest
    ones.0 ones.1 ones.2 c.in-Some.total c.of_lowest.result c.in-Some.ensures c.of_lowest.ensures

pub returns-then-m-b-ne1 : goal.returns-then-m-b-ne1
returns-then-m-b-ne1 c = grind (arith, common_steps)
