use Rattle.std.proofs.lemmas.Grind.{common_steps}
use Rattle.std.proofs.Common.{Some, sym, ap, ◌∙◌, arith}
use Rattle.cip_rational.proofs.Comparisons.{is_le-compare}
use Rattle.cip_price.specs.BlockAsks.{closes}
use Rattle.cip_price.proofs.block_rounds.closes.Goals as goal

pub returns-in-Finite : goal.returns-in-Finite
returns-in-Finite c =
    c.le.ensures ∙ (is_le-compare _ _ ∙ sym (ap (closes c.args.price) (c.in-Some.is ∙ ap Some c.in-Finite.is)))

pub returns-in-NoPoint : goal.returns-in-NoPoint
returns-in-NoPoint c = grind (arith, common_steps)

pub returns-in_default : goal.returns-in_default
returns-in_default c = grind (arith, common_steps)
