use Rattle.std.proofs.lemmas.Grind.{common_steps}
use Rattle.std.proofs.Common.{length, ap, ◌∙◌, arith}
use Rattle.std.proofs.lemmas.List.{length-replicate}
use Rattle.cip_rational.specs.Rational.{zeroℚ}
use Rattle.cip_price.proofs.work.PriceWork.new.Goals as goal

pub returns-clause-ready : goal.returns-clause-ready
returns-clause-ready c = record {
  master = c.in-Ok-master_of.ensures;
  row =
      ap length c.in-Ok.ensures.row ∙ length-replicate c.columns-columns.result zeroℚ
      ∙ c.columns-columns.ensures.count;
  fits = c.in-Ok-new.ensures;
}

pub new-requires-2 : goal.new-requires-2
new-requires-2 c = grind (arith, common_steps)

pub returns-in_default-clause-ready : goal.returns-in_default-clause-ready
returns-in_default-clause-ready c = grind (arith, common_steps)

pub returns-in_default-clause-best : goal.returns-in_default-clause-best
returns-in_default-clause-best c = grind (arith, common_steps)

pub returns-clause-best : goal.returns-clause-best
returns-clause-best c = grind (arith, common_steps)

pub new-requires : goal.new-requires
new-requires c = grind (arith, common_steps)
