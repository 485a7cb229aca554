use Rattle.std.proofs.Common.{refl}
use Rattle.cip_text_rules.specs.LpPlaces.{AddsCost}
use Rattle.cip_lp.proofs.ReadLaws.{said}
use Rattle.cip_lp.proofs.statements.Statements.cost.Goals as goal

pub returns : goal.returns
returns c = said c.args.self.now _ _ (AddsCost c.args.amount.now c.args.name.now) _ c.in_ok-kind.kind refl
    c.in_ok-kind.ensures refl
