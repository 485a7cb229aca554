use Rattle.std.proofs.Common.{refl}
use Rattle.cip_text_rules.specs.LpPlaces.{Adds}
use Rattle.cip_lp.proofs.ReadLaws.{said}
use Rattle.cip_lp.proofs.statements.Statements.term.Goals as goal

pub returns : goal.returns
returns c = said c.args.self.now _ _ (Adds c.args.amount.now c.args.name.now) _ c.in_ok-kind.kind refl
    c.in_ok-kind.ensures refl
