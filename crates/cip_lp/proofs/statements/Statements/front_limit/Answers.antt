use Rattle.std.proofs.Common.{refl, ap}
use Rattle.cip_text_rules.specs.LpPlaces.{at, Limit, LimitRead as LimitIsRead}
use Rattle.cip_lp.specs.LpStages.{where_of}
use Rattle.cip_lp.proofs.ReadLaws.{moved, too_fine}
use Rattle.cip_lp.proofs.statements.Statements.front_limit.Goals as goal

pub returns-in-None : goal.returns-in-None
returns-in-None c = too_fine c.args.self.now _ _ (where_of c.args.self.now)
    (c.in-None.ensures (where_of c.args.self.now) _)

pub returns-in-Some : goal.returns-in-Some
returns-in-Some c =
    moved c.args.self.now _ _ _ (c.in-Some.ensures.some (where_of c.args.self.now) _) refl
    (ap (λ (l : Limit). at (where_of c.args.self.now) (LimitIsRead l)) c.in-Some.ensures.is)
