use Rattle.std.proofs.Common.{refl, ap, List, ℕ}
use Rattle.cip_text_rules.specs.LpPlaces.{at, FirstName}
use Rattle.cip_lp.specs.LpStages.{where_of}
use Rattle.cip_lp.proofs.ReadLaws.{moved}
use Rattle.cip_lp.proofs.statements.Statements.keep_name.Goals as goal

pub returns : goal.returns
returns c = moved c.args.self.now _ _ _ refl refl (ap (λ (n : List ℕ). at (where_of c.args.self.now) (FirstName n))
    c.in_ok-set_name.ensures)
