use Rattle.std.proofs.Common.{refl, sym, ◌||◌}
use Rattle.cip_lp.proofs.ReadLaws.{done, no, not_name}
use Rattle.cip_text_rules.specs.LpPlaces.{AddsConstant}
use Rattle.cip_lp.proofs.statements.Statements.settle_cost_number.Goals as goal

pub returns : goal.returns
returns c =
    done c.args.self.now _ _ (AddsConstant c.args.self.now.place.amount) _
    (no _ _ _ (λ i. sym c.if-self.false i || not_name c.args.token c.in_default.not-Name i)) refl
    c.add_constant.ensures refl
