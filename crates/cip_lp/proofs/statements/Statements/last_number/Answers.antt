use Rattle.std.proofs.Common.{ap, ◌∙◌}
use Rattle.cip_text_rules.specs.LpPlaces.{Amount}
use Rattle.cip_text_rules.specs.LpGrammar.{amount_in}
use Rattle.cip_lp.specs.LpKinds.{relation_shown}
use Rattle.cip_lp.specs.LpStages.{where_of, given_of}
use Rattle.cip_lp.specs.declared.places.Stage.TheVariants.{Start}
use Rattle.cip_lp.proofs.ReadLaws.{numberless, row_done}
use Rattle.cip_lp.proofs.statements.Statements.last_number.Goals as goal

pub returns-in-Err : goal.returns-in-Err
returns-in-Err c = numberless c.args.self.now _ (where_of c.args.self.now) c.args.text.now _ c.in-Err.kind
    c.in-Err.ensures

pub returns-in_ok-end_row-in-Ok : goal.returns-in_ok-end_row-in-Ok
returns-in_ok-end_row-in-Ok c =
    let place = c.args.self.now.place in
    row_done c.args.self.now c.end_row.new.self _ (given_of place) (relation_shown place.relation) _
    (amount_in c.args.minus c.args.text.now).value Start
    (ap (λ (a : Amount). a.value) (c.amount.view_is ∙ c.in-Ok.ensures.is))
    (c.in-Ok.ensures.some _ _) c.in_ok-end_row-in-Ok.ensures.draft c.in_ok-end_row-in-Ok.ensures.same
