use Rattle.cip_lp.specs.LpEvents.{IsTaken}
use Rattle.cip_text_rules.specs.LpPlaces.{Event, Adds}
use Rattle.std.proofs.Common.{refl, ap, subst, None}
use Rattle.cip_lp.proofs.TakenLaws.{said_else}
use Rattle.cip_lp.specs.LpKinds.{relation_shown}
use Rattle.cip_lp.proofs.ReadLaws.{row_done, yes}
use Rattle.cip_lp.specs.declared.places.Stage.TheVariants.{FirstName as FirstNameStage}
use Rattle.cip_lp.specs.declared.statements.Statements.{Statements}
use Rattle.cip_lp.proofs.statements.Statements.settle_second_name.Goals as goal

pub returns : goal.returns
returns c =
    let adds : IsTaken c.args.self.now.draft c.add_term.new.self
    (Adds c.args.self.now.place.amount c.args.self.now.place.name.items) c.in-Ok.kind =
    subst (λ (event : Event). IsTaken c.args.self.now.draft c.add_term.new.self event c.in-Ok.kind)
    (ap (λ n. Adds c.args.self.now.place.amount n) c.as_slice.ensures.value) c.in-Ok.ensures in
    said_else c.args.self.now _ _ _ c.if-is_colon.ensures _ c.in-Ok.kind
    (Adds c.args.self.now.place.amount c.args.self.now.place.name.items) adds refl

pub returns-then-is_colon : goal.returns-then-is_colon
returns-then-is_colon c =
    let place = c.args.self.now.place in
    row_done c.args.self.now c.end_row-then-is_colon.new.self _ None (relation_shown place.first_relation) _
    place.amount.value
    FirstNameStage (ap (λ (s : Statements). s.place.amount.value) c.end_row.view_is) (yes _ _ _ c.if-is_colon.ensures)
    c.in_ok-end_row.ensures.draft c.in_ok-end_row.ensures.same
