use Rattle.cip_lp.specs.LpLines.{token_shown}
use Rattle.cip_lp.specs.LpEvents.{IsTaken}
use Rattle.cip_text_rules.specs.LpPlaces.{Event, AddsCost, unit}
use Rattle.std.proofs.Common.{subst, ap₂, refl, false, ◌∙◌, ap}
use Rattle.cip_lp.proofs.TakenLaws.{cost_said}
use Rattle.cip_lp.specs.declared.places.Stage.TheVariants.{SecondName, TermNumber, FirstName as FirstNameStage}
use Rattle.cip_lp.proofs.ReadLaws.{read_as, taken_as, row_settled, cost_settled, row_waits, row_stops, moved, yes}
use Rattle.cip_lp.specs.LpStages.{where_of}
use Rattle.cip_lp.specs.declared.statements.Statements.{Statements}
use Rattle.cip_lp.proofs.StrayLaws.{cost_settles_none, row_settles_none}
use Rattle.cip_lp.proofs.statements.Statements.settle.Goals as goal

pub returns-in_ok-kind-in-FirstName : goal.returns-in_ok-kind-in-FirstName
returns-in_ok-kind-in-FirstName c =
    let adds : IsTaken c.args.self.now.draft c.add_cost.new.self
    (AddsCost (unit false) c.args.self.now.place.name.items) c.in_ok-kind-in-FirstName.kind =
    subst (λ (event : Event). IsTaken c.args.self.now.draft c.add_cost.new.self event c.in_ok-kind-in-FirstName.kind)
    (ap₂ (λ a n. AddsCost a n) c.unit.ensures c.as_slice-name.ensures.value) c.in_ok-kind-in-FirstName.ensures in
    cost_said c.args.self.now _ (token_shown c.args.token) c.in_ok-kind-in-FirstName.kind c.in-Minimize.is
    c.in-FirstName.is c.if-is_colon.ensures adds refl

pub returns-then-goes_on_with : goal.returns-then-goes_on_with
returns-then-goes_on_with c =
    row_waits c.args.self.now (token_shown c.args.token) c.in-Constraints.is c.in-SecondNumber.is
    c.if-goes_on_with.ensures

pub returns-in-TermNumber : goal.returns-in-TermNumber
returns-in-TermNumber c =
    taken_as c.args.self.now c.settle_cost_number.new.self c.settle_cost_number.result _ _
    (cost_settled c.args.self.now (token_shown c.args.token) TermNumber c.in-Minimize.is c.in-TermNumber.is)
    c.settle_cost_number.ensures

pub returns-in-SecondName : goal.returns-in-SecondName
returns-in-SecondName c =
    read_as c.settle_second_name.result c.args.self.now c.settle_second_name.new.self _ _
    (row_settled c.args.self.now (token_shown c.args.token) SecondName c.in-Constraints.is c.in-SecondName.is)
    c.settle_second_name.ensures

pub returns-in-FirstName-stage : goal.returns-in-FirstName-stage
returns-in-FirstName-stage c =
    read_as c.settle_row_name.result c.args.self.now c.settle_row_name.new.self _ _
    (row_settled c.args.self.now (token_shown c.args.token) FirstNameStage c.in-Constraints.is c.in-FirstName-stage.is)
    c.settle_row_name.ensures

pub returns-then-is_colon : goal.returns-then-is_colon
returns-then-is_colon c =
    moved c.args.self.now _ _ (where_of c.args.self.now)
    (cost_settled c.args.self.now (token_shown c.args.token) FirstNameStage c.in-Minimize.is c.in-FirstName.is
    ∙ yes _ _ _ c.if-is_colon.ensures) refl refl

pub returns-in_ok-end_row-in-SecondNumber : goal.returns-in_ok-end_row-in-SecondNumber
returns-in_ok-end_row-in-SecondNumber c =
    row_stops c.args.self.now c.end_row-in-SecondNumber.new.self (token_shown c.args.token) _
    (ap (λ (s : Statements). s.place.amount.value) c.end_row.view_is) c.in-Constraints.is c.in-SecondNumber.is
    c.if-goes_on_with.ensures c.in_ok-end_row-in-SecondNumber.ensures.draft
    c.in_ok-end_row-in-SecondNumber.ensures.same

pub returns-in_default-stage : goal.returns-in_default-stage
returns-in_default-stage c =
    moved c.args.self.now _ _ (where_of c.args.self.now)
    (cost_settled c.args.self.now (token_shown c.args.token) c.args.self.now.place.stage c.in-Minimize.is refl
    ∙ cost_settles_none (where_of c.args.self.now) c.args.self.now.place.stage c.args.self.now.place
    (token_shown c.args.token)
    c.in_default-stage.not-FirstName c.in_default-stage.not-TermNumber) refl refl

pub returns-in_default-stage-2 : goal.returns-in_default-stage-2
returns-in_default-stage-2 c =
    moved c.args.self.now _ _ (where_of c.args.self.now)
    (row_settled c.args.self.now (token_shown c.args.token) c.args.self.now.place.stage c.in-Constraints.is refl
    ∙ row_settles_none (where_of c.args.self.now) c.args.self.now.place.stage c.args.self.now.place
    (token_shown c.args.token)
    c.in_default-stage-2.not-FirstName c.in_default-stage-2.not-SecondNumber c.in_default-stage-2.not-SecondName) refl
    refl
