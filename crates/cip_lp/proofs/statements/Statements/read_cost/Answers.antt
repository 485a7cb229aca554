use Rattle.std.proofs.Common.{refl, ◌∙◌, subst, List, ℕ}
use Rattle.cip_text_rules.specs.LpPlaces.{NamesObjective}
use Rattle.cip_text_rules.specs.LpTokens.{Colon, Number}
use Rattle.cip_lp.proofs.ReadLaws.{said, read_as, cost_by, cost_token, taken_as, cost_sign, cost_number, misplaced}
use Rattle.cip_lp.specs.LpEvents.{IsTaken}
use Rattle.cip_lp.specs.declared.line_tokens.Token.TheVariants.{Colon as ColonToken, Name as NameToken, Number as NumberToken, Sign as SignToken}
use Rattle.cip_lp.specs.declared.places.Stage.TheVariants.{FirstName as FirstNameStage, TermSign}
use Rattle.cip_lp.specs.LpStages.{where_of}
use Rattle.cip_lp.proofs.StrayLaws.{cost_sign_stray, cost_number_stray, cost_colon_stray}
use Rattle.cip_lp.proofs.statements.Statements.read_cost.Goals as goal

pub returns-in-Name : goal.returns-in-Name
returns-in-Name c =
    read_as c.cost_name.result c.args.self.now c.cost_name.new.self _ _
    (cost_token c.args.self.now c.args.token (NameToken c.in-Name.name) c.in-Name.is) c.cost_name.ensures

pub returns-in_ok-kind-in-FirstName : goal.returns-in_ok-kind-in-FirstName
returns-in_ok-kind-in-FirstName c =
    let names : IsTaken c.args.self.now.draft c.name_objective.new.self
    (NamesObjective c.args.self.now.place.name.items)
    c.in_ok-kind-in-FirstName.kind =
    subst (λ (n : List ℕ). IsTaken c.args.self.now.draft c.name_objective.new.self (NamesObjective n)
    c.in_ok-kind-in-FirstName.kind)
    c.as_slice.ensures.value c.in_ok-kind-in-FirstName.ensures in
    said c.args.self.now _ _ (NamesObjective c.args.self.now.place.name.items) _ c.in_ok-kind-in-FirstName.kind
    (cost_token c.args.self.now c.args.token ColonToken c.in-Colon.is ∙ cost_by c.args.self.now Colon FirstNameStage
    c.in-FirstName.is) names refl

pub returns-in-TermSign : goal.returns-in-TermSign
returns-in-TermSign c =
    taken_as c.args.self.now c.number-in-TermSign.new.self c.number-in-TermSign.result _ _
    (cost_token c.args.self.now c.args.token (NumberToken c.in-Number.text) c.in-Number.is
    ∙ cost_by c.args.self.now (Number c.in-Number.text.now) TermSign c.in-TermSign.is) c.number-in-TermSign.ensures

pub returns-in-Start-stage : goal.returns-in-Start-stage
returns-in-Start-stage c =
    taken_as c.args.self.now c.number.new.self c.number.result _ _
    (cost_token c.args.self.now c.args.token (NumberToken c.in-Number.text) c.in-Number.is
    ∙ cost_number c.args.self.now c.in-Number.text.now c.in-Start-stage.is) c.number.ensures

pub returns-in-Start : goal.returns-in-Start
returns-in-Start c =
    taken_as c.args.self.now c.sign.new.self c.sign.result _ _
    (cost_token c.args.self.now c.args.token (SignToken c.in-Sign.minus) c.in-Sign.is ∙ cost_sign c.args.self.now
    c.in-Sign.minus c.in-Start.is)
    c.sign.ensures

pub returns-in_default-stage : goal.returns-in_default-stage
returns-in_default-stage c =
    misplaced c.args.self.now _ _ (where_of c.args.self.now)
    (cost_token c.args.self.now c.args.token (SignToken c.in-Sign.minus) c.in-Sign.is
    ∙ cost_sign_stray (where_of c.args.self.now) c.args.self.now.place.stage c.args.self.now.place c.in-Sign.minus
    c.in_default-stage.not-Start c.in_default-stage.not-Labelled c.in_default-stage.not-AfterTerm)

pub returns-in_default-stage-2 : goal.returns-in_default-stage-2
returns-in_default-stage-2 c =
    misplaced c.args.self.now _ _ (where_of c.args.self.now)
    (cost_token c.args.self.now c.args.token (NumberToken c.in-Number.text) c.in-Number.is
    ∙ cost_number_stray (where_of c.args.self.now) c.args.self.now.place.stage c.args.self.now.place
    c.in-Number.text.now c.in_default-stage-2.not-Start c.in_default-stage-2.not-Labelled
    c.in_default-stage-2.not-TermSign)

pub returns-in_default-stage-3 : goal.returns-in_default-stage-3
returns-in_default-stage-3 c =
    misplaced c.args.self.now _ _ (where_of c.args.self.now)
    (cost_token c.args.self.now c.args.token ColonToken c.in-Colon.is
    ∙ cost_colon_stray (where_of c.args.self.now) c.args.self.now.place.stage c.args.self.now.place
    c.in_default-stage-3.not-FirstName)
