use Rattle.std.proofs.Common.{refl, ◌∙◌, subst, List, ℕ, Some}
use Rattle.cip_text_rules.specs.LpPlaces.{Begins}
use Rattle.cip_text_rules.specs.LpTokens.{Colon}
use Rattle.cip_lp.proofs.ReadLaws.{said, read_as, taken_as, row_by, row_token, misplaced}
use Rattle.cip_lp.specs.LpEvents.{IsTaken}
use Rattle.cip_lp.specs.declared.line_tokens.Token.TheVariants.{Colon as ColonToken, Relates as RelatesToken, Number as NumberToken, Name as NameToken, Sign as SignToken}
use Rattle.cip_lp.specs.declared.places.Stage.TheVariants.{FirstName as FirstNameStage}
use Rattle.cip_lp.specs.LpStages.{where_of}
use Rattle.cip_lp.proofs.StrayLaws.{row_colon_stray}
use Rattle.cip_lp.proofs.statements.Statements.read_row.Goals as goal

pub returns-in-Name : goal.returns-in-Name
returns-in-Name c =
    read_as c.row_name.result c.args.self.now c.row_name.new.self _ _
    (row_token c.args.self.now c.args.token (NameToken c.in-Name.name) c.in-Name.is) c.row_name.ensures

pub returns-in-Sign : goal.returns-in-Sign
returns-in-Sign c =
    read_as c.row_sign.result c.args.self.now c.row_sign.new.self _ _
    (row_token c.args.self.now c.args.token (SignToken c.in-Sign.minus) c.in-Sign.is) c.row_sign.ensures

pub returns-in-Number : goal.returns-in-Number
returns-in-Number c =
    read_as c.row_number.result c.args.self.now c.row_number.new.self _ _
    (row_token c.args.self.now c.args.token (NumberToken c.in-Number.text) c.in-Number.is) c.row_number.ensures

pub returns-in-Relates : goal.returns-in-Relates
returns-in-Relates c =
    taken_as c.args.self.now c.row_relation.new.self c.row_relation.result _ _
    (row_token c.args.self.now c.args.token (RelatesToken c.in-Relates.relation) c.in-Relates.is) c.row_relation.ensures

pub returns-in_ok-kind-in-FirstName : goal.returns-in_ok-kind-in-FirstName
returns-in_ok-kind-in-FirstName c =
    let begins : IsTaken c.args.self.now.draft c.begin_named.new.self (Begins (Some c.args.self.now.place.name.items))
    c.in_ok-kind-in-FirstName.kind =
    subst (λ (n : List ℕ). IsTaken c.args.self.now.draft c.begin_named.new.self (Begins (Some n))
    c.in_ok-kind-in-FirstName.kind)
    c.as_slice.ensures.value c.in_ok-kind-in-FirstName.ensures in
    said c.args.self.now _ _ (Begins (Some c.args.self.now.place.name.items)) _ c.in_ok-kind-in-FirstName.kind
    (row_token c.args.self.now c.args.token ColonToken c.in-Colon.is ∙ row_by c.args.self.now Colon FirstNameStage
    c.in-FirstName.is) begins refl

pub returns-in_default-stage : goal.returns-in_default-stage
returns-in_default-stage c =
    misplaced c.args.self.now _ _ (where_of c.args.self.now)
    (row_token c.args.self.now c.args.token ColonToken c.in-Colon.is
    ∙ row_colon_stray (where_of c.args.self.now) c.args.self.now.place.stage c.args.self.now.place
    c.in_default-stage.not-FirstName)
