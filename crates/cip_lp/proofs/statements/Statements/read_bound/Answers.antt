use Rattle.std.proofs.Common.{refl, ap, ◌∙◌, List, ℕ, None}
use Rattle.cip_text_rules.specs.LpPlaces.{SetsBoth}
use Rattle.cip_text_rules.specs.LpTokens.{Sign, Free}
use Rattle.cip_lp.specs.declared.places.Stage.TheVariants.{BoundName, BoundDue}
use Rattle.cip_lp.proofs.ReadLaws.{done, read_as, taken_as, bound_token, bound_by, bound_front_by, misplaced}
use Rattle.cip_lp.specs.declared.line_tokens.Token.TheVariants.{Relates as RelatesToken, Number as NumberToken, Name as NameToken, Sign as SignToken, Free as FreeToken, Infinite as InfiniteToken}
use Rattle.cip_text_rules.specs.LpFacts.{facts_with}
use Rattle.cip_lp.specs.LpStages.{where_of}
use Rattle.cip_lp.proofs.StrayLaws.{bound_sign_stray, bound_free_stray}
use Rattle.cip_lp.proofs.statements.Statements.read_bound.Goals as goal

pub returns-in-BoundName : goal.returns-in-BoundName
returns-in-BoundName c =
    done c.args.self.now _ _ (SetsBoth c.args.self.now.place.name.items None) _
    (bound_token c.args.self.now c.args.token FreeToken c.in-Free.is ∙ bound_by c.args.self.now Free BoundName
    c.in-BoundName.is) refl
    (c.set_both.ensures ∙ ap (λ (m : List ℕ). facts_with c.args.self.now.draft (SetsBoth m None))
    c.as_slice.ensures.value) refl

pub returns-in-BoundDue : goal.returns-in-BoundDue
returns-in-BoundDue c =
    taken_as c.args.self.now c.sign-in-BoundDue.new.self c.sign-in-BoundDue.result _ _
    (bound_token c.args.self.now c.args.token (SignToken c.in-Sign.minus) c.in-Sign.is
    ∙ bound_by c.args.self.now (Sign c.in-Sign.minus) BoundDue c.in-BoundDue.is) c.sign-in-BoundDue.ensures

pub returns-in-Start : goal.returns-in-Start
returns-in-Start c =
    taken_as c.args.self.now c.sign.new.self c.sign.result _ _
    (bound_token c.args.self.now c.args.token (SignToken c.in-Sign.minus) c.in-Sign.is
    ∙ bound_front_by c.args.self.now (Sign c.in-Sign.minus) refl c.in-Start.is) c.sign.ensures

pub returns-in-Infinite : goal.returns-in-Infinite
returns-in-Infinite c =
    taken_as c.args.self.now c.bound_limit-in-Infinite.new.self c.bound_limit-in-Infinite.result _ _
    (bound_token c.args.self.now c.args.token (InfiniteToken c.in-Infinite.text) c.in-Infinite.is)
    c.bound_limit-in-Infinite.ensures.infinite

pub returns-in-Number : goal.returns-in-Number
returns-in-Number c =
    taken_as c.args.self.now c.bound_limit.new.self c.bound_limit.result _ _
    (bound_token c.args.self.now c.args.token (NumberToken c.in-Number.text) c.in-Number.is)
    c.bound_limit.ensures.number

pub returns-in-Relates : goal.returns-in-Relates
returns-in-Relates c =
    taken_as c.args.self.now c.bound_relation.new.self c.bound_relation.result _ _
    (bound_token c.args.self.now c.args.token (RelatesToken c.in-Relates.relation) c.in-Relates.is)
    c.bound_relation.ensures

pub returns-in-Name : goal.returns-in-Name
returns-in-Name c =
    read_as c.bound_name.result c.args.self.now c.bound_name.new.self _ _
    (bound_token c.args.self.now c.args.token (NameToken c.in-Name.name) c.in-Name.is) c.bound_name.ensures

pub returns-in_default-stage : goal.returns-in_default-stage
returns-in_default-stage c =
    misplaced c.args.self.now _ _ (where_of c.args.self.now)
    (bound_token c.args.self.now c.args.token (SignToken c.in-Sign.minus) c.in-Sign.is
    ∙ bound_sign_stray (where_of c.args.self.now) c.args.self.now.place.stage c.args.self.now.place c.in-Sign.minus
    c.in_default-stage.not-Start c.in_default-stage.not-BoundDue c.in_default-stage.not-BoundedName)

pub returns-in_default-stage-2 : goal.returns-in_default-stage-2
returns-in_default-stage-2 c =
    misplaced c.args.self.now _ _ (where_of c.args.self.now)
    (bound_token c.args.self.now c.args.token FreeToken c.in-Free.is
    ∙ bound_free_stray (where_of c.args.self.now) c.args.self.now.place.stage c.args.self.now.place
    c.in_default-stage-2.not-BoundName)
