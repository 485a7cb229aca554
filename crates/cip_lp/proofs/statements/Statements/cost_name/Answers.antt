use Rattle.cip_text_rules.specs.LpTokens.{Name}
use Rattle.cip_lp.specs.declared.places.Stage.TheVariants.{Start, Labelled, TermSign, TermNumber}
use Rattle.cip_lp.proofs.ReadLaws.{read_as, cost_term, cost_by, misplaced}
use Rattle.cip_lp.specs.LpStages.{where_of}
use Rattle.cip_lp.proofs.StrayLaws.{cost_name_stray}
use Rattle.cip_lp.proofs.statements.Statements.cost_name.Goals as goal

pub returns-in-TermSign : goal.returns-in-TermSign
returns-in-TermSign c =
    cost_term c.cost-in-TermSign.result c.args.self.now c.cost-in-TermSign.new.self c.args.name.now
    c.unit-in-TermSign.result _ _ c.unit-in-TermSign.ensures
    (cost_by c.args.self.now (Name c.args.name.now) TermSign c.in-TermSign.is) c.cost-in-TermSign.ensures

pub returns-in-Labelled : goal.returns-in-Labelled
returns-in-Labelled c =
    cost_term c.cost.result c.args.self.now c.cost.new.self c.args.name.now c.unit.result _ _ c.unit.ensures
    (cost_by c.args.self.now (Name c.args.name.now) Labelled c.in-Labelled.is) c.cost.ensures

pub returns-in-TermNumber : goal.returns-in-TermNumber
returns-in-TermNumber c =
    read_as c.cost-in-TermNumber.result c.args.self.now c.cost-in-TermNumber.new.self _ _
    (cost_by c.args.self.now (Name c.args.name.now) TermNumber c.in-TermNumber.is) c.cost-in-TermNumber.ensures

pub returns-in-Start : goal.returns-in-Start
returns-in-Start c =
    read_as c.keep_name.result c.args.self.now c.keep_name.new.self _ _
    (cost_by c.args.self.now (Name c.args.name.now) Start c.in-Start.is)
    c.keep_name.ensures

pub returns-in_default : goal.returns-in_default
returns-in_default c =
    misplaced c.args.self.now _ _ (where_of c.args.self.now)
    (cost_name_stray (where_of c.args.self.now) c.args.self.now.place.stage c.args.self.now.place c.args.name.now
    c.in_default.not-Start c.in_default.not-Labelled c.in_default.not-TermSign c.in_default.not-TermNumber)
