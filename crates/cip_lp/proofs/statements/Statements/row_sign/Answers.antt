use Rattle.std.proofs.Common.{refl, None}
use Rattle.cip_text_rules.specs.LpPlaces.{Begins}
use Rattle.cip_text_rules.specs.LpTokens.{Sign}
use Rattle.cip_lp.specs.declared.places.Stage.TheVariants.{Start, Labelled, SecondStart, AfterTerm, LastDue}
use Rattle.cip_lp.proofs.ReadLaws.{said, taken_as, row_by, misplaced}
use Rattle.cip_lp.specs.LpStages.{where_of}
use Rattle.cip_lp.proofs.StrayLaws.{row_sign_stray}
use Rattle.cip_lp.proofs.statements.Statements.row_sign.Goals as goal

pub returns-in-LastDue : goal.returns-in-LastDue
returns-in-LastDue c =
    taken_as c.args.self.now c.sign-in-LastDue.new.self c.sign-in-LastDue.result _ _
    (row_by c.args.self.now (Sign c.args.minus) LastDue c.in-LastDue.is) c.sign-in-LastDue.ensures

pub returns-in-AfterTerm : goal.returns-in-AfterTerm
returns-in-AfterTerm c =
    taken_as c.args.self.now c.sign-in-AfterTerm.new.self c.sign-in-AfterTerm.result _ _
    (row_by c.args.self.now (Sign c.args.minus) AfterTerm c.in-AfterTerm.is) c.sign-in-AfterTerm.ensures

pub returns-in-SecondStart : goal.returns-in-SecondStart
returns-in-SecondStart c =
    taken_as c.args.self.now c.sign-in-SecondStart.new.self c.sign-in-SecondStart.result _ _
    (row_by c.args.self.now (Sign c.args.minus) SecondStart c.in-SecondStart.is) c.sign-in-SecondStart.ensures

pub returns-in-Labelled : goal.returns-in-Labelled
returns-in-Labelled c =
    taken_as c.args.self.now c.sign.new.self c.sign.result _ _
    (row_by c.args.self.now (Sign c.args.minus) Labelled c.in-Labelled.is) c.sign.ensures

pub returns-in_ok-kind-in-Start : goal.returns-in_ok-kind-in-Start
returns-in_ok-kind-in-Start c =
    said c.args.self.now _ _ (Begins None) _ c.in_ok-kind-in-Start.kind
    (row_by c.args.self.now (Sign c.args.minus) Start c.in-Start.is)
    c.in_ok-kind-in-Start.ensures refl

pub returns-in_default : goal.returns-in_default
returns-in_default c =
    misplaced c.args.self.now _ _ (where_of c.args.self.now)
    (row_sign_stray (where_of c.args.self.now) c.args.self.now.place.stage c.args.self.now.place c.args.minus
    c.in_default.not-Start c.in_default.not-Labelled c.in_default.not-SecondStart c.in_default.not-AfterTerm
    c.in_default.not-LastDue)
