use Rattle.std.proofs.lemmas.Grind.{common_steps}
use Rattle.std.proofs.Common.{◌≡◌, ◌∙◌, true, All, ap, sym, subst, arith}
use Rattle.cip_problem.specs.Program.{Program}
use Rattle.cip_problem.specs.WellFormed.{IsWellFormed}
use Rattle.cip_problem.proofs.Choices.Decided.{decided_formed}
use Rattle.cip_model.specs.Verdicts.{verdict_of}
use Rattle.cip_model.proofs.Meaning.Point.{verdict_is_right}
use Rattle.cip_leaf.proofs.ChoicesMade.{whole_verdict}
use Rattle.cip_leaf.proofs.decided.Decided.check_whole.Goals as goal

pub returns-clause-verdict : goal.returns-clause-verdict
returns-clause-verdict c =
    let point = c.args.point.now in
    let whole = subst (λ (p : Program). All (λ whole. whole ≡ true) p.integral) (sym c.self.view_is) c.requires.whole in
    c.check.ensures.verdict
    ∙ whole_verdict c.self.inside.program.now c.self.inside.on.now point c.columns-columns.ensures.formed whole
    ∙ ap (λ (p : Program). verdict_of p point) c.self.view_is

pub returns-clause-meaning : goal.returns-clause-meaning
returns-clause-meaning c =
    let formed = subst IsWellFormed c.self.view_is (decided_formed c.self.inside.program.now c.self.inside.on.now c.columns-columns.ensures.formed) in
    verdict_is_right c.args.self.now c.args.point.now c.check.result (returns-clause-verdict c) formed c.requires.long

pub check-requires : goal.check-requires
check-requires c = grind (arith, common_steps)
