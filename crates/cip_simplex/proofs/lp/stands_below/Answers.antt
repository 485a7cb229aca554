use Rattle.std.proofs.lemmas.Grind.{common_steps}
use Rattle.std.proofs.Common.{◌≡◌, ◌<◌, take, subst, refl, arith}
use Rattle.std.proofs.lemmas.List.{take_all}
use Rattle.std.proofs.lemmas.List.Elements.{All-more}
use Rattle.cip_problem.specs.Program.{Term}
use Rattle.cip_problem.specs.Activity.{StandsBelow}
use Rattle.cip_simplex.proofs.lp.stands_below.Goals as goal

pub loop-term-preserved : goal.loop-term-preserved
loop-term-preserved c =
    All-more (λ (t : Term). t.column < c.args.columns) c.args.terms.now c.loop-term.term-index c.term-item.result c.loop-term-test.true c.loop-term.invariant
    (subst (λ (t : Term). t.column < c.args.columns) c.term-item.is (subst (λ (t : Term). t.column < c.args.columns) c.term.view_is c.if-term-columns.false))

pub returns : goal.returns
returns c =
    let all : take c.loop-term.term-index c.args.terms.now ≡ c.args.terms.now = take_all c.loop-term.term-index c.args.terms.now (omega arith) in
    let every : StandsBelow c.args.columns c.args.terms.now = subst (StandsBelow c.args.columns) all c.loop-term.invariant in
    ((λ t. every), (λ h. refl))

pub loop-term-init : goal.loop-term-init
loop-term-init c = grind (arith, common_steps)

pub returns-then-term-columns : goal.returns-then-term-columns
returns-then-term-columns c = grind (arith, common_steps)

pub offset_bounds-terms-term-index : goal.offset_bounds-terms-term-index
offset_bounds-terms-term-index c = grind (arith, common_steps)
