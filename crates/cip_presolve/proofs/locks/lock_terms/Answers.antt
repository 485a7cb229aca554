use Rattle.std.proofs.lemmas.Grind.{common_steps}
use Rattle.std.proofs.Common.{◌≡◌, ◌∙◌, refl, ap, arith}
use Rattle.cip_problem.specs.Program.{Term}
use Rattle.cip_presolve.specs.FreeColumns.{turned}
use Rattle.cip_presolve.proofs.Free.{term_lets, term_locks}
use Rattle.cip_presolve.proofs.locks.lock_terms.Goals as goal

pub loop-term-preserved-then-let_fall : goal.loop-term-preserved-then-let_fall
loop-term-preserved-then-let_fall c =
    let coef : c.turned-coef.result ≡ turned c.args.rising c.term-item.result.coefficient =
    c.turned-coef.ensures ∙ ap (λ (t : Term). turned c.args.rising t.coefficient) c.term.view_is in
    term_lets c.args.rising c.args.free.now.items c.loop-term.free.items c.args.low.now c.args.high.now c.args.terms.now c.loop-term.term-index c.term-item.result c.turned-coef.result
    c.loop-term.invariant c.loop-term-test.true c.term-item.is coef c.if-let_fall.ensures.low c.if-let_fall.ensures.high

pub loop-term-preserved : goal.loop-term-preserved
loop-term-preserved c =
    term_locks c.args.rising c.args.free.now.items c.loop-term.free.items _ c.args.low.now c.args.high.now c.args.terms.now c.loop-term.term-index _ c.term-item.result
    c.loop-term.invariant c.loop-term-test.true c.term-item.is (ap (λ (t : Term). t.column) c.term.view_is) refl

pub index_mut-requires : goal.index_mut-requires
index_mut-requires c = grind (arith, common_steps)

pub returns-clause-terms : goal.returns-clause-terms
returns-clause-terms c = grind (arith, common_steps)

pub offset_bounds-terms-term-index : goal.offset_bounds-terms-term-index
offset_bounds-terms-term-index c = grind (arith, common_steps)

pub returns-clause-fewer : goal.returns-clause-fewer
returns-clause-fewer c = grind (arith, common_steps)

pub loop-term-init : goal.loop-term-init
loop-term-init c = grind (arith, common_steps)
