use Rattle.std.proofs.Common.{◌≡◌, ◌<◌, length, refl, ap, arith}
use Rattle.cip_problem.specs.Program.{Term}
use Rattle.cip_lagrange.proofs.OneByOne.{term_taken, term_fails, terms_taken}
use Rattle.cip_lagrange.proofs.multipliers.take_terms.Goals as goal

pub loop-term-init : goal.loop-term-init
loop-term-init c = refl

pub bounds-terms-term-index : goal.bounds-terms-term-index
bounds-terms-term-index c = c.loop-term-test.true

pub returns-in-Err : goal.returns-in-Err
returns-in-Err c =
    let column : c.term.inside.col ≡ c.term-item.result.column = ap (λ (t : Term). t.column) c.term.view_is in
    let coefficient : c.term.inside.coef ≡ c.term-item.result.coefficient =
    ap (λ (t : Term). t.coefficient) c.term.view_is in
    let found : c.term-item.result.column < length c.args.rests.now =
    rw (c.term-item.is) (c.requires c.loop-term.term-index c.term-item.result c.loop-term-test.true) in
    term_fails c.args.multiplier c.loop-term.term-index c.args.terms.now c.loop-term.rests _ c.loop-term.invariant
    c.term-item.result c.term.inside.col c.term.inside.coef c.index-rests-at.result c.loop-term-test.true
    c.term-item.is column coefficient (omega (arith, found, column, c.loop-term.auto.rests)) c.index-rests-at.is
    c.in-Err.fault c.in-Err.ensures

pub loop-term-preserved : goal.loop-term-preserved
loop-term-preserved c =
    let column : c.term.inside.col ≡ c.term-item.result.column = ap (λ (t : Term). t.column) c.term.view_is in
    let coefficient : c.term.inside.coef ≡ c.term-item.result.coefficient =
    ap (λ (t : Term). t.coefficient) c.term.view_is in
    let found : c.term-item.result.column < length c.args.rests.now =
    rw (c.term-item.is) (c.requires c.loop-term.term-index c.term-item.result c.loop-term-test.true) in
    term_taken c.args.multiplier c.loop-term.term-index c.args.terms.now c.loop-term.rests _ c.loop-term.invariant
    c.term-item.result c.term.inside.col c.term.inside.coef c.index-rests-at.result c.loop-term-test.true
    c.term-item.is column coefficient (omega (arith, found, column, c.loop-term.auto.rests)) c.index-rests-at.is
    c.in-Ok.less c.in-Ok.ensures

pub returns : goal.returns
returns c =
    terms_taken c.args.multiplier c.loop-term.term-index c.args.terms.now c.loop-term.rests _ c.loop-term.invariant
    c.loop-term-test.false
