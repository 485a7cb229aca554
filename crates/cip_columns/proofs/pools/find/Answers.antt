use Rattle.std.proofs.Common.{◌∙◌, ◌-◌, ◌≤◌, get_or, arith, sym, true≢false}
use Rattle.cip_columns.proofs.Chains.{passed_first, passed_next, none_left, found}
use Rattle.cip_columns.proofs.pools.find.Goals as goal

pub chain-init : goal.chain-init
chain-init c = passed_first c.args.points.now c.args.block c.args.values.now c.args.first c.requires.first

pub chain-preserved : goal.chain-preserved
chain-preserved c =
    passed_next c.args.points.now c.args.links.now c.args.block c.args.values.now c.chain.link (c.chain.link - 1)
    c.index-points-at.result (omega (arith, c.chain-test.true)) c.requires.next c.chain.invariant
    c.index-points-at.is (λ s. true≢false (sym (c.is.ensures.1 s) ∙ c.if-is.false))

pub returns-then-is : goal.returns-then-is
returns-then-is c =
    found c.args.points.now c.args.block c.args.values.now (c.chain.link - 1) c.index-points-at.result
    c.requires.counted (omega (arith, c.chain.invariant.within, c.chain-test.true)) c.index-points-at.is
    (c.is.ensures.0 c.if-is.true)

pub returns : goal.returns
returns c = none_left c.args.points.now c.args.block c.args.values.now c.chain.link
    (omega (arith, c.chain-test.false)) c.chain.invariant

pub chain-smaller : goal.chain-smaller
chain-smaller c =
    let w : get_or c.args.links.now (c.chain.link - 1) 0 ≤ c.chain.link - 1 =
    (c.requires.next (c.chain.link - 1) c.index-points-at.result
    (omega (arith, c.chain.invariant.within, c.chain-test.true))).within in
    omega (arith, w, c.chain-test.true)
