use Rattle.std.proofs.lemmas.Grind.{common_steps}
use Rattle.std.proofs.Common.{◌<◌, ◌≤◌, length, rules, arith}
use Rattle.cip_presolve.specs.PutTerms.{HasMore, HasBoth}
use Rattle.cip_presolve.proofs.TermsPut.{none_put, next_put, all_there, two_put, under_ok}
use Rattle.cip_presolve.proofs.terms.put_all.Goals as goal

pub loop-term-init : goal.loop-term-init
loop-term-init c = none_put c.args.row.now c.args.first c.args.second c.args.terms.now

pub loop-term-preserved : goal.loop-term-preserved
loop-term-preserved c =
    let below : c.loop-term.term-index < length c.args.terms.now = search rules in
    let both : HasBoth c.loop-term.row c.loop-term.one c.loop-term.other c.term-item.result c.put_next.new.row c.put_next.new.first c.put_next.new.second = rw c.if-not-branch.false at c.in_ok-put_next.ensures in
    next_put c.args.row.now c.loop-term.row c.put_next.new.row c.args.first c.args.second c.loop-term.one c.loop-term.other c.put_next.new.first c.put_next.new.second c.args.terms.now c.loop-term.term-index c.term-item.result
    c.loop-term.invariant below c.term-item.is both

pub returns : goal.returns
returns c =
    let past : length c.args.terms.now ≤ c.loop-term.term-index = search rules in
    let more : HasMore c.loop-term.row c.loop-term.one c.put.new.row = rw c.if-not-branch-2.false at c.in_ok-put.ensures in
    under_ok _ (λ m. all_there c.args.row.now c.loop-term.row _ c.args.first c.args.second c.loop-term.one c.loop-term.other c.args.terms.now c.loop-term.term-index c.loop-term.invariant past
    (two_put c.loop-term.row c.put.new.row _ c.loop-term.one c.loop-term.other more m)) c.put-2.ensures

pub bounds-terms-term-index : goal.bounds-terms-term-index
bounds-terms-term-index c = omega arith

pub offset_bounds-terms-term-index : goal.offset_bounds-terms-term-index
offset_bounds-terms-term-index c = grind (arith, common_steps)

pub returns-then-not-branch : goal.returns-then-not-branch
returns-then-not-branch c = grind (arith, common_steps)

pub returns-then-not-branch-2 : goal.returns-then-not-branch-2
returns-then-not-branch-2 c = grind (arith, common_steps)
