use Rattle.std.proofs.lemmas.Grind.{common_steps}
use Rattle.std.proofs.Common.{◌≡◌, ◌∙◌, ap₂, arith, refl}
use Rattle.cip_cert.specs.Checks.{chain, rest_of, rest_added}
use Rattle.cip_cert.proofs.Stepwise.{same_item, column_added, column_failed, columns_added}
use Rattle.cip_cert.proofs.walks.bound.Goals as goal

pub loop-at-init : goal.loop-at-init
loop-at-init c = refl

pub bounds-costs-at : goal.bounds-costs-at
bounds-costs-at c = omega (arith, c.loop-at-test.true, c.requires.costs)

pub bounds-entries-at : goal.bounds-entries-at
bounds-entries-at c = omega (arith, c.loop-at-test.true, c.requires.room)

pub bounds-sides-at : goal.bounds-sides-at
bounds-sides-at c = c.loop-at-test.true

pub bounds-costs-at-then-not-step : goal.bounds-costs-at-then-not-step
bounds-costs-at-then-not-step c = omega (arith, c.loop-at-test.true, c.requires.costs)

pub bounds-entries-at-then-not-step : goal.bounds-entries-at-then-not-step
bounds-entries-at-then-not-step c = omega (arith, c.loop-at-test.true, c.requires.room)

pub bounds-sides-at-then-not-step : goal.bounds-sides-at-then-not-step
bounds-sides-at-then-not-step c = c.loop-at-test.true

pub loop-at-preserved : goal.loop-at-preserved
loop-at-preserved c =
    column_added c.loop-at.at c.loop-at.sum c.args.costs.now c.args.entries.now c.args.sides.now _ c.loop-at.invariant
    c.index-costs-at.result c.index-entries-at.result c.index-sides-at.result
    (omega (arith, c.loop-at-test.true, c.requires.costs)) (omega
    (arith, c.loop-at-test.true, c.requires.room)) c.loop-at-test.true
    c.index-costs-at.is c.index-entries-at.is c.index-sides-at.is c.step.new.sum c.if-not-step.ensures

pub returns-then-not-step : goal.returns-then-not-step
returns-then-not-step c =
    let sum = c.if-not-step.ensures.1 in
    let cost : c.index-costs-at-then-not-step.result ≡ c.index-costs-at.result = same_item c.args.costs.now c.loop-at.at
    _ _ (omega (arith, c.loop-at-test.true, c.requires.costs)) c.index-costs-at-then-not-step.is c.index-costs-at.is
    in
    let entry : c.index-entries-at-then-not-step.result ≡ c.index-entries-at.result = same_item c.args.entries.now
    c.loop-at.at _ _ (omega (arith, c.loop-at-test.true, c.requires.room)) c.index-entries-at-then-not-step.is
    c.index-entries-at.is in
    let sides : c.index-sides-at-then-not-step.result ≡ c.index-sides-at.result = same_item c.args.sides.now
    c.loop-at.at _ _ c.loop-at-test.true c.index-sides-at-then-not-step.is c.index-sides-at.is in
    c.add_column.ensures
    ∙ ap₂ (λ q d. chain (rest_of c.loop-at.at q d) (λ rest. rest_added c.loop-at.at c.step.new.sum rest
    c.index-sides-at-then-not-step.result)) cost entry
    ∙ ap₂ (λ s v. chain (rest_of c.loop-at.at c.index-costs-at.result c.index-entries-at.result)
    (λ rest. rest_added c.loop-at.at s rest v)) sum sides
    ∙ column_failed c.loop-at.at c.loop-at.sum c.args.costs.now c.args.entries.now c.args.sides.now _
    c.loop-at.invariant
    c.index-costs-at.result c.index-entries-at.result c.index-sides-at.result
    (omega (arith, c.loop-at-test.true, c.requires.costs)) (omega
    (arith, c.loop-at-test.true, c.requires.room)) c.loop-at-test.true
    c.index-costs-at.is c.index-entries-at.is c.index-sides-at.is c.if-not-step.ensures.0

pub returns : goal.returns
returns c = columns_added c.loop-at.at c.loop-at.sum c.args.costs.now c.args.entries.now c.args.sides.now _
    c.loop-at.invariant (omega (arith, c.loop-at-test.false, c.requires.costs))

pub offset_bounds-costs-at-then-not-step : goal.offset_bounds-costs-at-then-not-step
offset_bounds-costs-at-then-not-step c = omega arith

pub offset_bounds-entries-at-then-not-step : goal.offset_bounds-entries-at-then-not-step
offset_bounds-entries-at-then-not-step c = omega arith

pub offset_bounds-sides-at-then-not-step : goal.offset_bounds-sides-at-then-not-step
offset_bounds-sides-at-then-not-step c = omega arith

pub offset_bounds-sides-at : goal.offset_bounds-sides-at
offset_bounds-sides-at c = grind (arith, common_steps)

pub offset_bounds-entries-at : goal.offset_bounds-entries-at
offset_bounds-entries-at c = grind (arith, common_steps)

pub offset_bounds-costs-at : goal.offset_bounds-costs-at
offset_bounds-costs-at c = grind (arith, common_steps)
