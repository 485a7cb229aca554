use Rattle.std.proofs.lemmas.Grind.{common_steps}
use Rattle.std.proofs.Common.{arith, ◌≡◌, ◌∙◌, ℕ, ◌<◌, length, false, not, ap, sym}
use borrow.Author.Count.{below_more}
use Rattle.std.proofs.lemmas.List.{get_or_default}
use Rattle.cip_rational.specs.Rational.{ℚ, zeroℚ}
use Rattle.cip_problem.specs.Activity.{value_at}
use Rattle.cip_problem.specs.Choices.{choice_at}
use Rattle.cip_lin.specs.ChoiceParts.{is_allowed}
use Rattle.cip_node_rules.specs.OpenChoices.{is_unallowed}
use Rattle.cip_node_rules.proofs.choices.unallowed_column.Goals as goal

pub returns : goal.returns
returns c = grind (arith, common_steps)

pub returns-then-not-allows : goal.returns-then-not-allows
returns-then-not-allows c = grind (arith, common_steps)

pub bounds-point-column : goal.bounds-point-column
bounds-point-column c = grind (arith, common_steps)

pub overflow_cast-column : goal.overflow_cast-column
overflow_cast-column c = grind (arith, common_steps)

pub offset_bounds-point-column : goal.offset_bounds-point-column
offset_bounds-point-column c = grind (arith, common_steps)

pub loop-column-init : goal.loop-column-init
loop-column-init c = grind (arith, common_steps)

pub listed-column-end-requires : goal.listed-column-end-requires
listed-column-end-requires c = grind (arith, common_steps)

pub loop-column-preserved : goal.loop-column-preserved
loop-column-preserved c =
    let column = c.loop-column.column in
    let valued : column < length c.args.point.now =
    omega (arith, c.loop-column-test.true, c.listed-column-end.ensures, c.requires.values) in
    let here : c.index-point-column.result ≡ value_at c.args.point.now column =
    c.index-point-column.is
    ∙ get_or_default c.args.point.now column c.index-point-column.result zeroℚ valued in
    below_more (λ (k : ℕ). is_unallowed c.args.choices.now c.args.point.now k ≡ false) column c.loop-column.invariant
    (ap (λ (value : ℚ). not (is_allowed (choice_at c.args.choices.now column) value)) (sym here)
    ∙ ap not (sym c.allows.ensures ∙ c.if-not-allows.false))
