use Rattle.std.proofs.lemmas.Grind.{common_steps}
use Rattle.std.proofs.Common.{arith, ◌≡◌, ◌∙◌, ℕ, ◌<◌, List, length, get_or, false, ap, sym}
use borrow.Author.Count.{below_more}
use Rattle.std.proofs.lemmas.List.{get_or_default}
use Rattle.cip_problem.specs.Program.{Choice, Plain}
use Rattle.cip_problem.specs.Choices.{choice_at, is_open}
use Rattle.cip_node_rules.specs.OpenChoices.{is_choice_open}
use Rattle.cip_node_rules.proofs.choices.choice_column.Goals as goal

pub returns : goal.returns
returns c = grind (arith, common_steps)

pub bounds-as_slice-column : goal.bounds-as_slice-column
bounds-as_slice-column c = grind (arith, common_steps)

pub returns-then-is_open : goal.returns-then-is_open
returns-then-is_open c = grind (arith, common_steps)

pub offset_bounds-as_slice-column : goal.offset_bounds-as_slice-column
offset_bounds-as_slice-column c = grind (arith, common_steps)

pub overflow_cast-column : goal.overflow_cast-column
overflow_cast-column c = grind (arith, common_steps)

pub loop-column-init : goal.loop-column-init
loop-column-init c = grind (arith, common_steps)

pub loop-column-preserved : goal.loop-column-preserved
loop-column-preserved c =
    let column = c.loop-column.column in
    let listed : column < length c.args.choices.now =
    omega (arith, c.loop-column-test.true, c.listed-column-end.ensures) in
    let here : c.index-as_slice-column.result ≡ choice_at c.args.choices.now column =
    c.index-as_slice-column.is
    ∙ ap (λ (choices : List Choice). get_or choices column c.index-as_slice-column.result) c.as_slice.ensures
    ∙ get_or_default c.args.choices.now column c.index-as_slice-column.result Plain listed in
    below_more (λ (k : ℕ). is_choice_open c.args.choices.now k ≡ false) column c.loop-column.invariant
    (ap is_open (sym here) ∙ sym c.is_open.ensures ∙ c.if-is_open.false)
