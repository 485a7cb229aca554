use Rattle.std.proofs.lemmas.Grind.{common_steps}
use Rattle.std.proofs.Common.{arith}
use Rattle.std.proofs.lemmas.Bool.{ltb-true, ltb-false}
use Rattle.std.proofs.lemmas.List.{length-map}
use Rattle.cip_mps_lines.specs.FirstWords.{texts}
use Rattle.cip_mps_lines.proofs.FieldCuts.{column_few, column_four, column_many}
use Rattle.cip_mps_lines.proofs.sayings.column_said.Goals as goal
use Rattle.cip_mps_lines.proofs.sayings.column_said.Goals.{in_default-via-then-words-lt3, in_default-via-else-words-lt3+else-words-lt4+then-words-lt5, in_default-via-else-words-lt3+else-words-lt4+else-words-lt5+else-words-lt6}

pub returns-in_default : goal.returns-in_default
returns-in_default c =
    let words = texts c.args.words.now in
    let as_many = length-map c.args.words.now (λ word. word.now) in
    elim c.in_default.branch [
      | in_default-via-then-words-lt3 w ↦ column_few c.args.whole words (omega (arith, as_many, ltb-true, ltb-false))
      | in_default-via-else-words-lt3+else-words-lt4+then-words-lt5 w ↦ column_four c.args.whole words (omega (arith, as_many, ltb-true, ltb-false)) (omega (arith, as_many, ltb-true, ltb-false))
      | in_default-via-else-words-lt3+else-words-lt4+else-words-lt5+else-words-lt6 w ↦ column_many c.args.whole words (omega (arith, as_many, ltb-true, ltb-false))
    ]

pub returns-in-len5 : goal.returns-in-len5
returns-in-len5 c = grind (arith, common_steps)

pub returns-in-len3 : goal.returns-in-len3
returns-in-len3 c = grind (arith, common_steps)

pub bounds-words-4 : goal.bounds-words-4
bounds-words-4 c = grind (arith, common_steps)

pub bounds-words-3 : goal.bounds-words-3
bounds-words-3 c = grind (arith, common_steps)

pub bounds-words-2-then-words-lt6 : goal.bounds-words-2-then-words-lt6
bounds-words-2-then-words-lt6 c = grind (arith, common_steps)

pub bounds-words-2 : goal.bounds-words-2
bounds-words-2 c = grind (arith, common_steps)

pub bounds-words-1-then-words-lt6 : goal.bounds-words-1-then-words-lt6
bounds-words-1-then-words-lt6 c = grind (arith, common_steps)

pub bounds-words-0-then-words-lt6 : goal.bounds-words-0-then-words-lt6
bounds-words-0-then-words-lt6 c = grind (arith, common_steps)

pub bounds-words-1 : goal.bounds-words-1
bounds-words-1 c = grind (arith, common_steps)

pub bounds-words-0 : goal.bounds-words-0
bounds-words-0 c = grind (arith, common_steps)

pub slice_bounds-two_values-end-in-len5-3 : goal.slice_bounds-two_values-end-in-len5-3
slice_bounds-two_values-end-in-len5-3 c = grind (arith, common_steps)

pub slice_bounds-two_values-end-in-len5-2 : goal.slice_bounds-two_values-end-in-len5-2
slice_bounds-two_values-end-in-len5-2 c = grind (arith, common_steps)

pub slice_bounds-two_values-end-in-len5 : goal.slice_bounds-two_values-end-in-len5
slice_bounds-two_values-end-in-len5 c = grind (arith, common_steps)

pub slice_bounds-two_values-end : goal.slice_bounds-two_values-end
slice_bounds-two_values-end c = grind (arith, common_steps)

pub slice_bounds-result-end : goal.slice_bounds-result-end
slice_bounds-result-end c = grind (arith, common_steps)

pub slice_bounds-three_said-end-in-len3-2 : goal.slice_bounds-three_said-end-in-len3-2
slice_bounds-three_said-end-in-len3-2 c = grind (arith, common_steps)

pub slice_bounds-three_said-end-in-len3 : goal.slice_bounds-three_said-end-in-len3
slice_bounds-three_said-end-in-len3 c = grind (arith, common_steps)

pub slice_bounds-three_said-end : goal.slice_bounds-three_said-end
slice_bounds-three_said-end c = grind (arith, common_steps)
