use Rattle.std.proofs.lemmas.Grind.{common_steps}
use Rattle.std.proofs.Common.{arith}
use Rattle.std.proofs.lemmas.Bool.{ltb-true, ltb-false}
use Rattle.std.proofs.lemmas.List.{length-map}
use Rattle.cip_mps_lines.specs.FirstWords.{texts}
use Rattle.cip_mps_lines.specs.MpsKinds.{bound_kind_in}
use Rattle.cip_mps_lines.proofs.SetLines.{valued_few, valued_many}
use Rattle.cip_mps_lines.proofs.set_lines.valued_bound.Goals as goal
use Rattle.cip_mps_lines.proofs.set_lines.valued_bound.Goals.{in_default-via-then-words-lt2, in_default-via-else-words-lt2+else-words-lt3+else-words-lt4}

pub returns-in_default : goal.returns-in_default
returns-in_default c =
    let first = c.args.place.now.set_name in
    let kind = bound_kind_in c.args.kind in
    let words = texts c.args.words.now in
    let as_many = length-map c.args.words.now (λ word. word.now) in
    elim c.in_default.branch [
      | in_default-via-then-words-lt2 w ↦ valued_few first kind words (omega (arith, as_many, ltb-true, ltb-false))
      | in_default-via-else-words-lt2+else-words-lt3+else-words-lt4 w ↦ valued_many first kind words (omega (arith, as_many, ltb-true, ltb-false))
    ]

pub returns-in-len3 : goal.returns-in-len3
returns-in-len3 c = grind (arith, common_steps)

pub returns-in-len2 : goal.returns-in-len2
returns-in-len2 c = grind (arith, common_steps)

pub bounds-words-2 : goal.bounds-words-2
bounds-words-2 c = grind (arith, common_steps)

pub bounds-words-1-then-words-lt4 : goal.bounds-words-1-then-words-lt4
bounds-words-1-then-words-lt4 c = grind (arith, common_steps)

pub bounds-words-0-then-words-lt4 : goal.bounds-words-0-then-words-lt4
bounds-words-0-then-words-lt4 c = grind (arith, common_steps)

pub bounds-words-1 : goal.bounds-words-1
bounds-words-1 c = grind (arith, common_steps)

pub bounds-words-0 : goal.bounds-words-0
bounds-words-0 c = grind (arith, common_steps)

pub slice_bounds-of-end-in-len3 : goal.slice_bounds-of-end-in-len3
slice_bounds-of-end-in-len3 c = grind (arith, common_steps)

pub slice_bounds-bound_of_set-end-in-len3-2 : goal.slice_bounds-bound_of_set-end-in-len3-2
slice_bounds-bound_of_set-end-in-len3-2 c = grind (arith, common_steps)

pub slice_bounds-of-end : goal.slice_bounds-of-end
slice_bounds-of-end c = grind (arith, common_steps)

pub slice_bounds-bound_of_set-end-in-len2 : goal.slice_bounds-bound_of_set-end-in-len2
slice_bounds-bound_of_set-end-in-len2 c = grind (arith, common_steps)

pub slice_bounds-bound_of_set-end-in-len3 : goal.slice_bounds-bound_of_set-end-in-len3
slice_bounds-bound_of_set-end-in-len3 c = grind (arith, common_steps)
