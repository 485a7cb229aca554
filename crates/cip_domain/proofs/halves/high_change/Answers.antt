use Rattle.std.proofs.lemmas.Grind.{common_steps}
use Rattle.std.proofs.Common.{arith, ◌≡◌, ◌≤◌, ◌^◌, ℤ, pos, ◌+ℤ◌, unsigned_abs, FitsSigned, to_z, of_z, ◌∙◌, ap}
use Rattle.std.specs.Int.{w128}
use Rattle.std.proofs.lemmas.Int.{ints, to_z-of_z}
use Rattle.cip_rational.specs.Rational.{integer}
use Rattle.cip_lin.specs.declared.sides.Side.TheVariants.{Low}
use Rattle.cip_domain.specs.Changes.{side_change}
use Rattle.cip_domain.proofs.halves.high_change.Goals as goal

next_word : (at : ℤ) → FitsSigned w128 at → unsigned_abs at ≤ 2 ^ 101 → to_z w128 (of_z w128 (to_z w128 (of_z w128 at) +ℤ pos 1)) ≡ at +ℤ pos 1
next_word at f h =
    ap (λ (z : ℤ). to_z w128 (of_z w128 (z +ℤ pos 1))) (to_z-of_z w128 at f)
    ∙ to_z-of_z w128 (at +ℤ pos 1) (omega (arith, ints))

pub returns : goal.returns
returns c =
    c.of_side.ensures
    ∙ ap (side_change c.args.col Low) (c.whole.ensures ∙ ap integer (next_word c.args.at c.ranges.at c.requires))

pub whole-requires : goal.whole-requires
whole-requires c = grind (arith, common_steps)

pub overflow_add-at : goal.overflow_add-at
overflow_add-at c = grind (arith, common_steps)
