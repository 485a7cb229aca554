use Rattle.std.proofs.lemmas.Grind.{common_steps}
use Rattle.std.proofs.Common.{◌≡◌, ℤ, to_z, of_z, w32, ap, ◌∙◌, arith}
use Rattle.std.proofs.lemmas.Int.{ints}
use mir.Syntax.{w128}
use Rattle.cip_rational.specs.Rational.{integer}
use Rattle.cip_text_rules.specs.MpsState.{Held}
use Rattle.cip_mps.specs.Entries.{Entry}
use Rattle.cip_mps.proofs.Numbers.{whole_held}
use Rattle.cip_mps.proofs.groups.near_of.Goals as goal

pub returns-then-value-2 : goal.returns-then-value-2
returns-then-value-2 c =
    let n = c.numerator-value.result in
    let same : to_z w32 (of_z w32 (to_z w128 (of_z w128 n))) ≡ n = omega (arith, ints) in
    let make : ℤ → Entry = λ (z : ℤ). record { row = c.args.row; held = record { column = c.held.inside.column; value = integer z } } in
    let held = whole_held c.held.inside.column c.held.inside.value n c.is_whole.result c.is_whole.ensures c.if-not-is_whole.false c.numerator-value.ensures.value ∙ c.held.view_is in
    ap make same ∙ ap (λ (h : Held). record { row = c.args.row; held = h }) held

pub overflow_cast-result : goal.overflow_cast-result
overflow_cast-result c = grind (arith, common_steps)

pub returns-else-value : goal.returns-else-value
returns-else-value c = grind (arith, common_steps)

pub returns-then-not-is_whole : goal.returns-then-not-is_whole
returns-then-not-is_whole c = grind (arith, common_steps)
