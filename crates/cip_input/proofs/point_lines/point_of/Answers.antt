use Rattle.std.proofs.lemmas.Grind.{common_steps}
use Rattle.std.proofs.Common.{◌++◌, ◌∷◌, [], List, Option, map, take, ap, sym, ◌∙◌, arith}
use Rattle.std.specs.Prelude.{unwrap_or}
use Rattle.std.proofs.lemmas.List.{map_more, take_all}
use Rattle.cip_rational.specs.Rational.{ℚ, zeroℚ}
use Rattle.cip_input.proofs.point_lines.point_of.Goals as goal

abbrev or_zero : Option ℚ → ℚ
or_zero value = unwrap_or value zeroℚ

pub loop-value-init : goal.loop-value-init
loop-value-init c = c.new-point.ensures.items

pub loop-value-preserved : goal.loop-value-preserved
loop-value-preserved c =
    let values = c.args.values.now in
    let k = c.loop-value.value-index in
    c.in_ok-push.ensures.items ∙ ap (λ (point : List ℚ). point ++ c.unwrap_or.result ∷ []) c.loop-value.invariant
    ∙ ap (λ (value : ℚ). map or_zero (take k values) ++ value ∷ []) (c.unwrap_or.ensures ∙ ap (unwrap_or c.value-item.result) c.zero.ensures ∙ ap or_zero c.value-item.is)
    ∙ sym (map_more or_zero values k c.value-item.result c.loop-value-test.true)

pub returns : goal.returns
returns c = c.loop-value.invariant ∙ ap (map or_zero) (take_all c.loop-value.value-index c.args.values.now c.loop-value-test.false)

pub offset_bounds-values-value-index : goal.offset_bounds-values-value-index
offset_bounds-values-value-index c = grind (arith, common_steps)
