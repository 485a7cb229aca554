use Rattle.std.proofs.lemmas.Grind.{common_steps}
use Rattle.std.proofs.Common.{◌≡◌, sym, ap, ◌∙◌, arith}
use Rattle.cip_bland.specs.Dictionary.{size}
use Rattle.cip_dict.proofs.LeastBasic.{least_more, least_at}
use Rattle.cip_bland.specs.Rule as rule
use Rattle.cip_bland.specs.Rule.{sides_cross}
use Rattle.cip_simplex.proofs.choice.least_crossed.Goals as goal

pub returns-then-are_crossed : goal.returns-then-are_crossed
returns-then-are_crossed c = sym (least_at (size c.args.dict.now) c.loop-v.v (rule.is_crossed c.args.dict.now) (omega arith) c.loop-v.invariant (sym (c.if-are_crossed.ensures ∙ ap (λ s. sides_cross s.low s.high) c.sides.ensures)))

pub loop-v-preserved : goal.loop-v-preserved
loop-v-preserved c = least_more c.loop-v.v (rule.is_crossed c.args.dict.now) c.loop-v.invariant (sym (c.if-are_crossed.ensures ∙ ap (λ s. sides_cross s.low s.high) c.sides.ensures))

pub returns : goal.returns
returns c =
    let end : c.loop-v.v ≡ size c.args.dict.now = omega arith in
    sym (rw end at c.loop-v.invariant)

pub overflow_cast-result : goal.overflow_cast-result
overflow_cast-result c = grind (arith, common_steps)

pub sides-requires : goal.sides-requires
sides-requires c = grind (arith, common_steps)

pub overflow_cast-v : goal.overflow_cast-v
overflow_cast-v c = grind (arith, common_steps)
