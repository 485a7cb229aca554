use Rattle.std.proofs.lemmas.Grind.{common_steps}
use Rattle.std.proofs.Common.{None, sym, ap, ◌∙◌, arith}
use Rattle.cip_bland.specs.Dictionary.{cost_entry}
use Rattle.cip_bland.specs.declared.steps.Heading.TheVariants.{Down}
use Rattle.cip_bland.specs.Rule.{may_go}
use Rattle.cip_simplex.proofs.RowPasses.{driving_begun, driving_none, sign_below, sign_less, sign_hit}
use Rattle.cip_simplex.proofs.choice.least_improving.Goals as goal

pub loop-at-init : goal.loop-at-init
loop-at-init c = driving_begun c.args.dict.now (cost_entry c.args.dict.now) Down

pub may_go-requires : goal.may_go-requires
may_go-requires c = sign_below c.args.dict.now (cost_entry c.args.dict.now) Down c.loop-at.at c.cost_sign-k.result.0 c.cost_sign-k.result.1 (omega arith) c.cost_sign-k.ensures.variable c.cost_sign-k.ensures.above

pub returns-then-may_go : goal.returns-then-may_go
returns-then-may_go c = sym (sign_hit c.args.dict.now (cost_entry c.args.dict.now) Down c.loop-at.at c.cost_sign-k.result.0 c.cost_sign-k.result.1 (omega arith) c.cost_sign-k.ensures.variable c.cost_sign-k.ensures.above c.loop-at.invariant (sym (c.may_go.ensures ∙ ap (may_go c.args.dict.now c.cost_sign-k.result.0) c.heading_if.ensures) ∙ c.if-may_go.true))

pub loop-at-preserved : goal.loop-at-preserved
loop-at-preserved c = sign_less c.args.dict.now (cost_entry c.args.dict.now) Down c.loop-at.at c.cost_sign-k.result.0 c.cost_sign-k.result.1 (omega arith) c.cost_sign-k.ensures.variable c.cost_sign-k.ensures.above None c.loop-at.invariant (sym (c.may_go.ensures ∙ ap (may_go c.args.dict.now c.cost_sign-k.result.0) c.heading_if.ensures) ∙ c.if-may_go.false)

pub returns : goal.returns
returns c = sym (driving_none c.args.dict.now (cost_entry c.args.dict.now) Down c.loop-at.at (omega arith) c.loop-at.invariant)

pub cost_sign-k-requires : goal.cost_sign-k-requires
cost_sign-k-requires c = grind (arith, common_steps)
