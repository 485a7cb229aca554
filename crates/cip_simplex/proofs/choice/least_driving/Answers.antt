use Rattle.std.proofs.lemmas.Grind.{common_steps}
use Rattle.std.proofs.Common.{None, sym, ap, ◌∙◌, arith}
use Rattle.cip_bland.specs.Dictionary.{entry}
use Rattle.cip_bland.specs.Rule.{may_go}
use Rattle.cip_simplex.proofs.RowPasses.{driving_begun, driving_none, sign_below, sign_less, sign_hit}
use Rattle.cip_simplex.proofs.choice.least_driving.Goals as goal

pub loop-at-init : goal.loop-at-init
loop-at-init c = driving_begun c.args.dict.now (entry c.args.dict.now c.args.i) c.args.heading

pub may_go-requires : goal.may_go-requires
may_go-requires c = sign_below c.args.dict.now (entry c.args.dict.now c.args.i) c.args.heading c.loop-at.at c.row_sign-k.result.0 c.row_sign-k.result.1 (omega arith) c.row_sign-k.ensures.variable c.row_sign-k.ensures.above

pub returns-then-may_go : goal.returns-then-may_go
returns-then-may_go c = sym (sign_hit c.args.dict.now (entry c.args.dict.now c.args.i) c.args.heading c.loop-at.at c.row_sign-k.result.0 c.row_sign-k.result.1 (omega arith) c.row_sign-k.ensures.variable c.row_sign-k.ensures.above c.loop-at.invariant (sym (c.may_go.ensures ∙ ap (may_go c.args.dict.now c.row_sign-k.result.0) c.heading_if.ensures) ∙ c.if-may_go.true))

pub loop-at-preserved : goal.loop-at-preserved
loop-at-preserved c = sign_less c.args.dict.now (entry c.args.dict.now c.args.i) c.args.heading c.loop-at.at c.row_sign-k.result.0 c.row_sign-k.result.1 (omega arith) c.row_sign-k.ensures.variable c.row_sign-k.ensures.above None c.loop-at.invariant (sym (c.may_go.ensures ∙ ap (may_go c.args.dict.now c.row_sign-k.result.0) c.heading_if.ensures) ∙ c.if-may_go.false)

pub returns : goal.returns
returns c = sym (driving_none c.args.dict.now (entry c.args.dict.now c.args.i) c.args.heading c.loop-at.at (omega arith) c.loop-at.invariant)

pub row_sign-k-requires-clause-there : goal.row_sign-k-requires-clause-there
row_sign-k-requires-clause-there c = grind (arith, common_steps)

pub row_sign-k-requires-clause-within : goal.row_sign-k-requires-clause-within
row_sign-k-requires-clause-within c = grind (arith, common_steps)

pub row_len-at-end-requires-clause-within : goal.row_len-at-end-requires-clause-within
row_len-at-end-requires-clause-within c = grind (arith, common_steps)

pub row_sign-k-requires-clause-basic : goal.row_sign-k-requires-clause-basic
row_sign-k-requires-clause-basic c = grind (arith, common_steps)

pub row_len-at-end-requires-clause-basic : goal.row_len-at-end-requires-clause-basic
row_len-at-end-requires-clause-basic c = grind (arith, common_steps)
