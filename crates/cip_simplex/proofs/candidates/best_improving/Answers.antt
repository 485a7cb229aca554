use Rattle.std.proofs.lemmas.Grind.{common_steps}
use Rattle.std.proofs.Common.{refl, sym, ap, ◌∙◌, arith}
use Rattle.cip_bland.specs.Dictionary.{size, cost_entry}
use Rattle.cip_bland.specs.declared.steps.Heading.TheVariants.{Down}
use Rattle.cip_bland.specs.Rule.{drives, may_go}
use Rattle.cip_simplex.proofs.FreeMoves.{picked}
use Rattle.cip_simplex.proofs.RowPasses.{driving_begun, driving_ended, sign_below, sign_more, sign_less}
use Rattle.cip_simplex.proofs.candidates.best_improving.Goals as goal

pub loop-at-init : goal.loop-at-init
loop-at-init c = driving_begun c.args.dict.now (cost_entry c.args.dict.now) Down

pub may_go-requires : goal.may_go-requires
may_go-requires c = sign_below c.args.dict.now (cost_entry c.args.dict.now) Down c.loop-at.at c.cost_sign-k.result.0 c.cost_sign-k.result.1 (omega arith) c.cost_sign-k.ensures.variable c.cost_sign-k.ensures.above

pub loop-at-preserved-then-not-may_go : goal.loop-at-preserved-then-not-may_go
loop-at-preserved-then-not-may_go c = sign_less c.args.dict.now (cost_entry c.args.dict.now) Down c.loop-at.at c.cost_sign-k.result.0 c.cost_sign-k.result.1 (omega arith) c.cost_sign-k.ensures.variable c.cost_sign-k.ensures.above c.loop-at.best c.loop-at.invariant (sym (c.may_go.ensures ∙ ap (may_go c.args.dict.now c.cost_sign-k.result.0) c.heading_if.ensures) ∙ c.if-not-may_go.true)

pub loop-at-preserved : goal.loop-at-preserved
loop-at-preserved c = sign_more c.args.dict.now (cost_entry c.args.dict.now) Down c.loop-at.at c.cost_sign-k.result.0 c.cost_sign-k.result.1 (omega arith) c.cost_sign-k.ensures.variable c.cost_sign-k.ensures.above c.loop-at.best c.lowering_candidate.result c.better_of.result c.loop-at.invariant (sym (c.may_go.ensures ∙ ap (may_go c.args.dict.now c.cost_sign-k.result.0) c.heading_if.ensures) ∙ c.if-not-may_go.false) c.lowering_candidate.ensures c.better_of.ensures

pub returns : goal.returns
returns c = picked c.args.dict.now (drives c.args.dict.now (cost_entry c.args.dict.now) Down) (size c.args.dict.now) c.loop-at.best c.variable_of.result refl (driving_ended c.args.dict.now (cost_entry c.args.dict.now) Down c.loop-at.at c.loop-at.best (omega arith) c.loop-at.invariant) c.variable_of.ensures

pub lowering_candidate-requires : goal.lowering_candidate-requires
lowering_candidate-requires c = omega arith

pub cost_sign-k-requires : goal.cost_sign-k-requires
cost_sign-k-requires c = grind (arith, common_steps)
