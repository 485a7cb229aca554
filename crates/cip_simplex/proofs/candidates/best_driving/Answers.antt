use Rattle.std.proofs.lemmas.Grind.{common_steps}
use Rattle.std.proofs.Common.{refl, sym, ap, ◌∙◌, arith}
use Rattle.cip_bland.specs.Dictionary.{size, entry}
use Rattle.cip_bland.specs.Rule.{drives, may_go}
use Rattle.cip_simplex.proofs.FreeMoves.{picked}
use Rattle.cip_simplex.proofs.RowPasses.{driving_begun, driving_ended, sign_below, sign_more, sign_less}
use Rattle.cip_simplex.proofs.candidates.best_driving.Goals as goal

pub loop-at-init : goal.loop-at-init
loop-at-init c = driving_begun c.args.dict.now (entry c.args.dict.now c.args.i) c.args.heading

pub may_go-requires : goal.may_go-requires
may_go-requires c = sign_below c.args.dict.now (entry c.args.dict.now c.args.i) c.args.heading c.loop-at.at c.row_sign-k.result.0 c.row_sign-k.result.1 (omega arith) c.row_sign-k.ensures.variable c.row_sign-k.ensures.above

pub entering_candidate-requires-clause-within : goal.entering_candidate-requires-clause-within
entering_candidate-requires-clause-within c = sign_below c.args.dict.now (entry c.args.dict.now c.args.i) c.args.heading c.loop-at.at c.row_sign-k.result.0 c.row_sign-k.result.1 (omega arith) c.row_sign-k.ensures.variable c.row_sign-k.ensures.above

pub loop-at-preserved-then-not-may_go : goal.loop-at-preserved-then-not-may_go
loop-at-preserved-then-not-may_go c = sign_less c.args.dict.now (entry c.args.dict.now c.args.i) c.args.heading c.loop-at.at c.row_sign-k.result.0 c.row_sign-k.result.1 (omega arith) c.row_sign-k.ensures.variable c.row_sign-k.ensures.above c.loop-at.best c.loop-at.invariant (sym (c.may_go.ensures ∙ ap (may_go c.args.dict.now c.row_sign-k.result.0) c.heading_if.ensures) ∙ c.if-not-may_go.true)

pub loop-at-preserved : goal.loop-at-preserved
loop-at-preserved c = sign_more c.args.dict.now (entry c.args.dict.now c.args.i) c.args.heading c.loop-at.at c.row_sign-k.result.0 c.row_sign-k.result.1 (omega arith) c.row_sign-k.ensures.variable c.row_sign-k.ensures.above c.loop-at.best c.entering_candidate.result c.better_of.result c.loop-at.invariant (sym (c.may_go.ensures ∙ ap (may_go c.args.dict.now c.row_sign-k.result.0) c.heading_if.ensures) ∙ c.if-not-may_go.false) c.entering_candidate.ensures c.better_of.ensures

pub returns : goal.returns
returns c = picked c.args.dict.now (drives c.args.dict.now (entry c.args.dict.now c.args.i) c.args.heading) (size c.args.dict.now) c.loop-at.best c.variable_of.result refl (driving_ended c.args.dict.now (entry c.args.dict.now c.args.i) c.args.heading c.loop-at.at c.loop-at.best (omega arith) c.loop-at.invariant) c.variable_of.ensures

pub entering_candidate-requires-clause-leaving : goal.entering_candidate-requires-clause-leaving
entering_candidate-requires-clause-leaving c = omega arith

pub entering_candidate-requires-clause-there : goal.entering_candidate-requires-clause-there
entering_candidate-requires-clause-there c = omega arith

pub entering_candidate-requires-clause-basic : goal.entering_candidate-requires-clause-basic
entering_candidate-requires-clause-basic c = grind (arith, common_steps)

pub row_sign-k-requires-clause-there : goal.row_sign-k-requires-clause-there
row_sign-k-requires-clause-there c = grind (arith, common_steps)

pub row_sign-k-requires-clause-within : goal.row_sign-k-requires-clause-within
row_sign-k-requires-clause-within c = grind (arith, common_steps)

pub row_len-at-end-requires-clause-within : goal.row_len-at-end-requires-clause-within
row_len-at-end-requires-clause-within c = grind (arith, common_steps)

pub row_sign-k-requires-clause-basic : goal.row_sign-k-requires-clause-basic
row_sign-k-requires-clause-basic c = grind (arith, common_steps)

pub row_len-at-end-requires-clause-basic : goal.row_len-at-end-requires-clause-basic
row_len-at-end-requires-clause-basic c = grind (arith, common_steps)
