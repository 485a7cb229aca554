use Rattle.std.proofs.lemmas.Grind.{common_steps}
use Rattle.std.proofs.Common.{Some, sym, ◌∙◌, arith}
use Rattle.cip_bland.specs.Rule.{is_outside}
use Rattle.cip_simplex.proofs.FreeMoves.{found_more, found_less, picked}
use Rattle.cip_simplex.proofs.candidates.worst_outside.Goals as goal

pub loop-v-preserved-then-not-is_outside : goal.loop-v-preserved-then-not-is_outside
loop-v-preserved-then-not-is_outside c = found_less (is_outside c.args.dict.now) c.loop-v.v c.loop-v.worst c.loop-v.invariant (sym c.is_outside.ensures ∙ c.if-not-is_outside.true)

pub loop-v-preserved : goal.loop-v-preserved
loop-v-preserved c = found_more (is_outside c.args.dict.now) c.loop-v.v c.loop-v.worst (Some c.leaving_candidate.result) (Some c.better_of.result) c.loop-v.invariant (c.leaving_candidate.ensures, sym c.is_outside.ensures ∙ c.if-not-is_outside.false) c.better_of.ensures

pub returns : goal.returns
returns c = picked c.args.dict.now (is_outside c.args.dict.now) c.loop-v.v c.loop-v.worst c.variable_of.result (omega arith) c.loop-v.invariant c.variable_of.ensures

pub leaving_candidate-requires : goal.leaving_candidate-requires
leaving_candidate-requires c = omega arith

pub overflow_cast-v-in-loop-v : goal.overflow_cast-v-in-loop-v
overflow_cast-v-in-loop-v c = grind (arith, common_steps)

pub is_outside-requires : goal.is_outside-requires
is_outside-requires c = grind (arith, common_steps)

pub loop-v-init : goal.loop-v-init
loop-v-init c = grind (arith, common_steps)

pub overflow_cast-v : goal.overflow_cast-v
overflow_cast-v c = grind (arith, common_steps)
