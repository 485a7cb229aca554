use Rattle.std.proofs.lemmas.Grind.{common_steps}
use Rattle.std.proofs.Common.{arith}
use Rattle.cip_model.proofs.Meaning.BoxBound.{bound_is_right}
use Rattle.cip_model.proofs.programs.Program.box_bound.Goals as goal

pub loop-at-preserved : goal.loop-at-preserved
loop-at-preserved c = grind (arith, common_steps)

pub returns-in_default-clause-steps : goal.returns-in_default-clause-steps
returns-in_default-clause-steps c = grind (arith, common_steps)

pub returns-clause-steps : goal.returns-clause-steps
returns-clause-steps c = grind (arith, common_steps)

pub returns-in_default-clause-meaning : goal.returns-in_default-clause-meaning
returns-in_default-clause-meaning c = bound_is_right c.args.self.now c.args.bounds.now _ (returns-in_default-clause-steps c)

pub returns-clause-meaning : goal.returns-clause-meaning
returns-clause-meaning c = bound_is_right c.args.self.now c.args.bounds.now _ (returns-clause-steps c)

pub loop-at-preserved-then-eq : goal.loop-at-preserved-then-eq
loop-at-preserved-then-eq c = grind (arith, common_steps)

pub bounds-sides-at : goal.bounds-sides-at
bounds-sides-at c = grind (arith, common_steps)

pub offset_bounds-sides-at : goal.offset_bounds-sides-at
offset_bounds-sides-at c = grind (arith, common_steps)

pub bounds-costs-at : goal.bounds-costs-at
bounds-costs-at c = grind (arith, common_steps)

pub offset_bounds-costs-at : goal.offset_bounds-costs-at
offset_bounds-costs-at c = grind (arith, common_steps)

pub loop-at-init : goal.loop-at-init
loop-at-init c = grind (arith, common_steps)
