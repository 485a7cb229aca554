use Rattle.std.proofs.lemmas.Grind.{common_steps}
use Rattle.std.proofs.Common.{arith, ap, length}
use Rattle.cip_input.proofs.point_lines.PointLines.take_value.Goals as goal

pub index_mut-requires : goal.index_mut-requires
index_mut-requires c =
    omega (arith, c.in-Some.ensures.within, c.args.self.now.sized, ap length c.column_names.ensures.names)

pub index-requires : goal.index-requires
index-requires c = grind (arith, common_steps)

pub returns-in-Err-clause-taken : goal.returns-in-Err-clause-taken
returns-in-Err-clause-taken c = grind (arith, common_steps)

pub returns-in-Ok-clause-taken : goal.returns-in-Ok-clause-taken
returns-in-Ok-clause-taken c = grind (arith, common_steps)

pub returns-in_default-clause-taken : goal.returns-in_default-clause-taken
returns-in_default-clause-taken c = grind (arith, common_steps)

pub returns-then-is_some-clause-taken : goal.returns-then-is_some-clause-taken
returns-then-is_some-clause-taken c = grind (arith, common_steps)

pub returns-in-Ok-clause-same : goal.returns-in-Ok-clause-same
returns-in-Ok-clause-same c = grind (arith, common_steps)

pub returns-in-Err-clause-same : goal.returns-in-Err-clause-same
returns-in-Err-clause-same c = grind (arith, common_steps)

pub returns-in-Err-clause-kinds : goal.returns-in-Err-clause-kinds
returns-in-Err-clause-kinds c = grind (arith, common_steps)

pub returns-then-is_some-clause-same : goal.returns-then-is_some-clause-same
returns-then-is_some-clause-same c = grind (arith, common_steps)

pub returns-in-Ok-clause-kinds : goal.returns-in-Ok-clause-kinds
returns-in-Ok-clause-kinds c = grind (arith, common_steps)

pub returns-then-is_some-clause-kinds : goal.returns-then-is_some-clause-kinds
returns-then-is_some-clause-kinds c = grind (arith, common_steps)

pub returns-in_default-clause-kinds : goal.returns-in_default-clause-kinds
returns-in_default-clause-kinds c = grind (arith, common_steps)

pub returns-in_default-clause-same : goal.returns-in_default-clause-same
returns-in_default-clause-same c = grind (arith, common_steps)
