use Rattle.std.proofs.lemmas.Grind.{common_steps}
use Rattle.std.proofs.Common.{arith}
use Rattle.cip_main.proofs.builtins.run_with.Goals as goal

pub run-status-requires : goal.run-status-requires
run-status-requires g c = omega arith

pub is_few-requires : goal.is_few-requires
is_few-requires g c = grind (arith, common_steps)
