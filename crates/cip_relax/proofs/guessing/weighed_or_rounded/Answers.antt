use Rattle.std.proofs.lemmas.Grind.{common_steps}
use Rattle.std.proofs.Common.{arith}
use Rattle.cip_relax.proofs.guessing.weighed_or_rounded.Goals as goal

pub returns-in-Some-clause-guessed : goal.returns-in-Some-clause-guessed
returns-in-Some-clause-guessed c = grind (arith, common_steps)

pub returns-in-None-with_constant-clause-room : goal.returns-in-None-with_constant-clause-room
returns-in-None-with_constant-clause-room c = grind (arith, common_steps)

pub returns-in-None-with_constant-clause-guessed : goal.returns-in-None-with_constant-clause-guessed
returns-in-None-with_constant-clause-guessed c = grind (arith, common_steps)

pub returns-in-Some-Empty-clause-guessed : goal.returns-in-Some-Empty-clause-guessed
returns-in-Some-Empty-clause-guessed c = grind (arith, common_steps)

pub returns-in-None-clause-guessed : goal.returns-in-None-clause-guessed
returns-in-None-clause-guessed c = grind (arith, common_steps)

pub returns-in-None-clause-room : goal.returns-in-None-clause-room
returns-in-None-clause-room c = grind (arith, common_steps)

pub by_rounding-requires-clause-ready : goal.by_rounding-requires-clause-ready
by_rounding-requires-clause-ready c = grind (arith, common_steps)

pub returns-in-Some-clause-room : goal.returns-in-Some-clause-room
returns-in-Some-clause-room c = grind (arith, common_steps)

pub by_rounding-requires-clause-room : goal.by_rounding-requires-clause-room
by_rounding-requires-clause-room c = grind (arith, common_steps)

pub by_rounding-requires-in-None-clause-ready : goal.by_rounding-requires-in-None-clause-ready
by_rounding-requires-in-None-clause-ready c = grind (arith, common_steps)

pub by_rounding-requires-in-None-clause-room : goal.by_rounding-requires-in-None-clause-room
by_rounding-requires-in-None-clause-room c = grind (arith, common_steps)

pub returns-in-Some-Empty-clause-room : goal.returns-in-Some-Empty-clause-room
returns-in-Some-Empty-clause-room c = grind (arith, common_steps)
