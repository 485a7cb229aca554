use Rattle.std.proofs.lemmas.Grind.{common_steps}
use Rattle.std.proofs.Common.{arith}
use Rattle.cip_roster.proofs.Turning.{ended}
use Rattle.cip_roster.proofs.turns.end.Goals as goal

pub returns-clause-run : goal.returns-clause-run
returns-clause-run g c = ended _ _ _ c.args.id c.exit_solve.ensures.run c.exit.ensures.run

pub returns-clause-rankings : goal.returns-clause-rankings
returns-clause-rankings g c = grind (arith, common_steps)

pub returns-clause-at : goal.returns-clause-at
returns-clause-at g c = grind (arith, common_steps)

pub exit-requires-clause-at : goal.exit-requires-clause-at
exit-requires-clause-at g c = grind (arith, common_steps)

pub exit_solve-requires-clause-at : goal.exit_solve-requires-clause-at
exit_solve-requires-clause-at g c = grind (arith, common_steps)

pub returns-clause-room : goal.returns-clause-room
returns-clause-room g c = grind (arith, common_steps)

pub exit-requires-clause-room : goal.exit-requires-clause-room
exit-requires-clause-room g c = grind (arith, common_steps)

pub exit_solve-requires-clause-room : goal.exit_solve-requires-clause-room
exit_solve-requires-clause-room g c = grind (arith, common_steps)
