use Rattle.std.proofs.lemmas.Grind.{common_steps}
use Rattle.std.proofs.Common.{arith}
use Rattle.cip_presolve.proofs.row_copies.row_of_terms.Goals as goal

pub unreachable-requires : goal.unreachable-requires
unreachable-requires c = grind (arith, common_steps)

pub unreachable-requires-in-Err-ZeroTerm : goal.unreachable-requires-in-Err-ZeroTerm
unreachable-requires-in-Err-ZeroTerm c = grind (arith, common_steps)

pub returns-in-Ok : goal.returns-in-Ok
returns-in-Ok c = grind (arith, common_steps)
