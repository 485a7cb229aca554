use Rattle.std.proofs.lemmas.Grind.{common_steps}
use Rattle.std.proofs.Common.{List, Option, sym, subst, arith}
use Rattle.cip_presolve.specs.Forms.{Form}
use Rattle.cip_presolve.specs.ColumnsOut.{MayAllGo}
use Rattle.cip_presolve.proofs.rounds.move_columns.Goals as goal
use Rattle.cip_presolve.proofs.Planned.{stays_step}

pub returns-in_default-clause-step : goal.returns-in_default-clause-step
returns-in_default-clause-step c = stays_step c.args.draft.now

pub try_moves-requires-clause-may : goal.try_moves-requires-clause-may
try_moves-requires-clause-may c = subst (λ (fs : List (Option Form)). MayAllGo c.args.draft.now fs) (sym c.as_slice.ensures.value) c.in-Ok.ensures.may

pub try_moves-requires-clause-rows : goal.try_moves-requires-clause-rows
try_moves-requires-clause-rows c = grind (arith, common_steps)

pub try_moves-requires-clause-sources : goal.try_moves-requires-clause-sources
try_moves-requires-clause-sources c = grind (arith, common_steps)

pub returns-clause-rows : goal.returns-clause-rows
returns-clause-rows c = grind (arith, common_steps)

pub returns-clause-step : goal.returns-clause-step
returns-clause-step c = grind (arith, common_steps)
