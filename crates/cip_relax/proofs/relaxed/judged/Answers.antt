use Rattle.std.proofs.Common.{length, arith}
use Rattle.std.proofs.lemmas.Grind.{common_steps}
use Rattle.cip_cert.specs.Lent.{lent_of}
use Rattle.cip_relax.proofs.Refusals.{optimum_refused, emptiness_refused, optimum_accepted}
use Rattle.cip_relax.proofs.relaxed.judged.Goals as goal

pub returns-in-Ok-empties-clause-relaxed : goal.returns-in-Ok-empties-clause-relaxed
returns-in-Ok-empties-clause-relaxed c = grind (arith, common_steps)

pub returns-in-Unbounded-clause-relaxed : goal.returns-in-Unbounded-clause-relaxed
returns-in-Unbounded-clause-relaxed c = grind (arith, common_steps)

pub returns-in-Wide-clause-relaxed : goal.returns-in-Wide-clause-relaxed
returns-in-Wide-clause-relaxed c = grind (arith, common_steps)

pub returns-clause-relaxed : goal.returns-clause-relaxed
returns-clause-relaxed c = grind (arith, common_steps)

pub returns-in-Unbounded-clause-room : goal.returns-in-Unbounded-clause-room
returns-in-Unbounded-clause-room c = grind (arith, common_steps)

pub returns-in-Wide-clause-room : goal.returns-in-Wide-clause-room
returns-in-Wide-clause-room c = grind (arith, common_steps)

pub returns-clause-room : goal.returns-clause-room
returns-clause-room c = grind (arith, common_steps)

pub returns-in-Optimal-clause-relaxed : goal.returns-in-Optimal-clause-relaxed
returns-in-Optimal-clause-relaxed c =
    optimum_refused c.args.program.now (lent_of c.args.rows.now) c.args.bounds.now
    (length c.args.scratch.now.row.entries)
    c.rows-own.result.now c.args.ids.now c.args.found c.in-Optimal.combo c.name_combo.new.combo c.in-Err.fault
    c.unsolved.result
    c.rows-own.ensures.rows c.requires.ids c.requires.solved c.name_combo.ensures.rows c.name_combo.ensures.lows
    c.name_combo.ensures.highs
    c.in-Optimal.point c.in-Optimal.cost c.in-Optimal.is c.in-Err.ensures.bound c.unsolved.ensures

pub returns-in-Infeasible-clause-relaxed : goal.returns-in-Infeasible-clause-relaxed
returns-in-Infeasible-clause-relaxed c =
    emptiness_refused c.args.program.now (lent_of c.args.rows.now) c.args.bounds.now
    (length c.args.scratch.now.row.entries)
    c.rows-own.result.now c.args.ids.now c.args.found c.in-Infeasible.combo c.name_combo-in-Infeasible.new.combo
    c.in-Err-empties.fault c.unsolved-in-Err-empties.result
    c.rows-own.ensures.rows c.requires.ids c.requires.solved c.name_combo-in-Infeasible.ensures.rows
    c.name_combo-in-Infeasible.ensures.lows c.name_combo-in-Infeasible.ensures.highs
    c.in-Infeasible.is c.in-Err-empties.ensures.steps c.unsolved-in-Err-empties.ensures

pub returns-in-Optimal-clause-room : goal.returns-in-Optimal-clause-room
returns-in-Optimal-clause-room c = c.checked_cost.ensures.room

pub returns-in-Ok-clause-room : goal.returns-in-Ok-clause-room
returns-in-Ok-clause-room c = c.checked_cost.ensures.room

pub returns-in-Infeasible-clause-room : goal.returns-in-Infeasible-clause-room
returns-in-Infeasible-clause-room c = c.empties.ensures.columns

pub returns-in-Ok-empties-clause-room : goal.returns-in-Ok-empties-clause-room
returns-in-Ok-empties-clause-room c = c.empties.ensures.columns

pub checked_cost-requires-clause-fits : goal.checked_cost-requires-clause-fits
checked_cost-requires-clause-fits c = c.requires.fits

pub checked_cost-requires-clause-room : goal.checked_cost-requires-clause-room
checked_cost-requires-clause-room c = c.requires.room

pub checked_cost-requires-clause-columns : goal.checked_cost-requires-clause-columns
checked_cost-requires-clause-columns c = c.requires.columns

pub empties-requires-clause-fits : goal.empties-requires-clause-fits
empties-requires-clause-fits c = c.requires.fits

pub empties-requires-clause-room : goal.empties-requires-clause-room
empties-requires-clause-room c = c.requires.room

pub returns-in-Ok-clause-relaxed : goal.returns-in-Ok-clause-relaxed
returns-in-Ok-clause-relaxed c =
    optimum_accepted c.args.program.now (lent_of c.args.rows.now) c.args.bounds.now c.args.found c.in-Optimal.combo
    c.in-Optimal.point c.in-Optimal.cost c.in-Ok.bound
    c.requires.solved c.in-Optimal.is c.in-Ok.ensures.bound
