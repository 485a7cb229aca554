use Rattle.std.proofs.lemmas.Grind.{common_steps}
use Rattle.std.proofs.Common.{◌∙◌, arith, refl}
use Rattle.cip_presolve.proofs.rounds.settle_columns.Goals as goal
use Rattle.cip_search.proofs.Pairing.{exact_after, exact_self}

pub returns-in-NoPoint-clause-step : goal.returns-in-NoPoint-clause-step
returns-in-NoPoint-clause-step c =
    exact_after c.args.draft.now c.loop-column.draft c.try_fixed.new.self c.loop-column.invariant.step c.try_fixed.ensures.step

pub loop-column-preserved : goal.loop-column-preserved
loop-column-preserved c = record {
  step = exact_after c.args.draft.now c.loop-column.draft c.try_fixed.new.self c.loop-column.invariant.step c.try_fixed.ensures.step;
  rows = c.try_fixed.ensures.rows ∙ c.loop-column.invariant.rows;
  columns = c.try_fixed.ensures.columns ∙ c.loop-column.invariant.columns;
}

pub try_fixed-requires : goal.try_fixed-requires
try_fixed-requires c = grind (arith, common_steps)

pub returns-in-NoPoint-clause-end : goal.returns-in-NoPoint-clause-end
returns-in-NoPoint-clause-end c = grind (arith, common_steps)

pub overflow_cast-number : goal.overflow_cast-number
overflow_cast-number c = grind (arith, common_steps)

pub returns-in-NoPoint-clause-rows : goal.returns-in-NoPoint-clause-rows
returns-in-NoPoint-clause-rows c = grind (arith, common_steps)

pub returns-clause-rows : goal.returns-clause-rows
returns-clause-rows c = grind (arith, common_steps)

pub returns-clause-step : goal.returns-clause-step
returns-clause-step c = grind (arith, common_steps)

pub returns-clause-end : goal.returns-clause-end
returns-clause-end c = grind (arith, common_steps)

pub loop-column-init : goal.loop-column-init
loop-column-init c = record { step = exact_self c.args.draft.now; rows = refl; columns = refl }
