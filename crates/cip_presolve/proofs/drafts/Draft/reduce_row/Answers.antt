use Rattle.std.proofs.lemmas.Grind.{common_steps}
use Rattle.std.proofs.Common.{◌∙◌, arith}
use Rattle.cip_presolve.proofs.drafts.Draft.reduce_row.Goals as goal
use Rattle.cip_search.proofs.Pairing.{exact_after}

pub returns-in-Kept-clause-step : goal.returns-in-Kept-clause-step
returns-in-Kept-clause-step c =
    exact_after c.args.self.now c.clean_row.new.self c.try_single.new.self c.clean_row.ensures.step
    (exact_after c.clean_row.new.self c.try_redundant.new.self c.try_single.new.self c.try_redundant.ensures.step c.try_single.ensures.step)

pub returns-in_default : goal.returns-in_default
returns-in_default c = record {
  step = exact_after c.args.self.now c.clean_row.new.self c.try_redundant.new.self c.clean_row.ensures.step c.try_redundant.ensures.step;
  end = c.try_redundant.ensures.end;
  rows = c.try_redundant.ensures.rows ∙ c.clean_row.ensures.rows;
}

pub try_redundant-requires : goal.try_redundant-requires
try_redundant-requires c = omega arith

pub try_single-requires : goal.try_single-requires
try_single-requires c = omega arith

pub returns-in-Kept-clause-rows : goal.returns-in-Kept-clause-rows
returns-in-Kept-clause-rows c = grind (arith, common_steps)

pub returns-in-Kept-clause-end : goal.returns-in-Kept-clause-end
returns-in-Kept-clause-end c = grind (arith, common_steps)
