use Rattle.std.proofs.lemmas.Grind.{common_steps}
use Rattle.std.proofs.Common.{◌∙◌, length, sym, ap, arith}
use Rattle.cip_problem.specs.WellFormed.{columns}
use Rattle.cip_rows.specs.RowPools.{Pool}
use Rattle.cip_core.proofs.CoreSteps.{work_long}
use Rattle.cip_node.proofs.works.NodeWork.relaxed.Goals as goal

pub relax_from-requires-clause-columns : goal.relax_from-requires-clause-columns
relax_from-requires-clause-columns c =
    ap length c.bounds.ensures
    ∙ (work_long c.args.self.now.core c.args.node.now c.is_sound.ensures.reduced c.requires ∙ ap columns (sym c.reduced.ensures))

pub relax_from-requires-clause-pool : goal.relax_from-requires-clause-pool
relax_from-requires-clause-pool c =
    ap length c.bounds.ensures
    ∙ (work_long c.args.self.now.core c.args.node.now c.is_sound.ensures.reduced c.requires
    ∙ (sym c.is_sound.ensures.sound.same ∙ ap (λ (pool : Pool). pool.columns) (sym c.pool.ensures)))

pub returns-clause-relaxed : goal.returns-clause-relaxed
returns-clause-relaxed c = grind (arith, common_steps)

pub returns-clause-core : goal.returns-clause-core
returns-clause-core c = grind (arith, common_steps)

pub returns-in_err-relaxed-clause-core : goal.returns-in_err-relaxed-clause-core
returns-in_err-relaxed-clause-core c = grind (arith, common_steps)
