use Rattle.cip_tree.specs.Nodes.{region_of}
use Rattle.std.proofs.lemmas.Grind.{common_steps}
use Rattle.std.proofs.Common.{sym, subst, arith, ap, ◌∙◌}
use Rattle.cip_core.specs.CoreStates.{CoreState, IsAtWork}
use Rattle.cip_core.specs.Later.{IsLaterAt}
use Rattle.cip_core.proofs.Relations.{later_at_itself}
use Rattle.cip_node.proofs.works.NodeWork.bound.Goals as goal

pub returns-in_err-relaxed-clause-later : goal.returns-in_err-relaxed-clause-later
returns-in_err-relaxed-clause-later c =
    subst (λ (k : CoreState). IsLaterAt c.args.self.now.core c.args.node.now k c.args.node.now) (sym c.relaxed.ensures.core) (later_at_itself c.args.self.now.core c.args.node.now c.requires)

pub leave-requires-clause-at_work : goal.leave-requires-clause-at_work
leave-requires-clause-at_work c = subst (λ (k : CoreState). IsAtWork k c.args.node.now) (sym c.relaxed.ensures.core) c.requires

pub returns-clause-later : goal.returns-clause-later
returns-clause-later c =
    subst (λ (k : CoreState). IsLaterAt k c.args.node.now c.leave.new.core c.leave.new.node) c.relaxed.ensures.core c.leave.ensures.later

pub returns-clause-region : goal.returns-clause-region
returns-clause-region c = c.leave.ensures.region ∙ ap (λ (k : CoreState). region_of k.tree c.args.node.now) c.relaxed.ensures.core

pub returns-clause-rows : goal.returns-clause-rows
returns-clause-rows c = grind (arith, common_steps)

pub returns-clause-bounded : goal.returns-clause-bounded
returns-clause-bounded c = grind (arith, common_steps)

pub leave-requires-clause-relaxed : goal.leave-requires-clause-relaxed
leave-requires-clause-relaxed c = grind (arith, common_steps)

pub returns-in_err-relaxed-clause-region : goal.returns-in_err-relaxed-clause-region
returns-in_err-relaxed-clause-region c = ap (λ (k : CoreState). region_of k.tree c.args.node.now) c.relaxed.ensures.core
