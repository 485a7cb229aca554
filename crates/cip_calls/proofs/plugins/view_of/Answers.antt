use Rattle.std.proofs.lemmas.Grind.{common_steps}
use Rattle.std.proofs.Common.{ap, arith}
use Rattle.cip_calls.specs.Lent.{Lent}
use Rattle.cip_calls.proofs.plugins.view_of.Goals as goal

pub returns-clause-own : goal.returns-clause-own
returns-clause-own c = ap (λ (l : Lent). l.own) c.rows-rows.ensures.lent

pub returns-clause-pool : goal.returns-clause-pool
returns-clause-pool c = ap (λ (l : Lent). l.pool) c.rows-rows.ensures.lent

pub returns-clause-cutoff : goal.returns-clause-cutoff
returns-clause-cutoff c = ap (λ (l : Lent). l.cutoff) c.rows-rows.ensures.lent

pub returns-clause-root : goal.returns-clause-root
returns-clause-root c = grind (arith, common_steps)

pub returns-clause-costs : goal.returns-clause-costs
returns-clause-costs c = grind (arith, common_steps)

pub returns-clause-whole : goal.returns-clause-whole
returns-clause-whole c = grind (arith, common_steps)

pub returns-clause-bounds : goal.returns-clause-bounds
returns-clause-bounds c = grind (arith, common_steps)

pub returns-clause-held : goal.returns-clause-held
returns-clause-held c = grind (arith, common_steps)

pub returns-clause-node : goal.returns-clause-node
returns-clause-node c = grind (arith, common_steps)
