use Rattle.cip_lp.specs.LpDrafts.{facts_in}
use Rattle.cip_lp.proofs.KeptLaws.{maximized_kept}
use Rattle.cip_lp.proofs.draft.LpDraft.open_costs.Goals as goal

pub returns : goal.returns
returns c = λ i. record (c.self.view_is i) { maximized = c.args.maximized }

pub invariant_of-self : goal.invariant_of-self
invariant_of-self c = maximized_kept (facts_in c.self.inside) c.args.maximized c.self.invariant
