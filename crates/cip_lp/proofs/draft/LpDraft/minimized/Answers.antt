use Rattle.std.proofs.Common.{sym, ◌∙◌, true, false}
use Rattle.cip_lp.specs.LpDrafts.{facts_in}
use Rattle.cip_lp.proofs.KeptLaws.{minimized_by}
use Rattle.cip_lp.proofs.draft.LpDraft.minimized.Goals as goal

pub returns-then-self : goal.returns-then-self
returns-then-self c =
    c.neg.ensures ∙ sym (minimized_by (facts_in c.self.inside) c.args.self.now c.args.value true c.self.view_is
    c.if-self.true)

pub returns-else-self : goal.returns-else-self
returns-else-self c =
    sym (minimized_by (facts_in c.self.inside) c.args.self.now c.args.value false c.self.view_is c.if-self.false)
