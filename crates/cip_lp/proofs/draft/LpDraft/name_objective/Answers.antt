use Rattle.std.proofs.Common.{Some}
use Rattle.cip_lp.specs.LpDrafts.{facts_in}
use Rattle.cip_lp.proofs.KeptLaws.{objective_kept, named_said}
use Rattle.cip_lp.proofs.draft.LpDraft.name_objective.Goals as goal

pub invariant_of-self : goal.invariant_of-self
invariant_of-self c = objective_kept (facts_in c.self.inside) (Some c.in-Ok.owned.items) c.self.invariant

pub returns : goal.returns
returns c =
    let name = c.in-Ok.ensures.items_if_clones_equal (λ x y e. e) in
    named_said (facts_in c.self.inside) c.args.self.now c.args.name.now c.in-Ok.owned.items c.self.view_is name
    c.if-is_long.ensures
