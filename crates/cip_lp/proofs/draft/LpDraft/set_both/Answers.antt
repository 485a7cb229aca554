use Rattle.std.proofs.lemmas.Grind.{common_steps}
use Rattle.std.proofs.Common.{sym, subst, ◌∙◌, arith}
use Rattle.cip_lp.specs.LpDrafts.{IsKeptLp, facts_in}
use Rattle.cip_lp.proofs.ColumnLaws.{sides_past, sides_put}
use Rattle.std.proofs.lemmas.List.{length-set}
use Rattle.cip_lp.proofs.KeptLaws.{bounds_kept}
use Rattle.cip_lp.proofs.draft.LpDraft.set_both.Goals as goal

pub returns-in_default : goal.returns-in_default
returns-in_default c = sides_past c.args.self.now c.args.name.now _ _ (subst IsKeptLp c.self.view_is c.self.invariant)
    (sym c.find_column.ensures.number ∙ c.in_default.is)

pub returns-in-Some : goal.returns-in-Some
returns-in-Some c = sides_put (facts_in c.self.inside) c.args.self.now c.args.name.now c.in-Some.column c.args.side
    c.args.side c.self.view_is (sym c.in-Some.is ∙ c.find_column.ensures.number)

pub index_mut-requires : goal.index_mut-requires
index_mut-requires c = grind (arith, common_steps)

pub invariant_of-self : goal.invariant_of-self
invariant_of-self c = bounds_kept (facts_in c.self.inside) _ (length-set _ _ _) c.self.invariant
