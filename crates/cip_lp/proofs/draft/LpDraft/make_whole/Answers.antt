use Rattle.std.proofs.lemmas.Grind.{common_steps}
use Rattle.std.proofs.Common.{sym, subst, ◌∙◌, arith}
use Rattle.cip_lp.specs.LpDrafts.{IsKeptLp, facts_in}
use Rattle.cip_lp.proofs.ColumnLaws.{whole_past, whole_put}
use Rattle.std.proofs.lemmas.List.{length-set}
use Rattle.cip_lp.proofs.KeptLaws.{integral_kept}
use Rattle.cip_lp.proofs.draft.LpDraft.make_whole.Goals as goal

pub returns-in_default : goal.returns-in_default
returns-in_default c = whole_past c.args.self.now c.args.name.now (subst IsKeptLp c.self.view_is c.self.invariant)
    (sym c.find_column.ensures.number ∙ c.in_default.is)

pub returns-in-Some : goal.returns-in-Some
returns-in-Some c = whole_put (facts_in c.self.inside) c.args.self.now c.args.name.now c.in-Some.column c.self.view_is
    (sym c.in-Some.is ∙ c.find_column.ensures.number)

pub index_mut-requires : goal.index_mut-requires
index_mut-requires c = grind (arith, common_steps)

pub invariant_of-self : goal.invariant_of-self
invariant_of-self c = integral_kept (facts_in c.self.inside) _ (length-set _ _ _) c.self.invariant
