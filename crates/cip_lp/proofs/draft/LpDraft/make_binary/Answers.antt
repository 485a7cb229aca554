use Rattle.std.proofs.lemmas.Grind.{common_steps}
use Rattle.std.proofs.Common.{sym, subst, ◌∙◌, refl, arith}
use Rattle.cip_lp.specs.LpDrafts.{IsKeptLp, facts_in}
use Rattle.cip_lp.proofs.ColumnLaws.{binary_past, binary_put}
use Rattle.cip_text_rules.specs.LpPlaces.{MakesBinary}
use Rattle.cip_lp.proofs.KeptLaws.{kept_with}
use Rattle.cip_lp.proofs.draft.LpDraft.make_binary.Goals as goal

pub returns-in_default : goal.returns-in_default
returns-in_default c = binary_past c.args.self.now c.args.name.now _ _ (subst IsKeptLp c.self.view_is c.self.invariant) (sym c.find_column.ensures.number ∙ c.in_default.is)

pub returns-in-Some : goal.returns-in-Some
returns-in-Some c = binary_put (facts_in c.self.inside) c.args.self.now c.args.name.now c.in-Some.column c.zero.result c.one.result _ _ c.self.view_is (sym c.in-Some.is ∙ c.find_column.ensures.number) c.zero.ensures c.one.ensures

pub invariant_of-self : goal.invariant_of-self
invariant_of-self c =
    subst IsKeptLp (sym (binary_put (facts_in c.self.inside) c.args.self.now c.args.name.now c.in-Some.column c.zero.result c.one.result _ _ c.self.view_is (sym c.in-Some.is ∙ c.find_column.ensures.number) c.zero.ensures c.one.ensures))
    (kept_with c.args.self.now (MakesBinary c.args.name.now) (subst IsKeptLp c.self.view_is c.self.invariant) refl)

pub index_mut-requires : goal.index_mut-requires
index_mut-requires c = grind (arith, common_steps)

pub index_mut-requires-in-Some : goal.index_mut-requires-in-Some
index_mut-requires-in-Some c = grind (arith, common_steps)
