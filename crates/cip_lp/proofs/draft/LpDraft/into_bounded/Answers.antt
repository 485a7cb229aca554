use Rattle.std.proofs.lemmas.Grind.{common_steps}
use Rattle.std.proofs.Common.{sym, ap, ◌∙◌, arith}
use Rattle.cip_text_rules.specs.LpFacts.{LpFacts}
use Rattle.cip_lp.specs.LpDrafts.{facts_in}
use Rattle.cip_lp.proofs.ColumnLaws.{formed_from}
use Rattle.cip_lp.proofs.draft.LpDraft.into_bounded.Goals as goal

pub new-requires-2 : goal.new-requires-2
new-requires-2 c =
    formed_from (facts_in c.self.inside) c.into_names.result c.into_names-2.result _ c.args.bounds c.new.result c.self.invariant.sound c.into_names.ensures c.into_names-2.ensures
    (c.requires ∙ ap (λ (f : LpFacts). f.bounds) (sym c.self.view_is)) c.new.ensures

pub returns : goal.returns
returns c = grind (arith, common_steps)
