use Rattle.std.proofs.Common.{refl, sym, subst, List}
use Rattle.cip_text_rules.specs.LpWords.{Constraints}
use Rattle.cip_text_rules.specs.LpPlaces.{Opens}
use Rattle.cip_lp.specs.LpDrafts.{facts_in, IsKeptLp}
use Rattle.cip_lp.proofs.KeptLaws.{kept_with}
use Rattle.cip_text_rules.specs.LpFacts.{FormTerm}
use Rattle.cip_lp.proofs.draft.LpDraft.open_rows.Goals as goal

pub returns : goal.returns
returns c = λ i. record (c.self.view_is i) { form = c.clear.ensures i }

pub invariant_of-self : goal.invariant_of-self
invariant_of-self c =
    subst (λ (form : List FormTerm). IsKeptLp (record (facts_in c.self.inside) { form = form })) (sym c.clear.ensures)
    (kept_with (facts_in c.self.inside) (Opens Constraints) c.self.invariant refl)
