use Rattle.std.proofs.lemmas.Grind.{common_steps}
use Rattle.std.proofs.Common.{◌≡◌, true, List, ap, subst, ◌∙◌, arith, rules}
use Rattle.std.specs.Prelude.{IfOk}
use Rattle.std.proofs.lemmas.List.Sorted.{IsNonDecreasingBy-from_sort_by_key}
use Rattle.cip_text_rules.specs.LpFacts.{FormTerm, terms_of}
use Rattle.cip_text_rules.specs.LpSound.{form_rises}
use Rattle.cip_lp.specs.LpForms.{form_of}
use Rattle.cip_lp.proofs.FormOrder.{sorted_form}
use Rattle.cip_lp.proofs.form.Form.take_row.Goals as goal

pub row_of-row-requires : goal.row_of-row-requires
row_of-row-requires c =
    let terms = c.self.inside.terms.items in
    let rises : form_rises (form_of terms) ≡ true = ap form_rises c.self.view_is ∙ c.requires in
    let sorted : c.sort_unstable_by_key.new.self.items ≡ form_of terms =
    sorted_form terms c.sort_unstable_by_key.new.self.items rises c.sort_unstable_by_key.ensures.permutation
    (IsNonDecreasingBy-from_sort_by_key (λ (t : FormTerm). t.column) _ c.sort_unstable_by_key.ensures.sorted (λ a r q k. search rules)) in
    ap form_rises (c.as_slice.ensures.value ∙ sorted) ∙ rises

pub returns-clause-left : goal.returns-clause-left
returns-clause-left c = grind (arith, common_steps)

pub returns-clause-row : goal.returns-clause-row
returns-clause-row c =
    let terms = c.self.inside.terms.items in
    let rises : form_rises (form_of terms) ≡ true = ap form_rises c.self.view_is ∙ c.requires in
    let sorted : c.sort_unstable_by_key.new.self.items ≡ form_of terms =
    sorted_form terms c.sort_unstable_by_key.new.self.items rises c.sort_unstable_by_key.ensures.permutation
    (IsNonDecreasingBy-from_sort_by_key (λ (t : FormTerm). t.column) _ c.sort_unstable_by_key.ensures.sorted (λ a r q k. search rules)) in
    subst (λ (form : List FormTerm). IfOk c.row_of-row.result (λ row. row ≡ record { terms = terms_of form; low = c.args.low; high = c.args.high })) (c.as_slice.ensures.value ∙ sorted ∙ c.self.view_is) c.row_of-row.ensures

pub invariant_of-self : goal.invariant_of-self
invariant_of-self c = grind (arith, common_steps)
