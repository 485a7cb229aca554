use Rattle.std.proofs.lemmas.Grind.{common_steps}
use Rattle.std.proofs.Common.{◌≡◌, ℕ, List, Some, None, sym, ap, subst, ◌∙◌, arith}
use Rattle.cip_text_rules.specs.LpPlaces.{Begins}
use Rattle.cip_text_rules.specs.LpFacts.{LpFacts, event_fault}
use Rattle.cip_lp.specs.LpDrafts.{facts_in}
use Rattle.cip_lp.proofs.KeptLaws.{kept_with, fault_taken, no_fault}
use Rattle.cip_lp.proofs.draft.LpDraft.begin.Goals as goal

pub returns-then-is_some : goal.returns-then-is_some
returns-then-is_some c =
    fault_taken c.args.self.now (Begins (Some c.args.name.items)) c.begin_fault-fault.result
    (sym c.is_some.ensures ∙ c.if-is_some.true)
    (c.begin_fault-fault.ensures.kind ∙ ap (λ (name : List ℕ). event_fault c.args.self.now (Begins (Some name)))
    c.as_slice.ensures.value) c.begin_fault-fault.ensures.few

pub invariant_of-self : goal.invariant_of-self
invariant_of-self c =
    let event = Begins (Some c.args.name.items) in
    let kind = c.begin_fault-fault.ensures.kind ∙ ap
    (λ (name : List ℕ). event_fault c.args.self.now (Begins (Some name))) c.as_slice.ensures.value in
    let none : event_fault c.args.self.now event ≡ None = no_fault c.begin_fault-fault.result _
    (sym c.is_some.ensures ∙ c.if-is_some.false) kind in
    kept_with (facts_in c.self.inside) event c.self.invariant
    (subst (λ (f : LpFacts). event_fault f event ≡ None) (sym c.self.view_is) none)

pub same-self : goal.same-self
same-self c = grind (arith, common_steps)

pub returns : goal.returns
returns c =
    let event = Begins (Some c.args.name.items) in
    let kind = c.begin_fault-fault.ensures.kind
    ∙ ap (λ (name : List ℕ). event_fault c.args.self.now (Begins (Some name))) c.as_slice.ensures.value in
    record {
      is_kind = sym (no_fault c.begin_fault-fault.result _ (sym c.is_some.ensures ∙ c.if-is_some.false) kind);
      taken = λ _. λ i. record (c.self.view_is i) { row_name = Some c.args.name.items };
      few = tt;
    }
