use Rattle.std.proofs.lemmas.Grind.{common_steps}
use Rattle.std.proofs.Common.{sym, ◌∙◌, arith}
use Rattle.cip_text_rules.specs.LpPlaces.{Adds}
use Rattle.cip_lp.specs.LpDrafts.{facts_in}
use Rattle.cip_lp.proofs.KeptLaws.{term_fault, fault_taken, no_fault, term_put, term_is}
use Rattle.cip_lp.proofs.draft.LpDraft.add_term.Goals as goal

pub invariant_of-self-2 : goal.invariant_of-self-2
invariant_of-self-2 c =
    let old = c.args.self.now in
    let amount = c.args.amount.now in
    let name = c.args.name.now in
    let fault = c.term_fault-fault.result in
    let quiet = no_fault fault _ (sym c.is_some.ensures ∙ c.if-is_some.false) (term_fault old amount name c.is_entry_too_many.result fault c.is_entry_too_many.ensures c.term_fault-fault.ensures.kind) in
    term_put old amount name (facts_in c.self.inside) c.of.result c.in-Ok.number c.put.new.self c.entries_with-self-inside.result c.stand_sound.ensures quiet
    (c.self.view_is ∙ c.in-Ok.ensures.ok) c.in-Ok.ensures.number c.of.ensures c.in-Ok-put.ensures.ok c.entries_with-self-inside.ensures

pub returns-then-is_some : goal.returns-then-is_some
returns-then-is_some c =
    let old = c.args.self.now in
    let amount = c.args.amount.now in
    let name = c.args.name.now in
    let fault = c.term_fault-fault.result in
    fault_taken old (Adds amount name) fault (sym c.is_some.ensures ∙ c.if-is_some.true) (term_fault old amount name c.is_entry_too_many.result fault c.is_entry_too_many.ensures c.term_fault-fault.ensures.kind) c.term_fault-fault.ensures.few

pub returns : goal.returns
returns c =
    let old = c.args.self.now in
    let amount = c.args.amount.now in
    let name = c.args.name.now in
    let fault = c.term_fault-fault.result in
    record {
      is_kind = sym (no_fault fault _ (sym c.is_some.ensures ∙ c.if-is_some.false) (term_fault old amount name c.is_entry_too_many.result fault c.is_entry_too_many.ensures c.term_fault-fault.ensures.kind));
      taken = λ none.
          term_is old amount name (facts_in c.self.inside) c.of.result c.in-Ok.number c.put.new.self c.entries_with-self-inside.result
          (c.self.view_is ∙ c.in-Ok.ensures.ok) c.in-Ok.ensures.number c.of.ensures c.in-Ok-put.ensures.ok c.entries_with-self-inside.ensures;
      few = tt;
    }

pub entries_with-self-inside-requires : goal.entries_with-self-inside-requires
entries_with-self-inside-requires c = omega arith

pub invariant_of-self : goal.invariant_of-self
invariant_of-self c = grind (arith, common_steps)

pub make_column-requires-clause-quiet : goal.make_column-requires-clause-quiet
make_column-requires-clause-quiet c = grind (arith, common_steps)

pub make_column-requires-clause-column : goal.make_column-requires-clause-column
make_column-requires-clause-column c = grind (arith, common_steps)

pub make_column-requires-clause-small : goal.make_column-requires-clause-small
make_column-requires-clause-small c = grind (arith, common_steps)

pub term_fault-fault-requires-clause-column : goal.term_fault-fault-requires-clause-column
term_fault-fault-requires-clause-column c = grind (arith, common_steps)

pub term_fault-fault-requires-clause-small : goal.term_fault-fault-requires-clause-small
term_fault-fault-requires-clause-small c = grind (arith, common_steps)

pub returns-in_default-put : goal.returns-in_default-put
returns-in_default-put c = grind (arith, common_steps)

pub returns-in_default : goal.returns-in_default
returns-in_default c = grind (arith, common_steps)
