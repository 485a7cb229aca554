use Rattle.std.proofs.lemmas.Grind.{common_steps}
use Rattle.std.proofs.Common.{◌<◌, length, sym, ◌∙◌, arith, ap}
use Rattle.cip_text_rules.specs.LpPlaces.{AddsCost, Amount}
use Rattle.cip_lp.specs.LpDrafts.{facts_in}
use Rattle.cip_lp.proofs.KeptLaws.{cost_fault, fault_taken, no_fault, cost_put, cost_within, cost_is}
use Rattle.cip_text_rules.specs.LpFacts.{minimized}
use Rattle.cip_lp.proofs.draft.LpDraft.add_cost.Goals as goal

pub invariant_of-self-2 : goal.invariant_of-self-2
invariant_of-self-2 c =
    let old = c.args.self.now in
    let amount = c.args.amount.now in
    let name = c.args.name.now in
    let fault = c.term_fault-fault.result in
    let quiet = no_fault fault _ (sym c.is_some.ensures ∙ c.if-is_some.false) (cost_fault old amount name fault c.term_fault-fault.ensures.kind) in
    cost_put old amount name (facts_in c.self.inside) c.of.result c.in-Ok.number c.minimized-cost.result c.put.new.self c.set_cost.new.costs.items c.stand_sound.ensures quiet
    (c.self.view_is ∙ c.in-Ok.ensures.ok) c.in-Ok.ensures.number c.of.ensures c.in-Ok-put.ensures.ok c.set_cost.ensures

pub set_cost-requires : goal.set_cost-requires
set_cost-requires c =
    let within : c.in-Ok.number < length c.self.inside.costs.items = cost_within c.args.self.now (facts_in c.self.inside) c.args.name.now c.in-Ok.number c.self.invariant (c.self.view_is ∙ c.in-Ok.ensures.ok) c.in-Ok.ensures.number in
    omega (arith, within, c.self.inside.costs.ok.0)

pub returns-then-is_some : goal.returns-then-is_some
returns-then-is_some c =
    let old = c.args.self.now in
    let amount = c.args.amount.now in
    let name = c.args.name.now in
    let fault = c.term_fault-fault.result in
    fault_taken old (AddsCost amount name) fault (sym c.is_some.ensures ∙ c.if-is_some.true) (cost_fault old amount name fault c.term_fault-fault.ensures.kind) c.term_fault-fault.ensures.few

pub returns : goal.returns
returns c =
    let old = c.args.self.now in
    let amount = c.args.amount.now in
    let name = c.args.name.now in
    let fault = c.term_fault-fault.result in
    let cost = c.minimized-cost.ensures ∙ (λ i. minimized (sym c.self.view_is i) (ap (λ (a : Amount). a.value) c.amount.view_is i)) in
    record {
      is_kind = sym (no_fault fault _ (sym c.is_some.ensures ∙ c.if-is_some.false) (cost_fault old amount name fault c.term_fault-fault.ensures.kind));
      taken = λ none.
          cost_is old amount name (facts_in c.self.inside) c.of.result c.in-Ok.number c.minimized-cost.result c.put.new.self c.set_cost.new.costs.items
          (c.self.view_is ∙ c.in-Ok.ensures.ok) c.in-Ok.ensures.number c.of.ensures c.in-Ok-put.ensures.ok cost c.set_cost.ensures;
      few = tt;
    }

pub invariant_of-self : goal.invariant_of-self
invariant_of-self c = grind (arith, common_steps)

pub make_column-requires-clause-quiet : goal.make_column-requires-clause-quiet
make_column-requires-clause-quiet c = grind (arith, common_steps)

pub make_column-requires-clause-column : goal.make_column-requires-clause-column
make_column-requires-clause-column c = grind (arith, common_steps)

pub make_column-requires-clause-small : goal.make_column-requires-clause-small
make_column-requires-clause-small c = grind (arith, common_steps)

pub term_fault-fault-requires-clause-column : goal.term_fault-fault-requires-clause-column
term_fault-fault-requires-clause-column c = grind (arith, common_steps)

pub term_fault-fault-requires-clause-small : goal.term_fault-fault-requires-clause-small
term_fault-fault-requires-clause-small c = grind (arith, common_steps)

pub returns-in_default-put : goal.returns-in_default-put
returns-in_default-put c = grind (arith, common_steps)

pub returns-in_default : goal.returns-in_default
returns-in_default c = grind (arith, common_steps)
