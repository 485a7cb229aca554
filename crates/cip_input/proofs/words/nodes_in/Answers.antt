use Rattle.std.proofs.lemmas.Grind.{common_steps}
use Rattle.std.proofs.Common.{sym, ap, ◌∙◌, arith}
use Rattle.cip_input.specs.Jobs.{begins_above_zero}
use Rattle.cip_input.proofs.Numbers.{some_nodes, no_nodes, not_above}
use Rattle.cip_input.proofs.words.nodes_in.Goals as goal

pub returns-then-not-begins_above_zero : goal.returns-then-not-begins_above_zero
returns-then-not-begins_above_zero c =
    rw c.in-Some.is (sym (not_above c.in-Some.text.now (sym (ap begins_above_zero c.as_bytes.ensures.value) ∙ (sym c.begins_above_zero.ensures ∙ c.if-not-begins_above_zero.true))))

pub returns-in-Ok : goal.returns-in-Ok
returns-in-Ok c =
    let read = c.in-Ok.ensures.value.0 in
    let above = sym (ap begins_above_zero c.as_bytes.ensures.value) ∙ (sym c.begins_above_zero.ensures ∙ c.if-not-begins_above_zero.false) in
    rw c.in-Some.is (sym (some_nodes c.in-Some.text.now c.in-Ok.nodes above read.0.0 read.0.1 read.1 c.if-nodes-ge1.true c.if-nodes-le-MOST_NODES.true))

pub returns-in_default-parse-3 : goal.returns-in_default-parse-3
returns-in_default-parse-3 c = rw c.in-Some.is (sym (no_nodes c.in-Some.text.now (λ u. c.in_default-parse.ensures.value.0 (u.0, u.1))))

pub as_bytes-requires-text-self : goal.as_bytes-requires-text-self
as_bytes-requires-text-self c = grind (arith, common_steps)

pub returns-in_default : goal.returns-in_default
returns-in_default c = grind (arith, common_steps)
