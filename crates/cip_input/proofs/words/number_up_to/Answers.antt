use Rattle.std.proofs.lemmas.Grind.{common_steps}
use Rattle.std.proofs.Common.{sym, ap, ◌∙◌, arith}
use Rattle.cip_input.specs.Jobs.{begins_plainly}
use Rattle.cip_input.proofs.Naturals.{some_number, no_number_said, not_plainly}
use Rattle.cip_input.proofs.words.number_up_to.Goals as goal

pub returns-then-not-begins_plainly : goal.returns-then-not-begins_plainly
returns-then-not-begins_plainly c =
    rw c.in-Some.is (sym (not_plainly c.args.most c.in-Some.text.now (sym (ap begins_plainly c.as_bytes.ensures.value) ∙ (sym c.begins_plainly.ensures ∙ c.if-not-begins_plainly.true))))

pub returns-in-Ok : goal.returns-in-Ok
returns-in-Ok c =
    let read = c.in-Ok.ensures.value.0 in
    let plainly = sym (ap begins_plainly c.as_bytes.ensures.value) ∙ (sym c.begins_plainly.ensures ∙ c.if-not-begins_plainly.false) in
    rw c.in-Some.is (sym (some_number c.args.most c.in-Some.text.now c.in-Ok.number plainly read.0.0 read.0.1 read.1 c.if-number-most.true))

pub returns-in_default-parse-2 : goal.returns-in_default-parse-2
returns-in_default-parse-2 c = rw c.in-Some.is (sym (no_number_said c.args.most c.in-Some.text.now (λ u. c.in_default-parse.ensures.value.0 (u.0, u.1))))

pub as_bytes-requires-text-self : goal.as_bytes-requires-text-self
as_bytes-requires-text-self c = grind (arith, common_steps)

pub returns-in_default : goal.returns-in_default
returns-in_default c = grind (arith, common_steps)
