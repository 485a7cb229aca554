use Rattle.std.proofs.lemmas.Grind.{common_steps}
use Rattle.std.proofs.Common.{◌≡◌, ◌∙◌, to_z, of_z, sym, ap, arith}
use Rattle.std.specs.Int.{w64}
use Rattle.cip_dict.proofs.WholeParts.{read_small}
use Rattle.cip_dict.proofs.PutBehind.{behind_entry, behind_kept, behind_whole, nothing_entry}
use Rattle.cip_dict.proofs.WholeParts.{rising_over}
use Rattle.cip_dict.proofs.whole_entries.put_behind.Goals as goal

pub returns-in_ok-push-clause-put : goal.returns-in_ok-push-clause-put
returns-in_ok-push-clause-put c =
    let one : c.args.below ≡ 1 = omega (arith, c.if-below-ne1.false) in
    let n : to_z w64 (of_z w64 c.in-Some.number) ≡ c.in-Some.number = read_small c.in-Some.number c.in-Some.ensures.1 in
    let place = (rw c.as_slice.ensures.value at c.is_past.ensures) c.if-not-is_past.false in
    let is = rw n at c.in_ok-push.ensures.items in
    λ _ v. behind_entry c.args.k c.args.entry c.in-Some.number c.args.below one c.in-Some.ensures.0 c.args.wholes.now.items place c.push.new.self.items is v

pub returns-in_ok-push-clause-kept : goal.returns-in_ok-push-clause-kept
returns-in_ok-push-clause-kept c =
    let one : c.args.below ≡ 1 = omega (arith, c.if-below-ne1.false) in
    let n : to_z w64 (of_z w64 c.in-Some.number) ≡ c.in-Some.number = read_small c.in-Some.number c.in-Some.ensures.1 in
    let place = (rw c.as_slice.ensures.value at c.is_past.ensures) c.if-not-is_past.false in
    let is = rw n at c.in_ok-push.ensures.items in
    behind_kept c.args.k c.args.entry c.in-Some.number c.args.below one c.in-Some.ensures.0 c.args.wholes.now.items place c.push.new.self.items is (λ z. c.if-number-ne0.true (ap (of_z w64) z))

pub returns-in_ok-push-clause-whole : goal.returns-in_ok-push-clause-whole
returns-in_ok-push-clause-whole c =
    let n : to_z w64 (of_z w64 c.in-Some.number) ≡ c.in-Some.number = read_small c.in-Some.number c.in-Some.ensures.1 in
    let is = rw n at c.in_ok-push.ensures.items in
    behind_whole c.args.k c.in-Some.number c.args.below c.args.wholes.now.items c.push.new.self.items c.requires.whole c.in-Some.ensures.1 is

pub returns-else-number-ne0-clause-put : goal.returns-else-number-ne0-clause-put
returns-else-number-ne0-clause-put c =
    let one : c.args.below ≡ 1 = omega (arith, c.if-below-ne1.false) in
    let place = (rw c.as_slice.ensures.value at c.is_past.ensures) c.if-not-is_past.false in
    λ _. nothing_entry c.args.k c.args.entry c.in-Some.number c.args.below one c.in-Some.ensures.0 c.args.wholes.now.items place c.requires.kept.0 c.requires.kept.1 (sym (read_small c.in-Some.number c.in-Some.ensures.1) ∙ ap (to_z w64) c.if-number-ne0.false)

pub is_past-requires : goal.is_past-requires
is_past-requires c = rw c.as_slice.ensures.value (rising_over c.args.below 0 c.requires.kept.0 c.args.wholes.now.items c.requires.kept.1)

pub returns-in_default-clause-put : goal.returns-in_default-clause-put
returns-in_default-clause-put c = grind (arith, common_steps)

pub returns-then-below-ne1-clause-put : goal.returns-then-below-ne1-clause-put
returns-then-below-ne1-clause-put c = grind (arith, common_steps)

pub returns-in_ok-push-clause-same : goal.returns-in_ok-push-clause-same
returns-in_ok-push-clause-same c = grind (arith, common_steps)

pub returns-in_err-push-clause-kept : goal.returns-in_err-push-clause-kept
returns-in_err-push-clause-kept c = grind (arith, common_steps)

pub returns-in_err-push-clause-whole : goal.returns-in_err-push-clause-whole
returns-in_err-push-clause-whole c = grind (arith, common_steps)

pub returns-else-number-ne0-clause-whole : goal.returns-else-number-ne0-clause-whole
returns-else-number-ne0-clause-whole c = grind (arith, common_steps)

pub returns-in_default-clause-whole : goal.returns-in_default-clause-whole
returns-in_default-clause-whole c = grind (arith, common_steps)

pub returns-else-number-ne0-clause-same : goal.returns-else-number-ne0-clause-same
returns-else-number-ne0-clause-same c = grind (arith, common_steps)

pub returns-in_default-clause-same : goal.returns-in_default-clause-same
returns-in_default-clause-same c = grind (arith, common_steps)

pub returns-else-number-ne0-clause-kept : goal.returns-else-number-ne0-clause-kept
returns-else-number-ne0-clause-kept c = grind (arith, common_steps)

pub returns-in_default-clause-kept : goal.returns-in_default-clause-kept
returns-in_default-clause-kept c = grind (arith, common_steps)

pub returns-then-below-ne1-clause-whole : goal.returns-then-below-ne1-clause-whole
returns-then-below-ne1-clause-whole c = grind (arith, common_steps)

pub returns-then-below-ne1-clause-same : goal.returns-then-below-ne1-clause-same
returns-then-below-ne1-clause-same c = grind (arith, common_steps)

pub returns-then-below-ne1-clause-kept : goal.returns-then-below-ne1-clause-kept
returns-then-below-ne1-clause-kept c = grind (arith, common_steps)
