use Rattle.std.proofs.lemmas.Grind.{common_steps}
use Rattle.std.proofs.Common.{◌≡◌, to_z, of_z, arith}
use Rattle.std.specs.Int.{w64}
use Rattle.std.proofs.lemmas.Int.{ints}
use Rattle.cip_dict.proofs.WholeParts.{append_below}
use Rattle.cip_dict.proofs.whole_turns.keep_number.Goals as goal

pub returns-in_ok-push-clause-below : goal.returns-in_ok-push-clause-below
returns-in_ok-push-clause-below c =
    let z : to_z w64 (of_z w64 c.args.z) ≡ c.args.z = omega (arith, ints, c.ranges.z) in
    λ bound l h. rw (c.in_ok-push.ensures.items, z) (append_below bound c.args.numbers.now.items c.args.k c.args.z h l)

pub returns-in_ok-push-clause-kept : goal.returns-in_ok-push-clause-kept
returns-in_ok-push-clause-kept c = grind (arith, common_steps)

pub returns-else-z-ne0-clause-kept : goal.returns-else-z-ne0-clause-kept
returns-else-z-ne0-clause-kept c = grind (arith, common_steps)

pub returns-else-z-ne0-clause-below : goal.returns-else-z-ne0-clause-below
returns-else-z-ne0-clause-below c = grind (arith, common_steps)
