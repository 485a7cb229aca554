use Rattle.std.proofs.lemmas.Grind.{common_steps}
use Rattle.std.proofs.Common.{◌≡◌, ◌+◌, ◌<◌, ◌++◌, ◌^◌, length, sym, subst, arith, cond}
use Rattle.cip_rational.specs.Range.{largest}
use Rattle.cip_rational.specs.Numeral.{Huge, TooFine, scaled, size_of, zeros_at_end, digits_value}
use Rattle.cip_text.proofs.Amounts.{capped_over}
use Rattle.cip_text.proofs.Decided.{far_down, far_up}
use Rattle.cip_text.proofs.decide.with_exponent.Goals as goal

pub decide-requires-in-Some-2-clause-small_up : goal.decide-requires-in-Some-2-clause-small_up
decide-requires-in-Some-2-clause-small_up c = grind (arith, common_steps)

pub decide-requires-clause-small_down : goal.decide-requires-clause-small_down
decide-requires-clause-small_down c = grind (arith, common_steps)

pub returns-in-Some-2 : goal.returns-in-Some-2
returns-in-Some-2 c = grind (arith, common_steps)

pub returns-in-Some : goal.returns-in-Some
returns-in-Some c = grind (arith, common_steps)

pub returns-then-is_down : goal.returns-then-is_down
returns-then-is_down c =
    let n = c.args.negative in let xs = c.args.whole.now in let ys = c.args.decimals.now in
    let amount = digits_value c.args.exponent.now in
    let big : largest < amount = capped_over _ c.in-None.ensures in
    let some : c.zeros_at_both_ends-zeros.result < length c.args.whole.now + length c.args.decimals.now = omega (arith, c.if-zeros-whole.false, c.zeros_at_both_ends-zeros.ensures.within) in
    let short : length c.args.whole.now + length c.args.decimals.now < 2 ^ 64 = omega arith in
    subst (λ b. TooFine ≡ scaled n (size_of (xs ++ ys)) (cond b 0 amount + zeros_at_end (xs ++ ys)) (cond b amount 0 + length ys)) (sym c.if-is_down.true)
    (far_down n xs ys c.zeros_at_both_ends-zeros.result c.requires.are_digits c.zeros_at_both_ends-zeros.ensures.value some amount short big)

pub returns-else-is_down : goal.returns-else-is_down
returns-else-is_down c =
    let n = c.args.negative in let xs = c.args.whole.now in let ys = c.args.decimals.now in
    let amount = digits_value c.args.exponent.now in
    let big : largest < amount = capped_over _ c.in-None.ensures in
    let some : c.zeros_at_both_ends-zeros.result < length c.args.whole.now + length c.args.decimals.now = omega (arith, c.if-zeros-whole.false, c.zeros_at_both_ends-zeros.ensures.within) in
    let short : length c.args.whole.now + length c.args.decimals.now < 2 ^ 64 = omega arith in
    subst (λ b. Huge n ≡ scaled n (size_of (xs ++ ys)) (cond b 0 amount + zeros_at_end (xs ++ ys)) (cond b amount 0 + length ys)) (sym c.if-is_down.false)
    (far_up n xs ys c.zeros_at_both_ends-zeros.result c.requires.are_digits c.zeros_at_both_ends-zeros.ensures.value some amount short big)

pub returns-then-zeros-whole : goal.returns-then-zeros-whole
returns-then-zeros-whole c = grind (arith, common_steps)

pub decide-requires-in-Some-2-clause-are_digits : goal.decide-requires-in-Some-2-clause-are_digits
decide-requires-in-Some-2-clause-are_digits c = grind (arith, common_steps)

pub overflow_add-whole : goal.overflow_add-whole
overflow_add-whole c = grind (arith, common_steps)

pub decide-requires-clause-are_digits : goal.decide-requires-clause-are_digits
decide-requires-clause-are_digits c = grind (arith, common_steps)

pub grow-requires-clause-are_digits : goal.grow-requires-clause-are_digits
grow-requires-clause-are_digits c = grind (arith, common_steps)
