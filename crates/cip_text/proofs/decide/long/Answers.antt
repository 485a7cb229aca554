use Rattle.std.proofs.lemmas.Grind.{common_steps}
use Rattle.std.proofs.Common.{◌++◌, sym, arith}
use Rattle.cip_text.proofs.Amounts.{capped_value, capped_over}
use Rattle.cip_text.proofs.Decided.{whole_long, fraction_fine, kept_some, long_fine, long_huge}
use Rattle.cip_text.proofs.decide.long.Goals as goal

pub returns-then-down-up : goal.returns-then-down-up
returns-then-down-up c =
    sym (whole_long c.args.negative (c.args.whole.now ++ c.args.decimals.now) c.args.kept c.args.up c.args.down c.requires.are_digits c.requires.kept_are c.requires.large c.if-down-up.true)

pub returns-then-places-kept : goal.returns-then-places-kept
returns-then-places-kept c =
    sym (fraction_fine c.args.negative (c.args.whole.now ++ c.args.decimals.now) c.args.kept c.args.up c.args.down c.requires.are_digits c.requires.kept_are c.requires.large
    (omega (arith, c.if-down-up.false, c.if-places-kept.true))
    (kept_some c.args.negative (c.args.whole.now ++ c.args.decimals.now) c.args.kept c.args.up c.args.down c.requires.are_digits c.requires.kept_are c.requires.large))

pub returns-in-Some : goal.returns-in-Some
returns-in-Some c =
    let v = capped_value _ _ c.in-Some.ensures in
    sym (long_fine c.args.negative (c.args.whole.now ++ c.args.decimals.now) c.args.kept c.args.up c.args.down c.requires.are_digits c.requires.kept_are c.requires.large
    c.if-down-up.false c.if-places-kept.false (omega (arith, v.0, c.if-head-lt-LARGEST.true)))

pub returns-in_default : goal.returns-in_default
returns-in_default c =
    let v = capped_value _ _ c.in-Some.ensures in
    sym (long_huge c.args.negative (c.args.whole.now ++ c.args.decimals.now) c.args.kept c.args.up c.args.down c.requires.are_digits c.requires.kept_are
    c.if-down-up.false c.if-places-kept.false (omega (arith, v.0, c.if-head-lt-LARGEST.false)))

pub returns-in_default-2 : goal.returns-in_default-2
returns-in_default-2 c =
    let v = capped_over _ c.in_default.ensures in
    sym (long_huge c.args.negative (c.args.whole.now ++ c.args.decimals.now) c.args.kept c.args.up c.args.down c.requires.are_digits c.requires.kept_are
    c.if-down-up.false c.if-places-kept.false (omega (arith, v)))

pub number_of_first-requires-clause-within : goal.number_of_first-requires-clause-within
number_of_first-requires-clause-within c = grind (arith, common_steps)

pub overflow_cast-places : goal.overflow_cast-places
overflow_cast-places c = grind (arith, common_steps)

pub number_of_first-requires-clause-are_digits : goal.number_of_first-requires-clause-are_digits
number_of_first-requires-clause-are_digits c = grind (arith, common_steps)

pub overflow_sub-kept : goal.overflow_sub-kept
overflow_sub-kept c = grind (arith, common_steps)

pub overflow_sub-places : goal.overflow_sub-places
overflow_sub-places c = grind (arith, common_steps)
