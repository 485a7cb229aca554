use Rattle.std.proofs.lemmas.Grind.{common_steps}
use Rattle.std.proofs.Common.{refl, arith}
use Rattle.std.proofs.lemmas.Bool.{false≢true}
use Rattle.cip_cert.proofs.EntryParts.{low_unknown, low_sign}
use Rattle.cip_cert.proofs.entries.add_low.Goals as goal

pub returns-then-multiple-len-clause-steps : goal.returns-then-multiple-len-clause-steps
returns-then-multiple-len-clause-steps c =
    low_unknown c.args.bounds.now c.args.entry c.args.multiple _ (omega (arith, c.if-multiple-len.true, c.len.ensures))

pub returns-then-multiple-len-clause-columns : goal.returns-then-multiple-len-clause-columns
returns-then-multiple-len-clause-columns c = refl

pub returns-then-not-is_positive-clause-steps : goal.returns-then-not-is_positive-clause-steps
returns-then-not-is_positive-clause-steps c =
    low_sign c.args.bounds.now c.args.entry c.args.multiple _ (omega (arith, c.if-multiple-len.false, c.len.ensures))
    (λ h. absurd (false≢true (c.if-not-is_positive.ensures.1 h)))

pub returns-then-not-is_positive-clause-columns : goal.returns-then-not-is_positive-clause-columns
returns-then-not-is_positive-clause-columns c = refl

pub sides-requires : goal.sides-requires
sides-requires c = omega (arith, c.if-multiple-len.false, c.len.ensures)

pub returns-clause-columns : goal.returns-clause-columns
returns-clause-columns c = c.add_part.ensures.columns

pub add_part-requires : goal.add_part-requires
add_part-requires c = grind (arith, common_steps)

pub overflow_cast-multiple : goal.overflow_cast-multiple
overflow_cast-multiple c = omega arith

pub returns-clause-steps : goal.returns-clause-steps
returns-clause-steps c = grind (arith, common_steps)
