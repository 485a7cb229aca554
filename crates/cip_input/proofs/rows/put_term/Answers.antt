use Rattle.std.proofs.lemmas.Grind.{common_steps}
use Rattle.std.proofs.Common.{◌≡◌, ◌<◌, pos, to_z, w64, sym, ap, ◌∙◌, arith}
use Rattle.std.proofs.lemmas.Int.{ints}
use Rattle.cip_rational.specs.Rational.{integer}
use Rattle.cip_rational.proofs.Integers.{integer_not_zero}
use Rattle.cip_input.proofs.rows.put_term.Goals as goal

pub unreachable-requires-in-Err-ZeroTerm : goal.unreachable-requires-in-Err-ZeroTerm
unreachable-requires-in-Err-ZeroTerm c =
    let fault = rw c.in-Err-ZeroTerm.field-0-is at c.in-Err-ZeroTerm.ensures in
    let same : to_z w64 c.args.coefficient ≡ pos c.args.coefficient = omega (arith, ints) in
    let some : 0 < c.args.coefficient = omega arith in
    integer_not_zero c.args.coefficient some (ap integer (sym same) ∙ sym c.from.ensures ∙ fault.1.2)

pub returns-in-Ok : goal.returns-in-Ok
returns-in-Ok c = grind (arith, common_steps)

pub returns-then-coefficient-eq0 : goal.returns-then-coefficient-eq0
returns-then-coefficient-eq0 c = grind (arith, common_steps)

pub unreachable-requires : goal.unreachable-requires
unreachable-requires c = grind (arith, common_steps)

pub overflow_cast-coefficient : goal.overflow_cast-coefficient
overflow_cast-coefficient c = grind (arith, common_steps)

pub unreachable-unreachable-in-Err-ZeroTerm : goal.unreachable-unreachable-in-Err-ZeroTerm
unreachable-unreachable-in-Err-ZeroTerm c = grind (arith, common_steps)

pub unreachable-unreachable : goal.unreachable-unreachable
unreachable-unreachable c = grind (arith, common_steps)

pub returns-in-Err-NoMemory : goal.returns-in-Err-NoMemory
returns-in-Err-NoMemory c = grind (arith, common_steps)
