use Rattle.std.proofs.lemmas.Grind.{common_steps}
use Rattle.std.proofs.Common.{sym, arith, length}
use Rattle.std.proofs.lemmas.List.Sums.{position_or_len_is}
use Rattle.cip_rational.specs.Numeral.{is_exponent_mark}
use Rattle.cip_text.proofs.parts.first_mark.Goals as goal

pub returns-then-is_exponent_mark : goal.returns-then-is_exponent_mark
returns-then-is_exponent_mark c =
    sym (position_or_len_is is_exponent_mark c.args.bytes.now c.loop-i.i 0 (omega arith) c.loop-i.invariant (λ _. sym c.if-is_exponent_mark.ensures))

pub returns : goal.returns
returns c =
    sym (position_or_len_is is_exponent_mark c.args.bytes.now (length c.args.bytes.now) 0 (omega arith) (λ k h. c.loop-i.invariant k (omega arith)) (λ h. absurd (omega (arith, h))))

pub bounds-bytes-i : goal.bounds-bytes-i
bounds-bytes-i c = grind (arith, common_steps)

pub loop-i-init : goal.loop-i-init
loop-i-init c = grind (arith, common_steps)
