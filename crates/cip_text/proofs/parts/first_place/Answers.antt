use Rattle.std.proofs.lemmas.Grind.{common_steps}
use Rattle.std.proofs.Common.{sym, arith, eqb, eq-eqb, length}
use Rattle.std.proofs.lemmas.List.Sums.{position_or_len_is}
use Rattle.cip_text.proofs.parts.first_place.Goals as goal

pub returns-then-byte-wanted : goal.returns-then-byte-wanted
returns-then-byte-wanted c =
    sym (position_or_len_is (λ byte. eqb byte c.args.wanted) c.args.bytes.now c.loop-i.i 0 (omega arith) c.loop-i.invariant (λ _. eq-eqb _ _ c.if-byte-wanted.true))

pub returns : goal.returns
returns c =
    sym (position_or_len_is (λ byte. eqb byte c.args.wanted) c.args.bytes.now (length c.args.bytes.now) 0 (omega arith) (λ k h. c.loop-i.invariant k (omega arith)) (λ h. absurd (omega (arith, h))))

pub bounds-bytes-i : goal.bounds-bytes-i
bounds-bytes-i c = grind (arith, common_steps)

pub loop-i-init : goal.loop-i-init
loop-i-init c = grind (arith, common_steps)
