use Rattle.std.proofs.lemmas.Grind.{common_steps}
use Rattle.std.proofs.Common.{◌≡◌, arith, subst, sym}
use Rattle.std.specs.Int.{IsGcd}
use Rattle.std.proofs.lemmas.Nat.Gcd.{IsGcd-swap, IsGcd-from_zero}
use Rattle.cip_rational.proofs.Integers.{gcd_one}
use Rattle.cip_frac.proofs.gcd.short_gcd.Goals as goal

pub returns-else-a-eq0 : goal.returns-else-a-eq0
returns-else-a-eq0 c =
    let e : c.args.a ≡ 1 = omega arith in
    subst (λ n. IsGcd n c.args.b 1) (sym e) (IsGcd-swap c.args.b 1 1 (gcd_one c.args.b))

pub returns-else-b-eq0 : goal.returns-else-b-eq0
returns-else-b-eq0 c =
    let e : c.args.b ≡ 1 = omega arith in
    subst (λ n. IsGcd c.args.a n 1) (sym e) (gcd_one c.args.a)

pub returns-then-rest-eq0 : goal.returns-then-rest-eq0
returns-then-rest-eq0 c = c.narrowed-low.ensures.same _ (IsGcd-from_zero _ _ c.if-rest-eq0.true)

pub returns : goal.returns
returns c = c.narrowed-low.ensures.same _ c.stripped_gcd.ensures

pub returns-then-b-eq0 : goal.returns-then-b-eq0
returns-then-b-eq0 c = grind (arith, common_steps)

pub returns-then-a-eq0 : goal.returns-then-a-eq0
returns-then-a-eq0 c = grind (arith, common_steps)

pub stripped_gcd-requires-clause-second : goal.stripped_gcd-requires-clause-second
stripped_gcd-requires-clause-second c = grind (arith, common_steps)

pub stripped_gcd-requires-clause-first : goal.stripped_gcd-requires-clause-first
stripped_gcd-requires-clause-first c = grind (arith, common_steps)

pub narrowed-low-requires-clause-second : goal.narrowed-low-requires-clause-second
narrowed-low-requires-clause-second c = grind (arith, common_steps)

pub narrowed-low-requires-clause-first : goal.narrowed-low-requires-clause-first
narrowed-low-requires-clause-first c = grind (arith, common_steps)
