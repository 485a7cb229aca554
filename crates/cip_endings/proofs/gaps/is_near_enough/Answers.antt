use Rattle.std.proofs.lemmas.Grind.{common_steps}
use Rattle.std.proofs.Common.{◌≡◌, ◌&&◌, ◌∙◌, refl, sym, ap, arith}
use Rattle.cip_rational.specs.Rational.{lt_test, le_test}
use Rattle.cip_rational.proofs.Comparisons.{is_lt-compare, is_le-compare}
use Rattle.cip_endings.proofs.GapLaws.{near_is}
use Rattle.cip_endings.proofs.gaps.is_near_enough.Goals as goal

pub returns-then-lt : goal.returns-then-lt
returns-then-lt c =
    let l : c.lt.result ≡ lt_test c.args.bound c.args.cost = c.lt.ensures ∙ is_lt-compare c.args.bound c.args.cost in
    let m : c.le.result ≡ le_test c.in-Ok.difference c.args.gap = c.le.ensures ∙ is_le-compare c.in-Ok.difference c.args.gap in
    sym (ap (λ t. t && c.le.result) c.if-lt.true)
    ∙ sym (near_is c.args.gap c.args.cost c.args.bound c.in-Ok.difference c.lt.result c.le.result c.in-Ok.ensures.0 c.in-Ok.ensures.1 l m)

pub returns-else-lt : goal.returns-else-lt
returns-else-lt c =
    let l : c.lt.result ≡ lt_test c.args.bound c.args.cost = c.lt.ensures ∙ is_lt-compare c.args.bound c.args.cost in
    let le = le_test c.in-Ok.difference c.args.gap in
    c.if-lt.false ∙ (sym (ap (λ t. t && le) c.if-lt.false)
    ∙ sym (near_is c.args.gap c.args.cost c.args.bound c.in-Ok.difference c.lt.result le c.in-Ok.ensures.0 c.in-Ok.ensures.1 l refl))

pub returns-in-Err : goal.returns-in-Err
returns-in-Err c = grind (arith, common_steps)
