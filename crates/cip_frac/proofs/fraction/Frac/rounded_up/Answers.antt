use Rattle.std.proofs.Common.{sym, ap, ◌∙◌}
use Rattle.cip_rational.specs.Rational.{negate, integer, floor, ceil}
use Rattle.cip_rational.proofs.Rational.Rounding.{integer-negate}
use Rattle.cip_frac.proofs.fraction.Frac.rounded_up.Goals as goal

pub returns : goal.returns
unfolding ceil
returns c =
    c.neg-2.ensures ∙ ap negate (c.rounded_down.ensures ∙ ap (λ q. integer (floor q)) c.neg.ensures)
    ∙ sym (integer-negate (floor (negate c.args.self)))
