use Rattle.std.proofs.Common.{◌≡◌, drop}
use Rattle.cip_lagrange.specs.LagrangeOutcomes.{terms_less}
use Rattle.cip_lagrange.proofs.multipliers.take_terms.Given as goal

abbrev pub invariant-loop-term : goal.invariant-loop-term
invariant-loop-term l =
    terms_less l.multiplier (drop l.term-index l.terms) l.rests ≡ terms_less l.multiplier l.terms l.fn.rests
