use Rattle.std.proofs.lemmas.Grind.{common_steps}
use Rattle.std.proofs.Common.{ap, ◌∙◌, ltb, length, arith}
use Rattle.cip_rational.specs.Numeral.{is_exponent_mark}
use Rattle.cip_text.proofs.Places.{found, place_within}
use Rattle.cip_text.proofs.parts.cut_at_mark.Goals as goal

pub cut_at-requires : goal.cut_at-requires
cut_at-requires c = omega (arith, c.first_mark-place.ensures, place_within is_exponent_mark c.args.bytes.now)

pub returns-clause-found : goal.returns-clause-found
returns-clause-found c =
    ap (λ n. ltb n (length c.args.bytes.now)) c.first_mark-place.ensures ∙ found is_exponent_mark c.args.bytes.now

pub returns-clause-before : goal.returns-clause-before
returns-clause-before c = grind (arith, common_steps)

pub returns-clause-after : goal.returns-clause-after
returns-clause-after c = grind (arith, common_steps)
