use Rattle.std.proofs.lemmas.Grind.{common_steps}
use Rattle.std.proofs.Common.{arith}
use Rattle.cip_frac.proofs.Halves.{odd_part, whole_gcd}
use Rattle.cip_frac.proofs.gcd.stripped_gcd.Goals as goal

pub odd_gcd-requires-clause-first : goal.odd_gcd-requires-clause-first
odd_gcd-requires-clause-first c = odd_part c.args.a c.requires.first c.ranges.a.fits

pub odd_gcd-requires-clause-second : goal.odd_gcd-requires-clause-second
odd_gcd-requires-clause-second c = odd_part c.args.b c.requires.second c.ranges.b.fits

pub returns : goal.returns
returns c =
    whole_gcd c.args.a c.args.b c.odd_gcd.result c.min.result c.requires.first c.requires.second c.ranges.a.fits c.ranges.b.fits
    c.odd_gcd.ensures c.min.ensures

pub overflow_cast-result : goal.overflow_cast-result
overflow_cast-result c = grind (arith, common_steps)
