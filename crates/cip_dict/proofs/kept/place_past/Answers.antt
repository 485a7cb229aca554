use Rattle.std.proofs.lemmas.Grind.{common_steps}
use Rattle.std.proofs.Common.{add-one, arith}
use Rattle.cip_rational.specs.Rational.{zeroℚ}
use Rattle.cip_dict.proofs.Places.{place_hit, place_miss}
use Rattle.cip_dict.proofs.kept.place_past.Goals as goal

pub returns-then-stands_at : goal.returns-then-stands_at
returns-then-stands_at c =
    rw add-one (place_hit c.args.k c.args.entries.now c.args.place 0 c.requires.kept.0 (0, zeroℚ) c.requires.kept.1 c.requires.at (c.stands_at.ensures.within c.if-stands_at.true) (c.stands_at.ensures.yes c.if-stands_at.true (0, zeroℚ)))

pub returns-else-stands_at : goal.returns-else-stands_at
returns-else-stands_at c = place_miss c.args.k c.args.entries.now c.args.place c.requires.at (λ d w. c.stands_at.ensures.no c.if-stands_at.false d w)

pub overflow_add-result : goal.overflow_add-result
overflow_add-result c = grind (arith, common_steps)
