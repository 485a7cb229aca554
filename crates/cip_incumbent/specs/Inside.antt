-- What an `Incumbent` is to its callers.
use Rattle.std.specs.Prelude.{List, length, Option, None, Some}
use Rattle.cip_rational.specs.Rational.{ℚ}
use Rattle.cip_incumbent.specs.HeldPoint.{HeldPoint, Holding}
use Rattle.cip_incumbent.specs.declared.incumbents.Incumbent.TheInside.{Inside}

-- a point that is held at a cost, if there is one
abbrev pub best_of : Option ℚ → List ℚ → Option HeldPoint
best_of None point = None
best_of (Some cost) point = Some (record { cost = cost; point = point })

abbrev pub shown : Inside → Holding
shown i = record { columns = length i.point.items; best = best_of i.cost i.point.items }
