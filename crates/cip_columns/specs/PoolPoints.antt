-- Points that a pool holds, with their ids.
use Rattle.std.specs.Prelude.{ℕ, List, refl}
use Rattle.std.specs.Coded.{Coded, code_by, coded×, coded_ℕ, coded_list}
use Rattle.cip_rational.specs.Rational.{ℚ, coded_ℚ}
use Rattle.cip_pricing.specs.Mixtures.{Held}

-- the id of a point, its block, and a value for each of the block's columns
pub record PoolPoint : Type 0 where
  pub id : ℕ
  pub block : ℕ
  pub point : List ℚ

-- such a point without its id
abbrev pub held_of : PoolPoint → Held
held_of held = record { block = held.block; point = held.point }

-- its code
abbrev pub pool_point_code : Coded PoolPoint
pool_point_code =
    code_by (ℕ × (ℕ × List ℚ)) (coded× coded_ℕ (coded× coded_ℕ (coded_list coded_ℚ)))
    (λ h. (h.id, (h.block, h.point))) (λ t. record { id = t.0; block = t.1.0; point = t.1.1 }) (λ _. refl)

-- that of a list of them
abbrev pub pool_points_code : Coded (List PoolPoint)
pool_points_code = coded_list pool_point_code
