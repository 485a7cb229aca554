use Rattle.std.proofs.lemmas.Bool.{ltb-true}
use Rattle.std.specs.Prelude.{nat_lt}
use Rattle.std.proofs.Common.{◌≡◌, ℕ, zero, suc, ◌-◌, ◌/◌, ◌<◌, ℤ, pos, negsuc, neg_ℤ, true, get_or, refl, arith}
use Rattle.std.proofs.lemmas.Grind.{common_steps}
use mir.Val.{SFits, to_z, of_z}
use mir.Syntax.{Width, w128}
use lib.Signed.{mag, quot_z}
use native.Mathlib.Nat.{div-le_self}
use borrow.Author.Gap.{read_sfits}
use Rattle.cip_basis.proofs.systems.System.lift.Goals as goal

pub offset_bounds-rest-items-rest-index : goal.offset_bounds-rest-items-rest-index
offset_bounds-rest-items-rest-index c = grind (arith, common_steps)

pub way_back_following-self-in-Columns : goal.way_back_following-self-in-Columns
way_back_following-self-in-Columns c = grind (arith, common_steps)

pub way_back_following-self : goal.way_back_following-self
way_back_following-self c = grind (arith, common_steps)

pub way_back_beside_following-self-in-Columns : goal.way_back_beside_following-self-in-Columns
way_back_beside_following-self-in-Columns c = grind (arith, common_steps)

pub way_back_beside_following-self : goal.way_back_beside_following-self
way_back_beside_following-self c = grind (arith, common_steps)

negated_size : (n : ℕ) → mag (neg_ℤ (pos n)) ≡ n - 1
negated_size zero = refl
negated_size (suc n) = let same : n ≡ suc n - 1 = omega arith in same

quotient_fits : (w : Width) (z : ℤ) (n : ℕ) → SFits w z → SFits w (quot_z z (pos n))
quotient_fits w (pos a) n f = record { sfits = omega (arith, f.sfits, div-le_self a n) }
quotient_fits w (negsuc a) n f = record { sfits = omega (arith, f.sfits, div-le_self (suc a) n, negated_size (suc a / n)) }

-- a number that is read, divided by a natural one
divided : (z : ℤ) (n : ℕ) → nat_lt 0 n ≡ true → (0 < n) × SFits w128 (quot_z (to_z w128 (of_z w128 z)) (pos n))
divided z n positive = (ltb-true 0 n positive, quotient_fits w128 (to_z w128 (of_z w128 z)) n (read_sfits w128 (of_z w128 z)))

pub nonzero_div-rest : goal.nonzero_div-rest
nonzero_div-rest c = divided (get_or c.loop-rest.rest-items c.loop-rest.rest-index (pos 0)) _ refl
