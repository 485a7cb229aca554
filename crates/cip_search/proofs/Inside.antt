-- Sides inside others: how they follow one another, what they hold, and that there are no more whole numbers between them.
use borrow.Author.Differences.{le_out}
use Rattle.std.proofs.Common.{◌≡◌, ℕ, zero, suc, ◌*◌, ◌≤◌, Bool, true, false, List, [], ◌∷◌, length, Option, None, Some, refl, sym, subst, arith, true≢false, mul-le-mul}
use Rattle.std.specs.Prelude.{slice_set}
use Rattle.std.specs.List.{AllZip}
use Rattle.std.proofs.lemmas.Slice.Zip.{AllZip-long}
use Rattle.std.proofs.lemmas.Bool.{and_parts, and_from}
use Rattle.cip_rational.specs.Rational.{ℚ, floor, ceil}
use Rattle.cip_rational.proofs.Rational.Order.{≤ℚ_refl, ≤ℚ_trans, le_of_test, test_of_le}
use Rattle.cip_rational.proofs.Rational.Rounding.{floor_mono, ceil_mono}
use Rattle.cip_problem.specs.Program.{Sides}
use Rattle.cip_problem.specs.Box.{IsInBox, sides_at, low_inside, high_inside, sides_inside}
use Rattle.cip_problem.specs.Wholes.{wholes_between, times, assignments, AtMost}
use Rattle.cip_problem.proofs.Box.SideTests.{sides_inside_holds}
use Rattle.cip_problem.proofs.Wholes.Counts.{wholes_count, none_times}

-- ---- sides

low_chain : (a b c : Option ℚ) → low_inside a b ≡ true → low_inside b c ≡ true → low_inside a c ≡ true
low_chain a b None h k = refl
low_chain None None (Some c) h k = k
low_chain None (Some b) (Some c) h k = h
low_chain (Some a) None (Some c) h k = absurd (true≢false (sym k))
low_chain (Some a) (Some b) (Some c) h k = test_of_le (≤ℚ_trans (le_of_test k) (le_of_test h))

high_chain : (a b c : Option ℚ) → high_inside a b ≡ true → high_inside b c ≡ true → high_inside a c ≡ true
high_chain a b None h k = refl
high_chain None None (Some c) h k = k
high_chain None (Some b) (Some c) h k = h
high_chain (Some a) None (Some c) h k = absurd (true≢false (sym k))
high_chain (Some a) (Some b) (Some c) h k = test_of_le (≤ℚ_trans (le_of_test h) (le_of_test k))

-- sides inside sides inside others
pub inside_chain : (a b c : Sides) → sides_inside a b ≡ true → sides_inside b c ≡ true → sides_inside a c ≡ true
inside_chain a b c h k =
    let p = and_parts _ _ h in
    let q = and_parts _ _ k in
    and_from _ _ (low_chain a.low b.low c.low p.0 q.0) (high_chain a.high b.high c.high p.1 q.1)

low_self : (a : Option ℚ) → low_inside a a ≡ true
low_self None = refl
low_self (Some a) = test_of_le (≤ℚ_refl a)

high_self : (a : Option ℚ) → high_inside a a ≡ true
high_self None = refl
high_self (Some a) = test_of_le (≤ℚ_refl a)

pub inside_self : (a : Sides) → sides_inside a a ≡ true
inside_self a = and_from _ _ (low_self a.low) (high_self a.high)

-- ---- boxes

-- the sides of each column are inside those of the other box
abbrev pub AllInside : List Sides → List Sides → Type 0
AllInside inner outer = AllZip (λ own other. sides_inside own other ≡ true) inner outer

pub all_self : (box : List Sides) → AllInside box box
all_self [] = tt
all_self (s ∷ ss) = (inside_self s, all_self ss)

pub all_chain : (a b c : List Sides) → AllInside a b → AllInside b c → AllInside a c
all_chain [] [] [] h k = tt
all_chain [] [] (z ∷ c) h k = absurd k
all_chain [] (y ∷ b) c h k = absurd h
all_chain (x ∷ a) [] c h k = absurd h
all_chain (x ∷ a) (y ∷ b) [] h k = absurd k
all_chain (x ∷ a) (y ∷ b) (z ∷ c) h k = (inside_chain x y z h.0 k.0, all_chain a b c h.1 k.1)

pub all_long : (inner outer : List Sides) → AllInside inner outer → length outer ≡ length inner
all_long inner outer h = AllZip-long _ inner outer h

pub all_at : (inner outer : List Sides) (column : ℕ) → AllInside inner outer → sides_inside (sides_at inner column) (sides_at outer column) ≡ true
all_at [] [] column h = refl
all_at [] (y ∷ outer) column h = absurd h
all_at (x ∷ inner) [] column h = absurd h
all_at (x ∷ inner) (y ∷ outer) zero h = h.0
all_at (x ∷ inner) (y ∷ outer) (suc column) h = all_at inner outer column h.1

pub all_hold : (inner outer : List Sides) (point : List ℚ) → AllInside inner outer → IsInBox inner point → IsInBox outer point
all_hold [] [] point h k = k
all_hold [] (y ∷ outer) point h k = absurd h
all_hold (x ∷ inner) [] point h k = absurd h
all_hold (x ∷ inner) (y ∷ outer) [] h k = absurd k
all_hold (x ∷ inner) (y ∷ outer) (v ∷ point) h k = (sides_inside_holds x y v h.0 k.0, all_hold inner outer point h.1 k.1)

-- one column's sides are replaced by others inside them
pub set_inside : (box : List Sides) (column : ℕ) (sides : Sides) → sides_inside sides (sides_at box column) ≡ true → AllInside (slice_set box column sides) box
set_inside [] column sides h = tt
set_inside (s ∷ ss) zero sides h = (h, all_self ss)
set_inside (s ∷ ss) (suc column) sides h = (inside_self s, set_inside ss column sides h)

-- ---- whole numbers between sides

-- where a side is open there are infinitely many
fewer_between : (a b c d : Option ℚ) → low_inside a c ≡ true → high_inside b d ≡ true → AtMost (wholes_between a b) (wholes_between c d)
fewer_between a b None d h k = tt
fewer_between a b (Some c) None h k = tt
fewer_between None b (Some c) (Some d) h k = absurd (true≢false (sym h))
fewer_between (Some a) None (Some c) (Some d) h k = absurd (true≢false (sym k))
fewer_between (Some a) (Some b) (Some c) (Some d) h k =
    rw (wholes_count (ceil a) (floor b), wholes_count (ceil c) (floor d))
    (omega (arith, le_out _ _ (ceil_mono c a (le_of_test h)), le_out _ _ (floor_mono b d (le_of_test k))))

pub fewer_wholes : (inner outer : Sides) → sides_inside inner outer ≡ true → AtMost (wholes_between inner.low inner.high) (wholes_between outer.low outer.high)
fewer_wholes inner outer h =
    let p = and_parts _ _ h in
    fewer_between inner.low inner.high outer.low outer.high p.0 p.1

pub at_most_self : (m : Option ℕ) → AtMost m m
at_most_self None = tt
at_most_self (Some m) = omega arith

pub at_most_chain : (a b c : Option ℕ) → AtMost a b → AtMost b c → AtMost a c
at_most_chain a b None h k = tt
at_most_chain a None (Some c) h k = absurd k
at_most_chain None (Some b) (Some c) h k = absurd h
at_most_chain (Some a) (Some b) (Some c) h k = omega (arith, h, k)

-- a product of fewer
pub fewer_times : (a b c d : Option ℕ) → AtMost a c → AtMost b d → AtMost (times a b) (times c d)
fewer_times a b None None h k = tt
fewer_times a b None (Some (suc d)) h k = tt
fewer_times a None None (Some zero) h k = absurd k
fewer_times None (Some b) None (Some zero) h k = let e : b ≡ 0 = omega (arith, k) in subst (λ t. AtMost (times None (Some t)) (Some 0)) (sym e) (omega arith)
fewer_times (Some a) (Some b) None (Some zero) h k = let e : b ≡ 0 = omega (arith, k) in subst (λ t. a * t ≤ 0) (sym e) (omega arith)
fewer_times a b (Some (suc c)) None h k = tt
fewer_times None b (Some zero) None h k = absurd h
fewer_times (Some a) b (Some zero) None h k = let e : a ≡ 0 = omega (arith, h) in subst (λ t. AtMost (times (Some t) b) (Some 0)) (sym e) (subst (λ t. AtMost t (Some 0)) (sym (none_times b)) (omega arith))
fewer_times None b (Some c) (Some d) h k = absurd h
fewer_times (Some a) None (Some c) (Some d) h k = absurd k
fewer_times (Some a) (Some b) (Some c) (Some d) h k = mul-le-mul h k

-- a box inside another has no more whole assignments
pub fewer_assignments : (integral : List Bool) (inner outer : List Sides) → AllInside inner outer → AtMost (assignments integral inner) (assignments integral outer)
fewer_assignments [] inner outer h = omega arith
fewer_assignments (w ∷ ws) [] [] h = omega arith
fewer_assignments (w ∷ ws) [] (y ∷ outer) h = absurd h
fewer_assignments (w ∷ ws) (x ∷ inner) [] h = absurd h
fewer_assignments (true ∷ ws) (x ∷ inner) (y ∷ outer) h = fewer_times _ _ _ _ (fewer_wholes x y h.0) (fewer_assignments ws inner outer h.1)
fewer_assignments (false ∷ ws) (x ∷ inner) (y ∷ outer) h = fewer_assignments ws inner outer h.1
