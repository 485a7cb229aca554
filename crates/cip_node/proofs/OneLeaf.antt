-- The only leaf of a box in which each whole column has one whole value.
use Rattle.std.proofs.Common.{◌≡◌, ℕ, zero, suc, ◌+◌, ◌<◌, ◌≤◌, ℤ, Bool, true, false, if◌then◌else◌, List, [], ◌∷◌, ◌++◌, take, get_or, length, Option, None, Some, refl, ap, ◌∙◌, subst, arith}
use Rattle.std.specs.Prelude.{pos}
use Rattle.cip_rational.specs.Rational.{ℚ, numerator, denominator, ceil, floor}
use Rattle.cip_rational.specs.Range.{largest, magnitude, fits_range}
use Rattle.cip_rational.proofs.Range.InRange.{fits_in}
use Rattle.cip_rational.proofs.Rational.Order.{≤ℚ_trans}
use Rattle.cip_rational.proofs.Rational.Whole.{IsWhole-integer}
use Rattle.cip_rational.proofs.Rational.Rounding.{le_ceil, integer_le, floor_le}
use Rattle.cip_problem.specs.Program.{Sides}
use Rattle.cip_problem.specs.Box.{two_wholes_between}
use Rattle.cip_problem.specs.Wholes.{HasWhole, AllHaveWholes}
use Rattle.cip_problem.proofs.Wholes.Counts.{same_whole_of_test}
use Rattle.cip_search.specs.Leaf.{IsWholeBetween, IsLeafIn, IsOnlyLeaf}
use Rattle.cip_tree.specs.Tracked.{IsWithin}
use Rattle.cip_node_rules.specs.OpenColumns.{is_open_at, PassesNowhere}
use Rattle.cip_node_rules.proofs.Places.{order_of_whole}
use Rattle.cip_node.specs.LeafValues.{least_above, least_values}
use Rattle.cip_node.proofs.MadeChoices.{one_later}

-- the least whole value of sides with one whole number between them
least_between : (low high : Option ℚ) → HasWhole (record { low = low; high = high }) → two_wholes_between low high ≡ false → IsWholeBetween (record { low = low; high = high }) (least_above low)
least_between None high h e = absurd (cc)
least_between (Some low) None h e = absurd (cc)
least_between (Some low) (Some high) h e = record {
  between = record { above = le_ceil low; below = ≤ℚ_trans (integer_le (ceil low) (floor high) (order_of_whole low high h)) (floor_le high) };
  whole = IsWhole-integer (ceil low);
}

is_leaf : (integral : List Bool) (box : List Sides) → AllHaveWholes integral box → PassesNowhere (is_open_at integral box) (length integral) → IsLeafIn integral box (least_values integral box)
is_leaf [] [] h n = tt
is_leaf [] (s ∷ ss) h n = absurd h
is_leaf (w ∷ ws) [] h n = absurd h
is_leaf (true ∷ ws) (s ∷ ss) h n = (least_between s.low s.high (h.0 refl) (n 0 (omega arith)), is_leaf ws ss h.1 (λ k l. n (suc k) (omega (arith, l))))
is_leaf (false ∷ ws) (s ∷ ss) h n = is_leaf ws ss h.1 (λ k l. n (suc k) (omega (arith, l)))

same_leaf : (integral : List Bool) (box : List Sides) (leaf other : List ℚ) → PassesNowhere (is_open_at integral box) (length integral) → IsLeafIn integral box leaf → IsLeafIn integral box other → other ≡ leaf
same_leaf [] box [] [] n h k = refl
same_leaf [] box [] (o ∷ os) n h k = absurd k
same_leaf [] box (v ∷ vs) other n h k = absurd h
same_leaf (w ∷ ws) [] [] [] n h k = refl
same_leaf (w ∷ ws) [] [] (o ∷ os) n h k = absurd k
same_leaf (w ∷ ws) [] (v ∷ vs) other n h k = absurd h
same_leaf (true ∷ ws) (s ∷ ss) [] other n h k = absurd h
same_leaf (true ∷ ws) (s ∷ ss) (v ∷ vs) [] n h k = absurd k
same_leaf (true ∷ ws) (s ∷ ss) (v ∷ vs) (o ∷ os) n h k =
    ap (λ t. t ∷ os) (same_whole_of_test s.low s.high o v (n 0 (omega arith)) k.0.whole h.0.whole k.0.between h.0.between)
    ∙ ap (λ t. v ∷ t) (same_leaf ws ss vs os (λ j l. n (suc j) (omega (arith, l))) h.1 k.1)
same_leaf (false ∷ ws) (s ∷ ss) leaf other n h k = same_leaf ws ss leaf other (λ j l. n (suc j) (omega (arith, l))) h k

pub only_leaf_of : (integral : List Bool) (box : List Sides) → AllHaveWholes integral box → PassesNowhere (is_open_at integral box) (length integral) → IsOnlyLeaf integral box (least_values integral box)
only_leaf_of integral box h n = record {
  is_leaf = is_leaf integral box h n;
  only = λ other k. same_leaf integral box (least_values integral box) other n (is_leaf integral box h n) k;
}

-- a leaf in a box is one in each wider box
pub wider_leaf : (integral : List Bool) (box outer : List Sides) (leaf : List ℚ) → IsWithin box outer → IsLeafIn integral box leaf → IsLeafIn integral outer leaf
wider_leaf [] box outer leaf w h = h
wider_leaf (i ∷ is) [] [] leaf w h = h
wider_leaf (i ∷ is) [] (o ∷ os) leaf w h = absurd w
wider_leaf (i ∷ is) (s ∷ ss) [] leaf w h = absurd w
wider_leaf (true ∷ is) (s ∷ ss) (o ∷ os) [] w h = absurd h
wider_leaf (true ∷ is) (s ∷ ss) (o ∷ os) (v ∷ vs) w h = (record { between = record { above = w.0.low v h.0.between.above; below = w.0.high v h.0.between.below }; whole = h.0.whole }, wider_leaf is ss os vs w.1 h.1)
wider_leaf (false ∷ is) (s ∷ ss) (o ∷ os) leaf w h = wider_leaf is ss os leaf w.1 h

-- ---- the values of one more column

put_if : (x y : ℚ) (xs : List ℚ) (t : Bool) → x ∷ (if t then xs ++ y ∷ [] else xs) ≡ (if t then (x ∷ xs) ++ y ∷ [] else x ∷ xs)
put_if x y xs true = refl
put_if x y xs false = refl

least_next : (whole : List Bool) (sides : List Sides) (n : ℕ) (d : Sides) → n < length whole → n < length sides → least_values (take (suc n) whole) (take (suc n) sides) ≡ (if get_or whole n false then least_values (take n whole) (take n sides) ++ least_above (get_or sides n d).low ∷ [] else least_values (take n whole) (take n sides))
least_next [] sides n d l m = absurd (omega (arith, l))
least_next (w ∷ ws) [] n d l m = absurd (omega (arith, m))
least_next (true ∷ ws) (s ∷ ss) zero d l m = refl
least_next (false ∷ ws) (s ∷ ss) zero d l m = refl
least_next (true ∷ ws) (s ∷ ss) (suc n) d l m =
    ap (λ t. least_above s.low ∷ t) (least_next ws ss n d (omega (arith, l)) (omega (arith, m)))
    ∙ put_if (least_above s.low) (least_above (get_or ss n d).low) (least_values (take n ws) (take n ss)) (get_or ws n false)
least_next (false ∷ ws) (s ∷ ss) (suc n) d l m = least_next ws ss n d (omega (arith, l)) (omega (arith, m))

pub least_true : (whole : List Bool) (sides : List Sides) (n : ℕ) (d : Sides) → n < length whole → n < length sides → get_or whole n false ≡ true → least_values (take (n + 1) whole) (take (n + 1) sides) ≡ least_values (take n whole) (take n sides) ++ least_above (get_or sides n d).low ∷ []
least_true whole sides n d l m e =
    ap (λ k. least_values (take k whole) (take k sides)) (one_later n) ∙ least_next whole sides n d l m
    ∙ ap (λ (t : Bool). if t then least_values (take n whole) (take n sides) ++ least_above (get_or sides n d).low ∷ [] else least_values (take n whole) (take n sides)) e

pub least_false : (whole : List Bool) (sides : List Sides) (n : ℕ) (d : Sides) → n < length whole → n < length sides → get_or whole n false ≡ false → least_values (take (n + 1) whole) (take (n + 1) sides) ≡ least_values (take n whole) (take n sides)
least_false whole sides n d l m e =
    ap (λ k. least_values (take k whole) (take k sides)) (one_later n) ∙ least_next whole sides n d l m
    ∙ ap (λ (t : Bool). if t then least_values (take n whole) (take n sides) ++ least_above (get_or sides n d).low ∷ [] else least_values (take n whole) (take n sides)) e

-- a number whose parts are small is in range
pub fits_by : (q : ℚ) (n d : ℤ) → n ≡ numerator q → magnitude n ≤ largest → d ≡ pos (denominator q) → magnitude d ≤ largest → fits_range q ≡ true
fits_by q n d e h k l = fits_in q (record { top = subst (λ t. magnitude t ≤ largest) e h; bottom = subst (λ t. magnitude t ≤ largest) k l })
