-- Points of the master program are mixtures, at which linear forms have the same sums; and bounds of the master.
use Rattle.std.proofs.Common.{◌≡◌, ℕ, zero, suc, ◌<◌, ◌==◌, Bool, true, false, cond, List, [], ◌∷◌, ◌++◌, length, map, None, Some, refl, sym, ap, ap₂, ◌∙◌, subst, arith}
use Rattle.std.specs.List.{AllByRecursion, AllZip, Contains}
use Rattle.std.proofs.lemmas.Bool.{eqb-true}
use Rattle.std.proofs.lemmas.List.Elements.{All-contains, All-contains_itself, recursion_from_All, All-from_recursion}
use Rattle.cip_rational.specs.Rational.{ℚ, ◌+ℚ◌, ◌-ℚ◌, ◌*ℚ◌, zeroℚ, oneℚ, ◌≤ℚ◌}
use Rattle.cip_rational.specs.Sums.{dot, scale_list, add_lists, combine, AllNonneg}
use Rattle.cip_rational.proofs.Sums.{dot-nil, dot-append, dot-add_right, dot-scale_right}
use Rattle.cip_rational.proofs.Rational.Ring.{+ℚ-zero, zero-+ℚ, *ℚ-zero, *ℚ_comm, one_is_not_zero}
use Rattle.cip_rational.proofs.Rational.Order.{≤ℚ_refl}
use Rattle.cip_rational.proofs.Linear.{linear_le}
use Rattle.cip_problem.specs.Program.{Sides, Program}
use Rattle.cip_problem.specs.Activity.{value_at}
use Rattle.cip_problem.specs.Box.{Between, IsInBox}
use Rattle.cip_problem.proofs.Points.AtPlaces.{IsInBox-long}
use Rattle.cip_pricing.specs.Decomposition.{Owner, Decomposition, same_owner, picked, IsOwner, IsDecomposed, master_rows, IsBlockPoint}
use Rattle.cip_pricing.specs.Mixtures.{Held, total, IsConvex, IsPointAmong, IsMixture}
use Rattle.cip_pricing.specs.LeastCosts.{side_total, AreRests, sum_below, price_total, ShowsLeast}
use Rattle.cip_pricing.specs.MasterForms.{held_owners, held_points, master_form, first_or_zero, after_first, joined, mixed_part, mixed, weight_sides, master_box, reduced_cost, reduced_costs}
use Rattle.cip_pricing.specs.Statements.{WeightsSumToOne}
use Rattle.cip_pricing.proofs.Picked.{same_owner-true, length_picked, all_picked}
use Rattle.cip_pricing.proofs.Parts.{sum_below-same, sum_below-zero, sum_below-add, sum_below-one, dot_parts}

-- ---- what each owner has, as one list

joined-long : (owners : List Owner) (values : Owner → List ℚ) → length (joined owners values) ≡ length owners
joined-long [] values = refl
joined-long (o ∷ os) values = ap suc
    (joined-long os (λ who. cond (same_owner o who) (after_first (values who)) (values who)))

put_back : (values : List ℚ) (n : ℕ) → length values ≡ suc n → first_or_zero values ∷ after_first values ≡ values
put_back [] n e = absurd (omega (arith, e))
put_back (v ∷ vs) n e = refl

after-long : (values : List ℚ) (n : ℕ) → length values ≡ suc n → length (after_first values) ≡ n
after-long [] n e = absurd (omega (arith, e))
after-long (v ∷ vs) n e = omega (arith, e)

no_values : (values : List ℚ) → length values ≡ 0 → [] ≡ values
no_values [] e = refl
no_values (v ∷ vs) e = absurd (omega (arith, e))

fits_step : (t : Bool) (values : List ℚ) (b : Sides) (bs : List Sides)
    → length values ≡ length (cond t (b ∷ bs) bs) → length (cond t (after_first values) values) ≡ length bs
fits_step true values b bs e = after-long values (length bs) e
fits_step false values b bs e = e

joined_step : (t : Bool) (first : ℚ) (own others : List ℚ) (b : Sides) (bs : List Sides)
    → (t ≡ true → first ≡ first_or_zero own) → length own ≡ length (cond t (b ∷ bs) bs)
    → others ≡ cond t (after_first own) own → cond t (first ∷ others) others ≡ own
joined_step true first own others b bs f l e = ap₂ (λ x xs. x ∷ xs) (f refl) e ∙ put_back own (length bs) l
joined_step false first own others b bs f l e = e

-- an owner picks what it has, where each has a value for each of its columns
pub picked_joined : (count : ℕ) (who : Owner) (owners : List Owner) (box : List Sides) (values : Owner → List ℚ)
    → length box ≡ length owners
    → ((w : Owner) → IsOwner count w → length (values w) ≡ length (picked w owners box)) → IsOwner count who
    → picked who owners (joined owners values) ≡ values who
picked_joined count who [] box values e each i = no_values (values who) (each who i)
picked_joined count who (o ∷ os) [] values e each i = absurd (omega (arith, e))
picked_joined count who (o ∷ os) (b ∷ bs) values e each i =
    let rest : Owner → List ℚ = λ w. cond (same_owner o w) (after_first (values w)) (values w) in
    joined_step (same_owner o who) (first_or_zero (values o)) (values who) (picked who os (joined os rest)) b
    (picked who os bs)
    (λ t. ap (λ w. first_or_zero (values w)) (same_owner-true o who t))
    (each who i)
    (picked_joined count who os bs rest (omega (arith, e))
    (λ w k. fits_step (same_owner o w) (values w) b (picked w os bs) (each w k)) i)

-- ---- lengths of combinations

pub scale-long : (c : ℚ) (xs : List ℚ) → length (scale_list c xs) ≡ length xs
scale-long c [] = refl
scale-long c (x ∷ xs) = ap suc (scale-long c xs)

pub add-long : (n : ℕ) (xs ys : List ℚ) → length xs ≡ n → length ys ≡ n → length (add_lists xs ys) ≡ n
add-long n [] ys e f = f
add-long n (x ∷ xs) [] e f = e
add-long zero (x ∷ xs) (y ∷ ys) e f = absurd (omega (arith, e))
add-long (suc n) (x ∷ xs) (y ∷ ys) e f = ap suc (add-long n xs ys (omega (arith, e)) (omega (arith, f)))

add_none-long : (n : ℕ) (xs : List ℚ) → length xs ≡ n → length (add_lists xs []) ≡ n
add_none-long n [] e = e
add_none-long n (x ∷ xs) e = e

combine-long : (n : ℕ) (weights : List ℚ) (points : List (List ℚ)) → length weights ≡ length points
    → AllByRecursion (λ (p : List ℚ). length p ≡ n) points → 0 < length weights → length (combine weights points) ≡ n
combine-long n [] points e h l = absurd (omega (arith, l))
combine-long n (w ∷ ws) [] e h l = absurd (omega (arith, e))
combine-long n (w ∷ []) (p ∷ []) e h l = add_none-long n (scale_list w p) (scale-long w p ∙ h.0)
combine-long n (w ∷ []) (p ∷ q ∷ qs) e h l = absurd (omega (arith, e))
combine-long n (w ∷ v ∷ vs) (p ∷ []) e h l = absurd (omega (arith, e))
combine-long n (w ∷ v ∷ vs) (p ∷ q ∷ qs) e h l =
    add-long n (scale_list w p) (combine (v ∷ vs) (q ∷ qs)) (scale-long w p ∙ h.0)
    (combine-long n (v ∷ vs) (q ∷ qs) (omega (arith, e)) h.1 (omega arith))

some_weight : (weights : List ℚ) → total weights ≡ oneℚ → 0 < length weights
some_weight [] e = absurd (one_is_not_zero (sym e))
some_weight (w ∷ ws) e = omega arith

-- ---- the points that a block has

length-points : (held : List Held) → length (held_points held) ≡ length held
length-points [] = refl
length-points (h ∷ hs) = ap suc (length-points hs)

-- a fact of each held point holds of each that a block picks
block_step : (P : List ℚ → Type 0) (Q : Held → Type 0) (block : ℕ) (h : Held) (rest : List (List ℚ)) (t : Bool)
    → (h.block == block) ≡ t → (h.block ≡ block → Q h → P h.point) → Q h → AllByRecursion P rest
    → AllByRecursion P (cond t (h.point ∷ rest) rest)
block_step P Q block h rest true e f q k = (f (eqb-true h.block block e) q, k)
block_step P Q block h rest false e f q k = k

block_points : (P : List ℚ → Type 0) (Q : Held → Type 0) (block : ℕ)
    → ((h : Held) → h.block ≡ block → Q h → P h.point) → (held : List Held) → AllByRecursion Q held
    → AllByRecursion P (picked (Some block) (held_owners held) (held_points held))
block_points P Q block f [] q = tt
block_points P Q block f (h ∷ hs) q =
    block_step P Q block h (picked (Some block) (held_owners hs) (held_points hs)) (h.block == block) refl (f h) q.0
    (block_points P Q block f hs q.1)

both : {A : Type 0} (P Q : A → Type 0) (xs : List A) → AllByRecursion P xs → AllByRecursion Q xs
    → AllByRecursion (λ x. P x × Q x) xs
both P Q [] h k = tt
both P Q (x ∷ xs) h k = ((h.0, k.0), both P Q xs h.1 k.1)

module _ (program : Program) (blocks : Decomposition) (box : List Sides) (held : List Held) (values weights : List ℚ)
    (d : IsDecomposed program blocks) (l : length box ≡ length blocks.columns)
    (points : AllByRecursion (λ (h : Held). IsBlockPoint program blocks box h.block h.point) held)
    (free : IsInBox (picked None blocks.columns box) values) (paired : length weights ≡ length held)
    (one : WeightsSumToOne blocks held weights) where
  -- the weights and the points of a block are as many
  block_paired : (block : ℕ)
      → length (picked (Some block) (held_owners held) weights) ≡ length
      (picked (Some block) (held_owners held) (held_points held))
  block_paired block = length_picked (Some block) (held_owners held) weights (held_points held)
      (omega (arith, paired, length-points held))

  same_length : (block : ℕ) (h : Held) → h.block ≡ block → IsBlockPoint program blocks box h.block h.point
      → length h.point ≡ length (picked (Some block) blocks.columns box)
  same_length block h e p = subst (λ b. length h.point ≡ length (picked (Some b) blocks.columns box)) e
      (IsInBox-long (picked (Some h.block) blocks.columns box) h.point p.within)

  part-long : (who : Owner) → IsOwner blocks.count who
      → length (mixed_part held values weights who) ≡ length (picked who blocks.columns box)
  part-long None i = IsInBox-long (picked None blocks.columns box) values free
  part-long (Some block) i =
      combine-long (length (picked (Some block) blocks.columns box)) (picked (Some block) (held_owners held) weights)
      (picked (Some block) (held_owners held) (held_points held)) (block_paired block)
      (block_points (λ (p : List ℚ). length p ≡ length (picked (Some block) blocks.columns box))
      (λ (h : Held). IsBlockPoint program blocks box h.block h.point) block (same_length block) held points)
      (some_weight (picked (Some block) (held_owners held) weights) (one block i))

  pub picked_mixed : (who : Owner) → IsOwner blocks.count who
      → picked who blocks.columns (mixed blocks.columns held values weights) ≡ mixed_part held values weights who
  picked_mixed who i = picked_joined blocks.count who blocks.columns box (mixed_part held values weights) l part-long i

  among : (block : ℕ) (h : Held) → h.block ≡ block
      → IsBlockPoint program blocks box h.block h.point × Contains held h
      → IsPointAmong program blocks box (Some held) block h.point
  among block h e p = subst (λ b. IsPointAmong program blocks box (Some held) b h.point) e
      (record { is_point = p.0; is_among = p.1 })

  block_convex : AllNonneg weights → (block : ℕ) → block < blocks.count
      → IsConvex (IsPointAmong program blocks box (Some held) block)
      (picked (Some block) blocks.columns (mixed blocks.columns held values weights))
  block_convex nonneg block i = record {
    weights = picked (Some block) (held_owners held) weights;
    points = picked (Some block) (held_owners held) (held_points held);
    nonneg = all_picked (λ x. zeroℚ ≤ℚ x) (Some block) (held_owners held) weights nonneg;
    one = one block i;
    paired = block_paired block;
    kind =
        block_points (IsPointAmong program blocks box (Some held) block)
        (λ (h : Held). IsBlockPoint program blocks box h.block h.point × Contains held h) block (among block) held
        (both (λ (h : Held). IsBlockPoint program blocks box h.block h.point) (Contains held) held points
        (recursion_from_All (Contains held) held (All-contains_itself held)));
    mean = picked_mixed (Some block) i;
  }

  pub mixture_of : AllNonneg weights
      → IsMixture program blocks box (Some held) (mixed blocks.columns held values weights)
  mixture_of nonneg = record {
    long = joined-long blocks.columns (mixed_part held values weights);
    convex = block_convex nonneg;
    free = subst (IsInBox (picked None blocks.columns box)) (sym (picked_mixed None tt)) free;
  }

-- ---- forms

-- a held point's product counts once, for its block
point_step : (form : List ℚ) (t : Bool) (w : ℚ) (p : List ℚ) (ws : List ℚ) (ps : List (List ℚ))
    → dot form (combine (cond t (w ∷ ws) ws) (cond t (p ∷ ps) ps)) ≡ cond t (dot form p *ℚ w) zeroℚ +ℚ dot form
    (combine ws ps)
point_step form true w p ws ps =
    dot-add_right form (scale_list w p) (combine ws ps) ∙ ap (λ t. t +ℚ dot form (combine ws ps))
    (dot-scale_right w form p ∙ *ℚ_comm w (dot form p))
point_step form false w p ws ps = sym (zero-+ℚ (dot form (combine ws ps)))

own_form : (forms : ℕ → List ℚ) (j k : ℕ) (t : Bool) (p : List ℚ) (w : ℚ) → (j == k) ≡ t
    → cond t (dot (forms k) p *ℚ w) zeroℚ ≡ cond t (dot (forms j) p *ℚ w) zeroℚ
own_form forms j k true p w e = ap (λ n. dot (forms n) p *ℚ w) (sym (eqb-true j k e))
own_form forms j k false p w e = refl

-- the sum over all held points is the sum over each block's
pub held_parts : (count : ℕ) (forms : ℕ → List ℚ) (held : List Held) (weights : List ℚ)
    → length weights ≡ length held → AllByRecursion (λ (h : Held). h.block < count) held
    → sum_below count (λ k. dot (forms k)
    (combine (picked (Some k) (held_owners held) weights) (picked (Some k) (held_owners held) (held_points held)))) ≡
    dot (map (λ (h : Held). dot (forms h.block) h.point) held) weights
held_parts count forms [] weights e h = sum_below-zero count _ (λ k i. dot-nil (forms k))
held_parts count forms (g ∷ hs) [] e h = absurd (omega (arith, e))
held_parts count forms (g ∷ hs) (w ∷ ws) e h =
    let v : ℚ = dot (forms g.block) g.point *ℚ w in
    let rest : ℕ → ℚ = λ k. dot (forms k)
    (combine (picked (Some k) (held_owners hs) ws) (picked (Some k) (held_owners hs) (held_points hs))) in
    sum_below-same count _ (λ k. cond (g.block == k) v zeroℚ +ℚ rest k)
    (λ k i.
    point_step (forms k) (g.block == k) w g.point (picked (Some k) (held_owners hs) ws)
    (picked (Some k) (held_owners hs) (held_points hs))
    ∙ ap (λ t. t +ℚ rest k) (own_form forms g.block k (g.block == k) g.point w refl))
    ∙ sum_below-add count (λ k. cond (g.block == k) v zeroℚ) rest
    ∙ ap₂ (λ x y. x +ℚ y) (sum_below-one count g.block v h.0) (held_parts count forms hs ws (omega (arith, e)) h.1)

firsts : {A : Type 0} (P Q : A → Type 0) (xs : List A) → AllByRecursion (λ x. P x × Q x) xs → AllByRecursion P xs
firsts P Q [] h = tt
firsts P Q (x ∷ xs) h = (h.0.0, firsts P Q xs h.1)

pub seconds : {A : Type 0} (P Q : A → Type 0) (xs : List A) → AllByRecursion (λ x. P x × Q x) xs → AllByRecursion Q xs
seconds P Q [] h = tt
seconds P Q (x ∷ xs) h = (h.0.1, seconds P Q xs h.1)

pub form_same : (program : Program) (blocks : Decomposition) (box : List Sides) (held : List Held)
    (form values weights : List ℚ) → IsDecomposed program blocks → length box ≡ length blocks.columns
    → AllByRecursion (λ (h : Held). (h.block < blocks.count) × IsBlockPoint program blocks box h.block h.point) held →
    length form ≡ length blocks.columns → IsInBox (picked None blocks.columns box) values
    → length weights ≡ length held → WeightsSumToOne blocks held weights
    → dot form (mixed blocks.columns held values weights) ≡ dot (master_form blocks.columns form held)
    (values ++ weights)
form_same program blocks box held form values weights d l points long free paired one =
    let below : AllByRecursion (λ (h : Held). h.block < blocks.count) held = firsts _ _ held points in
    let good : AllByRecursion (λ (h : Held). IsBlockPoint program blocks box h.block h.point) held = seconds
    (λ (h : Held). h.block < blocks.count) _ held points in
    let part = λ (who : Owner) (i : IsOwner blocks.count who). picked_mixed program blocks box held values weights d l
    good free paired one who i in
    let forms : ℕ → List ℚ = λ k. picked (Some k) blocks.columns form in
    let fits : length (picked None blocks.columns form) ≡ length values = length_picked None blocks.columns form box
    (omega (arith, long, l)) ∙ sym (IsInBox-long (picked None blocks.columns box) values free) in
    dot_parts blocks.count blocks.columns form (mixed blocks.columns held values weights) d.column_owners
    (omega (arith, long))
    ∙ ap₂ (λ x y. x +ℚ y) (ap (dot (picked None blocks.columns form)) (part None tt))
    (sum_below-same blocks.count _ _ (λ k i. ap (dot (forms k)) (part (Some k) i)) ∙ held_parts blocks.count forms
    held weights paired below)
    ∙ sym (dot-append (picked None blocks.columns form) values (map (λ (h : Held). dot (forms h.block) h.point) held)
    weights fits)

-- ---- bounds

-- no weights
abbrev no_weights : List Held → List ℚ
no_weights held = map (λ (h : Held). zeroℚ) held

no_weights_in : (held : List Held) → IsInBox (map (λ (h : Held). weight_sides) held) (no_weights held)
no_weights_in [] = tt
no_weights_in (h ∷ hs) = (record { above = ≤ℚ_refl zeroℚ; below = tt }, no_weights_in hs)

zip_append : {A B : Type 0} (R : A → B → Type 0) (first second : List A) (xs ys : List B) → AllZip R first xs
    → AllZip R second ys → AllZip R (first ++ second) (xs ++ ys)
zip_append R [] second [] ys h k = k
zip_append R [] second (x ∷ xs) ys h k = absurd h
zip_append R (a ∷ first) second [] ys h k = absurd h
zip_append R (a ∷ first) second (x ∷ xs) ys h k = (h.0, zip_append R first second xs ys h.1 k)

nothing_costs : (costs : List ℚ) (held : List Held) → dot costs (no_weights held) ≡ zeroℚ
nothing_costs [] held = refl
nothing_costs (c ∷ cs) [] = refl
nothing_costs (c ∷ cs) (h ∷ hs) = ap₂ (λ x y. x +ℚ y) (*ℚ-zero c) (nothing_costs cs hs) ∙ +ℚ-zero zeroℚ

turned : (least sides prices free whole : ℚ) → least ≤ℚ (sides +ℚ prices) +ℚ whole → whole ≡ free
    → least ≤ℚ (sides +ℚ free) +ℚ prices
turned least sides prices free whole h e = linear_le (least ∷ sides ∷ prices ∷ free ∷ whole ∷ [])
    (λ s w. omega (arith, s.le_out, s.same_out))

from_reduced : (price product : ℚ) → zeroℚ ≤ℚ product -ℚ price → price ≤ℚ product
from_reduced price product h = linear_le (price ∷ product ∷ []) (λ s w. omega (arith, s.le_out))

pub master_shows : (program : Program) (blocks : Decomposition) (box : List Sides) (held : List Held)
    (costs ys rests prices : List ℚ) (sides least : ℚ) → length box ≡ length blocks.columns
    → AreRests (length blocks.columns) costs ys (master_rows program blocks) rests
    → side_total ys (master_rows program blocks) ≡ Some sides
    → AllByRecursion (λ (h : Held). zeroℚ ≤ℚ reduced_cost blocks.columns rests prices h) held
    → ((point : List ℚ) → IsInBox (master_box blocks.columns box held) point → least ≤ℚ
    (sides +ℚ price_total blocks prices) +ℚ dot (reduced_costs blocks.columns rests prices held) point) → ShowsLeast
    program blocks box (Some held) costs ys prices least
master_shows program blocks box held costs ys rests prices sides least l r e reduced f = record {
  rests = rests;
  sides = sides;
  are_rests = r;
  side_sum = e;
  priced = λ block point i p.
      from_reduced (value_at prices block) (dot (picked (Some block) blocks.columns rests) point)
      (All-contains (λ (h : Held). zeroℚ ≤ℚ reduced_cost blocks.columns rests prices h) held
      (record { block = block; point = point }) (All-from_recursion _ held reduced) p.is_among);
  free = λ values w.
      turned least sides (price_total blocks prices) (dot (picked None blocks.columns rests) values)
      (dot (reduced_costs blocks.columns rests prices held) (values ++ no_weights held))
      (f (values ++ no_weights held)
      (zip_append (λ (s : Sides) (v : ℚ). Between s.low s.high v) (picked None blocks.columns box)
      (map (λ (h : Held). weight_sides) held) values (no_weights held) w (no_weights_in held)))
      (dot-append (picked None blocks.columns rests) values (map (reduced_cost blocks.columns rests prices) held)
      (no_weights held) (length_picked None blocks.columns rests box (r.long ∙ sym l) ∙ sym
      (IsInBox-long (picked None blocks.columns box) values w))
      ∙ ap (λ t. dot (picked None blocks.columns rests) values +ℚ t)
      (nothing_costs (map (reduced_cost blocks.columns rests prices) held) held)
      ∙ +ℚ-zero (dot (picked None blocks.columns rests) values));
}
