-- Points that are found by the chain of their group.
use Rattle.std.proofs.Common.{◌≡◌, ◌≢◌, ℕ, zero, suc, ◌+◌, ◌<◌, ◌≤◌, List, [], ◌∷◌, ◌++◌, length, get_or, refl, sym, ap, ap₂, ◌∙◌, subst, arith, inl, inr}
use Rattle.std.specs.Prelude.{slice_set}
use Rattle.std.specs.List.{HoldsAt}
use Rattle.std.proofs.lemmas.Bool.{cases_eq, cases_lt}
use Rattle.std.proofs.lemmas.List.{get_or_append_left, get_or-set_same, get_or-set_other, length_push}
use Rattle.std.proofs.Math.Seq.{get_or-append_seam}
use Rattle.cip_rational.specs.Rational.{ℚ}
use Rattle.cip_columns.specs.PoolPoints.{PoolPoint}
use Rattle.cip_columns.specs.ColumnPools.{most_points, Serves, IsKnown, IsUnknown, AreCounted, with_point}
use Rattle.cip_columns.specs.PointPrints.{group_count, group_of}
use Rattle.cip_columns.specs.PointChains.{IsOfGroup, IsOfOther, Skips, AreFirsts, AreLinked, IsSoundPool}

-- ---- looking up

-- from a link on, no point is the one that is looked for
pub record IsPassed (points : List PoolPoint) (block : ℕ) (values : List ℚ) (link : ℕ) : Type 0 where
  pub within : link ≤ length points
  pub named : (k : ℕ) → k + 1 ≡ link → HoldsAt (IsOfGroup (group_of block values)) points k
  pub passed : (k : ℕ) (default : PoolPoint) → link ≤ k → k < length points
      → ¬ Serves block values (get_or points k default)

same_group : (block : ℕ) (values : List ℚ) (held : PoolPoint) → Serves block values held
    → group_of held.block held.point ≡ group_of block values
same_group block values held s = ap₂ group_of s.same_block s.same_values

pub passed_first : (points : List PoolPoint) (block : ℕ) (values : List ℚ) (link : ℕ)
    → Skips points (group_of block values) link (length points) → IsPassed points block values link
passed_first points block values link s = record {
  within = s.within;
  named = s.named;
  passed = λ k d h l serves. s.others k h l d (same_group block values (get_or points k d) serves);
}

point_default : (points : List PoolPoint) (k : ℕ) (d e : PoolPoint) → k < length points
    → get_or points k d ≡ get_or points k e
point_default [] k d e h = absurd (omega (arith, h))
point_default (x ∷ xs) zero d e h = refl
point_default (x ∷ xs) (suc k) d e h = point_default xs k d e (omega (arith, h))

pub passed_next : (points : List PoolPoint) (links : List ℕ) (block : ℕ) (values : List ℚ) (link at : ℕ)
    (held : PoolPoint) → at + 1 ≡ link → AreLinked points links → IsPassed points block values link
    → held ≡ get_or points at held → ¬ Serves block values held → IsPassed points block values (get_or links at 0)
passed_next points links block values link at held q linked p r n =
    let l : at < length points = omega (arith, p.within, q) in
    let s : Skips points (group_of (get_or points at held).block (get_or points at held).point) (get_or links at 0) at
    = linked at held l in
    let e : group_of (get_or points at held).block (get_or points at held).point ≡ group_of block values = p.named at
    q held in
    let t : Skips points (group_of block values) (get_or links at 0) at = subst
    (λ g. Skips points g (get_or links at 0) at) e s in
    record {
      within = omega (arith, t.within, l);
      named = t.named;
      passed = λ k d h m serves.
          elim (cases_lt k at) [
            | inl b ↦ t.others k h b d (same_group block values (get_or points k d) serves)
            | inr b ↦
                elim (cases_eq k at) [
                  | inl f ↦ n (subst (Serves block values)
                      (ap (λ i. get_or points i d) f ∙ point_default points at d held l ∙ sym r) serves)
                  | inr f ↦ p.passed k d (omega (arith, b, f, q)) m serves
                ]
          ];
    }

pub none_left : (points : List PoolPoint) (block : ℕ) (values : List ℚ) (link : ℕ) → link ≡ 0
    → IsPassed points block values link → IsUnknown points block values
none_left points block values link e p k d l = p.passed k d (omega (arith, e)) l

pub found : (points : List PoolPoint) (block : ℕ) (values : List ℚ) (at : ℕ) (held : PoolPoint) → AreCounted points
    → at < length points → held ≡ get_or points at held → Serves block values held → IsKnown points block values at
found points block values at held counted l r s =
    (at, held, l, sym r, (ap (λ (h : PoolPoint). h.id) r ∙ counted at held l, s))

length_set : (xs : List ℕ) (k x : ℕ) → length (slice_set xs k x) ≡ length xs
length_set [] k x = refl
length_set (y ∷ ys) zero x = refl
length_set (y ∷ ys) (suc k) x = ap suc (length_set ys k x)

-- ---- one point more

module _ (points : List PoolPoint) (block : ℕ) (values : List ℚ) where
  more : List PoolPoint
  more = with_point points block values

  new_point : PoolPoint
  new_point = record { id = length points; block = block; point = values }

  -- the points before the new one are what they were
  kept_at : (k : ℕ) (d : PoolPoint) → k < length points
      → get_or (with_point points block values) k d ≡ get_or points k d
  kept_at k d h = get_or_append_left points _ d k h

  new_at : (d : PoolPoint)
      → get_or (with_point points block values) (length points) d ≡ record
      { id = length points; block = block; point = values }
  new_at d = get_or-append_seam points _ [] d

  skips_kept : (group link place : ℕ) → place ≤ length points → Skips points group link place
      → Skips (with_point points block values) group link place
  skips_kept group link place h s = record {
    within = s.within;
    named = λ k e d. subst (IsOfGroup group) (sym (kept_at k d (omega (arith, e, s.within, h)))) (s.named k e d);
    others = λ k l m d. subst (IsOfOther group) (sym (kept_at k d (omega (arith, m, h)))) (s.others k l m d);
  }

  skips_further : (group link : ℕ) → group_of block values ≢ group → Skips points group link (length points)
      → Skips (with_point points block values) group link (length points + 1)
  skips_further group link n s =
      let t = skips_kept group link (length points) (omega arith) s in
      record {
        within = omega (arith, s.within);
        named = t.named;
        others = λ k l m d.
            elim (cases_lt k (length points)) [
              | inl b ↦ t.others k l b d
              | inr b ↦
                  let e : k ≡ length points = omega (arith, b, m) in
                  subst (IsOfOther group) (sym (ap (λ i. get_or (with_point points block values) i d) e ∙ new_at d)) n
            ];
      }

  skips_new : Skips (with_point points block values) (group_of block values) (length points + 1) (length points + 1)
  skips_new = record {
    within = omega arith;
    named = λ k e d. let f : k ≡ length points = omega (arith, e) in subst (IsOfGroup (group_of block values))
        (sym (ap (λ i. get_or (with_point points block values) i d) f ∙ new_at d)) refl;
    others = λ k l m d. absurd (omega (arith, l, m));
  }

  pub firsts_pushed : (firsts : List ℕ) (group link : ℕ) → group ≡ group_of block values
      → length firsts ≡ group_count → link ≡ length points + 1 → AreFirsts points firsts
      → AreFirsts (with_point points block values) (slice_set firsts group link)
  firsts_pushed firsts group link e long f firsts_are g h =
      let n : length (with_point points block values) ≡ length points + 1 = length_push points _ in
      subst (Skips (with_point points block values) g (get_or (slice_set firsts group link) g 0)) (sym n)
      (elim (cases_eq g group) [
        | inl q ↦
            let set : get_or (slice_set firsts group link) g 0 ≡ length points + 1 = ap
            (λ i. get_or (slice_set firsts group link) i 0) q ∙ get_or-set_same firsts group link 0
            (omega (arith, q, h, long)) ∙ f in
            subst (λ l. Skips (with_point points block values) g l (length points + 1)) (sym set)
            (subst (λ r. Skips (with_point points block values) r (length points + 1) (length points + 1))
            (sym (q ∙ e)) skips_new)
        | inr q ↦
            subst (λ l. Skips (with_point points block values) g l (length points + 1))
            (sym (get_or-set_other firsts group g link 0 q))
            (skips_further g (get_or firsts g 0) (λ r. q (sym (e ∙ r))) (firsts_are g h))
      ])

  pub links_pushed : (firsts links : List ℕ) (group link : ℕ) → group ≡ group_of block values → group < group_count
      → length links ≡ length points → link ≡ get_or firsts group 0 → AreFirsts points firsts
      → AreLinked points links → AreLinked (with_point points block values) (links ++ link ∷ [])
  links_pushed firsts links group link e below each f firsts_are linked k d h =
      let n : length (with_point points block values) ≡ length points + 1 = length_push points _ in
      elim (cases_lt k (length points)) [
        | inl b ↦
            let same : get_or (links ++ link ∷ []) k 0 ≡ get_or links k 0 = get_or_append_left links _ 0 k
            (omega (arith, b, each)) in
            subst (λ l. Skips (with_point points block values)
            (group_of (get_or (with_point points block values) k d).block
            (get_or (with_point points block values) k d).point) l k) (sym same)
            (subst (λ (p : PoolPoint). Skips (with_point points block values) (group_of p.block p.point)
            (get_or links k 0) k) (sym (kept_at k d b))
            (skips_kept _ (get_or links k 0) k (omega (arith, b)) (linked k d b)))
        | inr b ↦
            let q : k ≡ length points = omega (arith, b, h, n) in
            let same : get_or (links ++ link ∷ []) k 0 ≡ get_or firsts group 0 = ap
            (λ i. get_or (links ++ link ∷ []) i 0) (q ∙ sym each) ∙ get_or-append_seam links link [] 0 ∙ f in
            subst (λ l. Skips (with_point points block values)
            (group_of (get_or (with_point points block values) k d).block
            (get_or (with_point points block values) k d).point) l k) (sym same)
            (subst (λ (p : PoolPoint). Skips (with_point points block values) (group_of p.block p.point)
            (get_or firsts group 0) k) (sym (ap (λ i. get_or (with_point points block values) i d) q ∙ new_at d))
            (subst (λ i. Skips (with_point points block values) (group_of block values) (get_or firsts group 0) i)
            (sym q)
            (skips_kept (group_of block values) (get_or firsts group 0) (length points) (omega arith)
            (subst (λ g. Skips points g (get_or firsts group 0) (length points)) e (firsts_are group below)))))
      ]

  pub counted_pushed : AreCounted points → AreCounted (with_point points block values)
  counted_pushed counted k d h =
      let n : length (with_point points block values) ≡ length points + 1 = length_push points _ in
      elim (cases_lt k (length points)) [
        | inl b ↦ ap (λ (p : PoolPoint). p.id) (kept_at k d b) ∙ counted k d b
        | inr b ↦
            let q : k ≡ length points = omega (arith, b, h, n) in
            ap (λ (p : PoolPoint). p.id) (ap (λ i. get_or (with_point points block values) i d) q ∙ new_at d) ∙ sym q
      ]

-- ---- pools

pub pool_pushed : (points : List PoolPoint) (firsts links : List ℕ) (block : ℕ) (values : List ℚ) (group link : ℕ)
    → group ≡ group_of block values → group < group_count → length points < most_points → link ≡ length points + 1
    → IsSoundPool points firsts links
    → IsSoundPool (with_point points block values) (slice_set firsts group link) (links ++ get_or firsts group 0 ∷ [])
pool_pushed points firsts links block values group link e below room f pool = record {
  few = omega (arith, length_push points (record { id = length points; block = block; point = values }), room);
  counted = counted_pushed points block values pool.counted;
  groups = length_set firsts group link ∙ pool.groups;
  each = length_push links (get_or firsts group 0) ∙ omega
      (arith, pool.each, length_push points (record { id = length points; block = block; point = values }));
  first = firsts_pushed points block values firsts group link e pool.groups f pool.first;
  next = links_pushed points block values firsts links group (get_or firsts group 0) e below pool.each refl pool.first
      pool.next;
}

-- ---- the pool after a point was put at its end

number_default : (xs : List ℕ) (k d e : ℕ) → k < length xs → get_or xs k d ≡ get_or xs k e
number_default [] k d e h = absurd (omega (arith, h))
number_default (x ∷ xs) zero d e h = refl
number_default (x ∷ xs) (suc k) d e h = number_default xs k d e (omega (arith, h))

pub pool_after : (points : List PoolPoint) (firsts links : List ℕ) (block : ℕ) (values : List ℚ) (group id kept : ℕ)
    (held : PoolPoint) (new_points : List PoolPoint) (new_links : List ℕ) → group ≡ group_of block values
    → group < group_count → length points < most_points → id ≡ length points
    → held ≡ record { id = id; block = block; point = values } → new_points ≡ points ++ held ∷ []
    → kept ≡ get_or firsts group kept → new_links ≡ links ++ kept ∷ [] → IsSoundPool points firsts links
    → IsSoundPool new_points (slice_set firsts group (id + 1)) new_links
pool_after points firsts links block values group id kept held new_points new_links g below room i h p k l pool =
    let point_of : ℕ → PoolPoint = λ n. record { id = n; block = block; point = values } in
    let here : new_points ≡ with_point points block values = p ∙ ap (λ (x : PoolPoint). points ++ x ∷ [])
    (h ∙ ap point_of i) in
    let first : kept ≡ get_or firsts group 0 = k ∙ number_default firsts group kept 0
    (omega (arith, below, pool.groups)) in
    let linked : new_links ≡ links ++ get_or firsts group 0 ∷ [] = l ∙ ap (λ (n : ℕ). links ++ n ∷ []) first in
    subst (λ (ps : List PoolPoint). IsSoundPool ps (slice_set firsts group (id + 1)) new_links) (sym here)
    (subst (λ (ls : List ℕ). IsSoundPool (with_point points block values) (slice_set firsts group (id + 1)) ls)
    (sym linked)
    (pool_pushed points firsts links block values group (id + 1) g below room (ap (λ n. n + 1) i) pool))
