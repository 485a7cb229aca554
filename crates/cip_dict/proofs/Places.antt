-- Places in lists of kept entries.
use Rattle.std.proofs.Common.{◌≡◌, ℕ, zero, suc, ◌+◌, ◌-◌, ◌/◌, ◌<◌, ◌≤◌, cond, List, [], ◌∷◌, length, get_or, refl, sym, ap, ◌∙◌, subst, inl, inr, arith}
use Rattle.std.proofs.lemmas.Bool.{cases_eq, cases_lt, eq-eqb, ne_eqb}
use Rattle.std.proofs.lemmas.List.{get_or_default}
use Rattle.cip_rational.specs.Rational.{zeroℚ}
use Rattle.cip_dict.specs.SparseLines.{Kept, entry_on, AreKept, AreRising, IsPlace, IsNext}

-- an entry on another variable is passed over
pub passed : (e : Kept) (es : List Kept) (k : ℕ) → ¬ (e.0 ≡ k) → entry_on (e ∷ es) k ≡ entry_on es k
passed e es k ne = ap (λ b. cond b e.1 (entry_on es k)) (ne_eqb e.0 k ne)

pub met : (e : Kept) (es : List Kept) (k : ℕ) → e.0 ≡ k → entry_on (e ∷ es) k ≡ e.1
met e es k same = ap (λ b. cond b e.1 (entry_on es k)) (eq-eqb e.0 k same)

-- there is none on the variables before them
pub none_below : (es : List Kept) (least n k : ℕ) → AreKept least n es → k < least → entry_on es k ≡ zeroℚ
none_below [] least n k h l = refl
none_below (e ∷ es) least n k h l =
    passed e es k (λ (s : e.0 ≡ k). absurd (omega (arith, s, h.0, l))) ∙ none_below es (suc e.0) n k h.3 (omega (arith, h.0, l))

-- variables rise
pub rising_kept : (es : List Kept) (least n : ℕ) → AreKept least n es → AreRising least es
rising_kept [] least n h = tt
rising_kept (e ∷ es) least n h = (h.0, rising_kept es (suc e.0) n h.3)

rising : {A : Type 0} (es : List (ℕ × A)) (least a b : ℕ) (c d : ℕ × A) → AreRising least es → a < b → b < length es → (get_or es a c).0 < (get_or es b d).0
rising [] least a b c d h l w = absurd (omega (arith, w))
rising (e ∷ es) least a zero c d h l w = absurd (omega (arith, l))
rising (e ∷ es) least zero (suc b) c d h l w = first_least es (suc e.0) b d h.1 (omega (arith, w))
  where
    first_least : {A : Type 0} (es : List (ℕ × A)) (least b : ℕ) (d : ℕ × A) → AreRising least es → b < length es → least ≤ (get_or es b d).0
    first_least [] least b d h w = absurd (omega (arith, w))
    first_least (e ∷ es) least zero d h w = h.0
    first_least (e ∷ es) least (suc b) d h w = let r : suc e.0 ≤ (get_or es b d).0 = first_least es (suc e.0) b d h.1 (omega (arith, w)) in omega (arith, r, h.0)
rising (e ∷ es) least (suc a) (suc b) c d h l w = rising es (suc e.0) a b c d h.1 (omega (arith, l)) (omega (arith, w))

pub all_below : (es : List Kept) (least n b : ℕ) (d : Kept) → AreKept least n es → b < length es → (get_or es b d).0 < n
all_below [] least n b d h w = absurd (omega (arith, w))
all_below (e ∷ es) least n zero d h w = h.1
all_below (e ∷ es) least n (suc b) d h w = all_below es (suc e.0) n b d h.3 (omega (arith, w))

-- ---- places

pub place_within : (k : ℕ) (es : List Kept) (p : ℕ) → IsPlace k es p → p ≤ length es
place_within k [] zero h = omega arith
place_within k [] (suc p) h = absurd h
place_within k (e ∷ es) zero h = omega arith
place_within k (e ∷ es) (suc p) h = omega (arith, place_within k es p h.1)

pub place_of : {A : Type 0} (k : ℕ) (es : List (ℕ × A)) (p : ℕ) → p ≤ length es → ((a : ℕ) (d : ℕ × A) → a < p → (get_or es a d).0 < k) → ((a : ℕ) (d : ℕ × A) → p ≤ a → a < length es → k ≤ (get_or es a d).0) → IsPlace k es p
place_of k [] zero l before after = tt
place_of k [] (suc p) l before after = absurd (omega (arith, l))
place_of k (e ∷ es) zero l before after = after 0 e (omega arith) (omega arith)
place_of k (e ∷ es) (suc p) l before after =
    (before 0 e (omega arith), place_of k es p (omega (arith, l)) (λ a d w. before (suc a) d (omega (arith, w))) (λ a d u w. after (suc a) d (omega (arith, u)) (omega (arith, w))))

pub place_zero : (es : List Kept) → IsPlace 0 es 0
place_zero [] = tt
place_zero (e ∷ es) = omega arith

place_least : (es : List Kept) (least n : ℕ) → AreKept least n es → IsPlace least es 0
place_least [] least n h = tt
place_least (e ∷ es) least n h = h.0

-- the place of a greater variable, where the next entry isn't before it
pub place_up : (m k : ℕ) (es : List Kept) (p : ℕ) → IsPlace m es p → m ≤ k → ((d : Kept) → p < length es → k ≤ (get_or es p d).0) → IsPlace k es p
place_up m k [] zero h l f = tt
place_up m k [] (suc p) h l f = absurd h
place_up m k (e ∷ es) zero h l f = f e (omega arith)
place_up m k (e ∷ es) (suc p) h l f = (omega (arith, h.0, l), place_up m k es p h.1 l (λ d w. f d (omega (arith, w))))

-- behind the entry on k
pub place_hit : (k : ℕ) (es : List Kept) (p least n : ℕ) (d : Kept) → AreKept least n es → IsPlace k es p → p < length es → (get_or es p d).0 ≡ k → IsPlace (suc k) es (suc p)
place_hit k [] p least n d h i l s = absurd (omega (arith, l))
place_hit k (e ∷ es) zero least n d h i l s = (omega (arith, s), subst (λ m. IsPlace (suc m) es 0) s (place_least es (suc e.0) n h.3))
place_hit k (e ∷ es) (suc p) least n d h i l s = (omega (arith, i.0), place_hit k es p (suc e.0) n d h.3 i.1 (omega (arith, l)) s)

-- where there is none on k
pub place_miss : (k : ℕ) (es : List Kept) (p : ℕ) → IsPlace k es p → ((d : Kept) → p < length es → ¬ ((get_or es p d).0 ≡ k)) → IsPlace (suc k) es p
place_miss k [] zero i f = tt
place_miss k [] (suc p) i f = absurd i
place_miss k (e ∷ es) zero i f = let ne = f e (omega arith) in omega (arith, i, ne)
place_miss k (e ∷ es) (suc p) i f = (omega (arith, i.0), place_miss k es p i.1 (λ d w. f d (omega (arith, w))))

pub entry_hit : (k : ℕ) (es : List Kept) (p : ℕ) (d : Kept) → IsPlace k es p → p < length es → (get_or es p d).0 ≡ k → entry_on es k ≡ (get_or es p d).1
entry_hit k [] p d i l s = absurd (omega (arith, l))
entry_hit k (e ∷ es) zero d i l s = met e es k s
entry_hit k (e ∷ es) (suc p) d i l s = passed e es k (λ (s : e.0 ≡ k). absurd (omega (arith, s, i.0))) ∙ entry_hit k es p d i.1 (omega (arith, l)) s

pub entry_miss : (k : ℕ) (es : List Kept) (p least n : ℕ) → AreKept least n es → IsPlace k es p → ((d : Kept) → p < length es → ¬ ((get_or es p d).0 ≡ k)) → entry_on es k ≡ zeroℚ
entry_miss k [] p least n h i f = refl
entry_miss k (e ∷ es) zero least n h i f =
    let ne = f e (omega arith) in
    passed e es k ne ∙ none_below es (suc e.0) n k h.3 (omega (arith, i, ne))
entry_miss k (e ∷ es) (suc p) least n h i f =
    passed e es k (λ (s : e.0 ≡ k). absurd (omega (arith, s, i.0))) ∙ entry_miss k es p (suc e.0) n h.3 i.1 (λ d w. f d (omega (arith, w)))

-- between a place and the entry that comes next
pub entry_between : (m k : ℕ) (es : List Kept) (p least n : ℕ) → AreKept least n es → IsPlace m es p → m ≤ k → ((d : Kept) → p < length es → k < (get_or es p d).0) → entry_on es k ≡ zeroℚ
entry_between m k es p least n h i l f =
    entry_miss k es p least n h
    (place_up m k es p i l (λ d w. let r = f d w in omega (arith, r)))
    (λ d w s. let r = f d w in absurd (omega (arith, r, s)))

-- ---- a search

-- the middle of a stretch
pub middle_within : (low high : ℕ) → low < high → low + (high - low) / 2 < high
middle_within low high h = omega arith

pub more_before : {A : Type 0} (es : List (ℕ × A)) (m k : ℕ) (e : ℕ × A) → AreRising 0 es → m < length es → (get_or es m e).0 < k → (a : ℕ) (d : ℕ × A) → a < m + 1 → (get_or es a d).0 < k
more_before es m k e up l h a d b =
    elim (cases_eq a m) [
      | inl f ↦ (let s : (get_or es m d).0 ≡ (get_or es m e).0 = ap (λ p. p.0) (get_or_default es m d e l) in
          subst (λ (i : ℕ). (get_or es i d).0 < k) (sym f) (omega (arith, s, h)))
      | inr ne ↦ (let r : (get_or es a d).0 < (get_or es m e).0 = rising es 0 a m d e up (omega (arith, b, ne)) l in omega (arith, r, h))
    ]

pub less_after : {A : Type 0} (es : List (ℕ × A)) (m k : ℕ) (e : ℕ × A) → AreRising 0 es → m < length es → k ≤ (get_or es m e).0 → (a : ℕ) (d : ℕ × A) → m ≤ a → a < length es → k ≤ (get_or es a d).0
less_after es m k e up l h a d b w =
    elim (cases_eq a m) [
      | inl f ↦ (let s : (get_or es m d).0 ≡ (get_or es m e).0 = ap (λ p. p.0) (get_or_default es m d e l) in
          subst (λ (i : ℕ). k ≤ (get_or es i d).0) (sym f) (omega (arith, s, h)))
      | inr ne ↦ (let r : (get_or es m e).0 < (get_or es a d).0 = rising es 0 m a e d up (omega (arith, b, ne)) w in omega (arith, r, h))
    ]

-- ---- the variable of the entry at a place

pub at_least : (k : ℕ) (es : List Kept) (p : ℕ) (d : Kept) → IsPlace k es p → p < length es → k ≤ (get_or es p d).0
at_least k [] p d i l = absurd (omega (arith, l))
at_least k (e ∷ es) zero d i l = i
at_least k (e ∷ es) (suc p) d i l = at_least k es p d i.1 (omega (arith, l))

module _ (n : ℕ) (es : List Kept) (p v : ℕ) (kept : AreKept 0 n es) (first : (d : Kept) → p < length es → v ≡ (get_or es p d).0) (last : length es ≤ p → v ≡ n) where
  reach : (from : ℕ) → from ≤ n → IsPlace from es p → from ≤ v
  reach from l i =
      elim (cases_lt p (length es)) [
        | inl w ↦ (let f : v ≡ (get_or es p (0, zeroℚ)).0 = first (0, zeroℚ) w in
            let a : from ≤ (get_or es p (0, zeroℚ)).0 = at_least from es p (0, zeroℚ) i w in
            omega (arith, f, a))
        | inr w ↦ (let e : v ≡ n = last w in omega (arith, e, l))
      ]

  place_at : (from k : ℕ) → IsPlace from es p → from ≤ k → k ≤ v → IsPlace k es p
  place_at from k i l u = place_up from k es p i l (λ d w. let f = first d w in omega (arith, f, u))

  none_at : (from k : ℕ) → IsPlace from es p → from ≤ k → k < v → entry_on es k ≡ zeroℚ
  none_at from k i l u = entry_between from k es p 0 n kept i l (λ d w. let f = first d w in omega (arith, f, u))

-- the lesser of two such variables is the next
pub next_of : (n : ℕ) (row new : List Kept) (here there v w least : ℕ)
    → AreKept 0 n row → ((d : Kept) → here < length row → v ≡ (get_or row here d).0) → (length row ≤ here → v ≡ n)
    → AreKept 0 n new → ((d : Kept) → there < length new → w ≡ (get_or new there d).0) → (length new ≤ there → w ≡ n)
    → least ≤ v → least ≤ w → ((from : ℕ) → from ≤ v → from ≤ w → from ≤ least)
    → (from : ℕ) → from ≤ n → IsPlace from row here → IsPlace from new there → IsNext row new here there from least
next_of n row new here there v w least rk rf rl nk nf nl lv lw both from l ri ni =
    let reached : from ≤ least = both from (reach n row here v rk rf rl from l ri) (reach n new there w nk nf nl from l ni) in
    record {
      order = reached;
      row_place = place_at n row here v rk rf rl from least ri reached lv;
      new_place = place_at n new there w nk nf nl from least ni reached lw;
      row_none = λ k a b. none_at n row here v rk rf rl from k ri a (omega (arith, b, lv));
      new_none = λ k a b. none_at n new there w nk nf nl from k ni a (omega (arith, b, lw));
    }
