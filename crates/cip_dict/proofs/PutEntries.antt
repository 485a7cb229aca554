-- Entries that are put into a list of kept entries, or let go.
use Rattle.std.proofs.Common.{◌≡◌, ◌≢◌, ℕ, zero, suc, ◌<◌, ◌≤◌, ◌==◌, cond, List, [], ◌∷◌, length, get_or, set, sym, ap, ◌∙◌, subst, inl, inr, arith}
use Rattle.std.specs.List.{insert, remove}
use Rattle.std.proofs.lemmas.Bool.{cases_eq, eq-eqb, ne_eqb}
use Rattle.cip_rational.specs.Rational.{ℚ, zeroℚ}
use Rattle.cip_dict.specs.SparseLines.{Kept, entry_on, AreKept, IsPlace}
use Rattle.cip_dict.proofs.Places.{passed, met, none_below, entry_miss}

chosen : {X : Type 0} (v k : ℕ) (a b : X) → v ≡ k → cond (v == k) a b ≡ a
chosen v k a b e = ap (λ t. cond t a b) (eq-eqb v k e)

other : {X : Type 0} (v k : ℕ) (a b : X) → ¬ (v ≡ k) → cond (v == k) a b ≡ b
other v k a b e = ap (λ t. cond t a b) (ne_eqb v k e)

-- an entry at the front
front : (k v : ℕ) (q : ℚ) (es : List Kept) → entry_on ((k, q) ∷ es) v ≡ cond (v == k) q (entry_on es v)
front k v q es =
    elim (cases_eq v k) [
      | inl e ↦ met (k, q) es v (sym e) ∙ sym (chosen v k q (entry_on es v) e)
      | inr ne ↦ passed (k, q) es v (λ (e : k ≡ v). ne (sym e)) ∙ sym (other v k q (entry_on es v) ne)
    ]

-- behind an entry on a lower variable
behind : (e : Kept) (es fs : List Kept) (k v : ℕ) (q : ℚ) → e.0 < k → entry_on fs v ≡ cond (v == k) q (entry_on es v) → entry_on (e ∷ fs) v ≡ cond (v == k) q (entry_on (e ∷ es) v)
behind e es fs k v q l h =
    elim (cases_eq v k) [
      | inl s ↦ passed e fs v (λ (t : e.0 ≡ v). absurd (omega (arith, t, s, l))) ∙ h ∙ chosen v k q (entry_on es v) s ∙ sym (chosen v k q (entry_on (e ∷ es) v) s)
      | inr ne ↦ ap (λ t. cond (e.0 == v) e.1 t) (h ∙ other v k q (entry_on es v) ne) ∙ sym (other v k q (entry_on (e ∷ es) v) ne)
    ]

pub set_entry : (k v : ℕ) (q : ℚ) (es : List Kept) (p least n : ℕ) → AreKept least n es → IsPlace k es p → p < length es → ((d : Kept) → (get_or es p d).0 ≡ k) → entry_on (set es p (k, q)) v ≡ cond (v == k) q (entry_on es v)
set_entry k v q [] p least n h i l s = absurd (omega (arith, l))
set_entry k v q (e ∷ es) zero least n h i l s =
    front k v q es ∙ elim (cases_eq v k) [
      | inl f ↦ chosen v k q (entry_on es v) f ∙ sym (chosen v k q (entry_on (e ∷ es) v) f)
      | inr ne ↦ (let same : e.0 ≡ k = s e in
          other v k q (entry_on es v) ne ∙ sym (passed e es v (λ (t : e.0 ≡ v). ne (sym t ∙ same))) ∙ sym (other v k q (entry_on (e ∷ es) v) ne))
    ]
set_entry k v q (e ∷ es) (suc p) least n h i l s =
    behind e es (set es p (k, q)) k v q i.0 (set_entry k v q es p (suc e.0) n h.3 i.1 (omega (arith, l)) s)

pub set_kept : (k : ℕ) (q : ℚ) (es : List Kept) (p least n : ℕ) → AreKept least n es → p < length es → ((d : Kept) → (get_or es p d).0 ≡ k) → q ≢ zeroℚ → AreKept least n (set es p (k, q))
set_kept k q [] p least n h l s z = absurd (omega (arith, l))
set_kept k q (e ∷ es) zero least n h l s z =
    let same : e.0 ≡ k = s e in (omega (arith, same, h.0), omega (arith, same, h.1), z, subst (λ m. AreKept (suc m) n es) same h.3)
set_kept k q (e ∷ es) (suc p) least n h l s z = (h.0, h.1, h.2, set_kept k q es p (suc e.0) n h.3 (omega (arith, l)) s z)

pub insert_entry : (k v : ℕ) (q : ℚ) (es : List Kept) (p : ℕ) → IsPlace k es p → entry_on (insert es p (k, q)) v ≡ cond (v == k) q (entry_on es v)
insert_entry k v q [] zero i = front k v q []
insert_entry k v q [] (suc p) i = absurd i
insert_entry k v q (e ∷ es) zero i = front k v q (e ∷ es)
insert_entry k v q (e ∷ es) (suc p) i = behind e es (insert es p (k, q)) k v q i.0 (insert_entry k v q es p i.1)

pub insert_kept : (k : ℕ) (q : ℚ) (es : List Kept) (p least n : ℕ) → AreKept least n es → IsPlace k es p → least ≤ k → k < n → ((d : Kept) → p < length es → ¬ ((get_or es p d).0 ≡ k)) → q ≢ zeroℚ → AreKept least n (insert es p (k, q))
insert_kept k q [] zero least n h i l w f z = (l, w, z, tt)
insert_kept k q [] (suc p) least n h i l w f z = absurd i
insert_kept k q (e ∷ es) zero least n h i l w f z =
    let ne = f e (omega arith) in (l, w, z, (omega (arith, i, ne), h.1, h.2, h.3))
insert_kept k q (e ∷ es) (suc p) least n h i l w f z =
    (h.0, h.1, h.2, insert_kept k q es p (suc e.0) n h.3 i.1 (omega (arith, i.0)) w (λ d u. f d (omega (arith, u))) z)

pub remove_entry : (k v : ℕ) (es : List Kept) (p least n : ℕ) → AreKept least n es → IsPlace k es p → p < length es → ((d : Kept) → (get_or es p d).0 ≡ k) → entry_on (remove es p) v ≡ cond (v == k) zeroℚ (entry_on es v)
remove_entry k v [] p least n h i l s = absurd (omega (arith, l))
remove_entry k v (e ∷ es) zero least n h i l s =
    let same : e.0 ≡ k = s e in
    elim (cases_eq v k) [
      | inl f ↦ none_below es (suc e.0) n v h.3 (omega (arith, f, same)) ∙ sym (chosen v k zeroℚ (entry_on (e ∷ es) v) f)
      | inr ne ↦ sym (passed e es v (λ (t : e.0 ≡ v). ne (sym t ∙ same))) ∙ sym (other v k zeroℚ (entry_on (e ∷ es) v) ne)
    ]
remove_entry k v (e ∷ es) (suc p) least n h i l s =
    behind e es (remove es p) k v zeroℚ i.0 (remove_entry k v es p (suc e.0) n h.3 i.1 (omega (arith, l)) s)

lower : (es : List Kept) (l least n : ℕ) → AreKept least n es → l ≤ least → AreKept l n es
lower [] l least n h w = tt
lower (e ∷ es) l least n h w = (omega (arith, w, h.0), h.1, h.2, h.3)

pub remove_kept : (es : List Kept) (p least n : ℕ) → AreKept least n es → p < length es → AreKept least n (remove es p)
remove_kept [] p least n h l = absurd (omega (arith, l))
remove_kept (e ∷ es) zero least n h l = lower es least (suc e.0) n h.3 (omega (arith, h.0))
remove_kept (e ∷ es) (suc p) least n h l = (h.0, h.1, h.2, remove_kept es p (suc e.0) n h.3 (omega (arith, l)))

-- where there is no entry, none goes
pub gone_already : (k v : ℕ) (es : List Kept) (p least n : ℕ) → AreKept least n es → IsPlace k es p → ((d : Kept) → p < length es → ¬ ((get_or es p d).0 ≡ k)) → entry_on es v ≡ cond (v == k) zeroℚ (entry_on es v)
gone_already k v es p least n h i f =
    elim (cases_eq v k) [
      | inl s ↦ ap (entry_on es) s ∙ entry_miss k es p least n h i f ∙ sym (chosen v k zeroℚ (entry_on es v) s)
      | inr ne ↦ sym (other v k zeroℚ (entry_on es v) ne)
    ]
