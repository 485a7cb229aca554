-- Entries that are put behind all others.
use Rattle.std.proofs.Common.{◌≡◌, ◌≢◌, ℕ, ◌+◌, ◌<◌, ◌==◌, ◌^◌, ℤ, pos, cond, Bool, true, false, List, [], ◌∷◌, ◌++◌, length, get_or, refl, sym, ap, ◌∙◌, subst, arith, lit<}
use Rattle.std.specs.List.{insert}
use Rattle.std.proofs.lemmas.List.{append-nil}
use Rattle.cip_rational.specs.Rational.{ℚ, zeroℚ, ratio, is_zero}
use Rattle.cip_rational.specs.Range.{magnitude}
use Rattle.cip_rational.proofs.Rational.Inverse.{ratio_zero}
use Rattle.cip_bland.proofs.Zeros.{nonzero_of}
use Rattle.cip_dict.specs.SparseLines.{Kept, entry_on, AreKept, AreRising, IsPlace, kept_at}
use Rattle.cip_dict.specs.WholeLines.{Whole, over, IsWhole}
use Rattle.cip_dict.proofs.Places.{place_of, more_before}
use Rattle.cip_dict.proofs.PutEntries.{insert_entry, insert_kept, gone_already}
use Rattle.cip_dict.proofs.WholeParts.{length_over, over_place, over_append, none_ratio, append_below}
use Rattle.cip_problem.proofs.Rows.{zero_of_test}

-- where the last entry is on a variable below k, all are
pub last_below : {A : Type 0} (es : List (ℕ × A)) (m k : ℕ) (e : ℕ × A) → AreRising 0 es → m + 1 ≡ length es → (get_or es m e).0 < k → IsPlace k es (length es)
last_below es m k e up l below =
    place_of k es (length es) (omega arith)
    (λ a d w. more_before es m k e up (omega (arith, l)) below a d (omega (arith, l, w)))
    (λ a d u w. absurd (omega (arith, u, w)))

insert_last : (es : List Kept) (x : Kept) → insert es (length es) x ≡ es ++ x ∷ []
insert_last [] x = refl
insert_last (e ∷ es) x = ap (λ xs. e ∷ xs) (insert_last es x)

pub last_entry : (k v : ℕ) (q : ℚ) (es : List Kept) → IsPlace k es (length es) → entry_on (es ++ (k, q) ∷ []) v ≡ cond (v == k) q (entry_on es v)
last_entry k v q es i = ap (λ xs. entry_on xs v) (sym (insert_last es (k, q))) ∙ insert_entry k v q es (length es) i

pub last_kept : (k n : ℕ) (q : ℚ) (es : List Kept) → AreKept 0 n es → IsPlace k es (length es) → k < n → q ≢ zeroℚ → AreKept 0 n (es ++ (k, q) ∷ [])
last_kept k n q es h i l z = subst (λ xs. AreKept 0 n xs) (insert_last es (k, q)) (insert_kept k q es (length es) 0 n h i (omega arith) l (λ d w. absurd (omega (arith, w))) z)

-- nothing is kept of 0
pub none_entry : (k v : ℕ) (q : ℚ) (es : List Kept) (n : ℕ) → AreKept 0 n es → IsPlace k es (length es) → q ≡ zeroℚ → entry_on es v ≡ cond (v == k) q (entry_on es v)
none_entry k v q es n h i z = gone_already k v es (length es) 0 n h i (λ d w. absurd (omega (arith, w))) ∙ ap (λ p. cond (v == k) p (entry_on es v)) (sym z)

either_entry : (b : Bool) (k v : ℕ) (q : ℚ) (es : List Kept) (n : ℕ) → AreKept 0 n es → IsPlace k es (length es) → is_zero q ≡ b → entry_on (es ++ cond b [] ((k, q) ∷ [])) v ≡ cond (v == k) q (entry_on es v)
either_entry true k v q es n h i z = ap (λ xs. entry_on xs v) (append-nil es) ∙ none_entry k v q es n h i (zero_of_test q z)
either_entry false k v q es n h i z = last_entry k v q es i

either_kept : (b : Bool) (k n : ℕ) (q : ℚ) (es : List Kept) → AreKept 0 n es → IsPlace k es (length es) → k < n → is_zero q ≡ b → AreKept 0 n (es ++ cond b [] ((k, q) ∷ []))
either_kept true k n q es h i l z = subst (λ xs. AreKept 0 n xs) (sym (append-nil es)) h
either_kept false k n q es h i l z = last_kept k n q es h i l (nonzero_of q z)

pub end_entry : (k v : ℕ) (q : ℚ) (es : List Kept) (n : ℕ) → AreKept 0 n es → IsPlace k es (length es) → entry_on (es ++ kept_at k q) v ≡ cond (v == k) q (entry_on es v)
end_entry k v q es n h i = either_entry (is_zero q) k v q es n h i refl

pub end_kept : (k n : ℕ) (q : ℚ) (es : List Kept) → AreKept 0 n es → IsPlace k es (length es) → k < n → AreKept 0 n (es ++ kept_at k q)
end_kept k n q es h i l = either_kept (is_zero q) k n q es h i l refl

-- ---- numbers over 1

module _ (k : ℕ) (entry : ℚ) (number : ℤ) (below : ℕ) (one : below ≡ 1) (is : ratio number 1 ≡ entry) (es : List Whole) (place : IsPlace k es (length es)) where
  at_end : IsPlace k (over below es) (length (over below es))
  at_end = subst (λ p. IsPlace k (over below es) p) (sym (length_over below es)) (over_place below k es (length es) place)

  same : ratio number below ≡ entry
  same = ap (ratio number) one ∙ is

  more : (new : List Whole) → new ≡ es ++ (k, number) ∷ [] → over below new ≡ over below es ++ (k, entry) ∷ []
  more new e = ap (over below) e ∙ over_append below es ((k, number) ∷ []) ∙ ap (λ q. over below es ++ (k, q) ∷ []) same

  pub behind_entry : (new : List Whole) → new ≡ es ++ (k, number) ∷ [] → (v : ℕ) → entry_on (over below new) v ≡ cond (v == k) entry (entry_on (over below es) v)
  behind_entry new e v = ap (λ xs. entry_on xs v) (more new e) ∙ last_entry k v entry (over below es) at_end

  pub behind_kept : (new : List Whole) → new ≡ es ++ (k, number) ∷ [] → ¬ (number ≡ pos 0) → (n : ℕ) → k < n → AreKept 0 n (over below es) → AreKept 0 n (over below new)
  behind_kept new e other n l h =
      subst (λ xs. AreKept 0 n xs) (sym (more new e))
      (last_kept k n entry (over below es) h at_end l (λ z. other (none_ratio number 1 (lit< tt) (is ∙ z))))

  pub nothing_entry : (n : ℕ) → AreKept 0 n (over below es) → number ≡ pos 0 → (v : ℕ) → entry_on (over below es) v ≡ cond (v == k) entry (entry_on (over below es) v)
  nothing_entry n h z v = none_entry k v entry (over below es) n h at_end (sym is ∙ ap (λ m. ratio m 1) z ∙ ratio_zero 1 (lit< tt))

pub behind_whole : (k : ℕ) (number : ℤ) (below : ℕ) (es new : List Whole) → IsWhole below es → magnitude number < 2 ^ 42 → new ≡ es ++ (k, number) ∷ [] → IsWhole below new
behind_whole k number below es new h l e = record {
  positive = h.positive;
  small = h.small;
  numbers = rw e (append_below (2 ^ 42) es k number h.numbers l);
}
