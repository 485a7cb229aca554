-- Loops from entry to entry keep what one over all variables would, and form it in the same order.
use Rattle.std.proofs.Common.{◌≡◌, ◌≢◌, ℕ, zero, suc, ◌+◌, ◌-◌, ◌<◌, ◌≤◌, ◌==◌, Bool, true, false, cond, List, [], ◌∷◌, ◌++◌, None, refl, sym, ap, ◌∙◌, subst, inl, inr, arith}
use Rattle.std.proofs.lemmas.Bool.{cases_eq, cases_lt, eq-eqb, ne_eqb, eqb-true}
use Rattle.std.proofs.lemmas.List.{append-nil}
use Rattle.cip_rational.specs.Rational.{ℚ, zeroℚ, is_zero}
use Rattle.cip_bland.specs.Tables.{each}
use Rattle.cip_bland.specs.Exchange.{is_absent, solved, substituted_at, substituted}
use Rattle.cip_bland.specs.Operations.{Placed, first_overflow, entry_place}
use Rattle.cip_bland.specs.MoveOperations.{solved_operations, substituted_operations_at, substituted_operations}
use Rattle.cip_bland.specs.declared.places.Line.{Line}
use Rattle.cip_bland.specs.declared.places.EntryPlace.{EntryPlace}
use Rattle.cip_bland.proofs.Overflow.{overflow-append}
use Rattle.cip_bland.proofs.Zeros.{is_zero_of, nonzero_of}
use Rattle.cip_dict.specs.SparseLines.{Kept, entry_on, kept_at, kept_of, AreKept}
use Rattle.cip_dict.proofs.SparseLines.{sparse_lines_tell, entry_kept}
use Rattle.cip_dict.proofs.Places.{passed, met, none_below}
use Rattle.cip_dict.proofs.Formed.{product_zero_right, sum_zero_right}
use Rattle.cip_dict.proofs.Unchanged.{solved_none}

-- ---- what is kept of a function

raise : (es : List Kept) (l m n : ℕ) → AreKept l m es → m ≤ n → AreKept l n es
raise [] l m n h w = tt
raise (e ∷ es) l m n h w = (h.0, omega (arith, h.1, w), h.2, raise es (suc e.0) m n h.3 w)

append_kept : (es : List Kept) (l k n : ℕ) (q : ℚ) → AreKept l k es → l ≤ k → k < n → q ≢ zeroℚ → AreKept l n (es ++ (k, q) ∷ [])
append_kept [] l k n q h w u z = (w, u, z, tt)
append_kept (e ∷ es) l k n q h w u z = (h.0, omega (arith, h.1, u), h.2, append_kept es (suc e.0) k n q h.3 (omega (arith, h.1)) u z)

one_kept : (n : ℕ) (f : ℕ → ℚ) (b : Bool) → is_zero (f n) ≡ b → AreKept 0 n (kept_of n f) → AreKept 0 (suc n) (kept_of n f ++ cond b [] ((n, f n) ∷ []))
one_kept n f true e h = rw append-nil (raise (kept_of n f) 0 n (suc n) h (omega arith))
one_kept n f false e h = append_kept (kept_of n f) 0 n (suc n) (f n) h (omega arith) (omega arith) (nonzero_of (f n) e)

pub all_kept : (n : ℕ) (f : ℕ → ℚ) → AreKept 0 n (kept_of n f)
all_kept zero f = tt
all_kept (suc n) f = one_kept n f (is_zero (f n)) refl (all_kept n f)

pub are_kept : (k n : ℕ) (f : ℕ → ℚ) (es : List Kept) → es ≡ kept_of k f → k ≤ n → AreKept 0 n es
are_kept k n f es e l = rw e (raise (kept_of k f) 0 k n (all_kept k f) l)

-- ---- a step

pub gap_fits : (m more : ℕ) (f : ℕ → List Placed) → first_overflow (each m f) ≡ None → ((k : ℕ) → m ≤ k → k < m + more → first_overflow (f k) ≡ None) → first_overflow (each (m + more) f) ≡ None
gap_fits m zero f e h = let s : m + 0 ≡ m = omega arith in rw s e
gap_fits m (suc more) f e h =
    let s : m + suc more ≡ suc (m + more) = omega arith in
    rw s (overflow-append (each (m + more) f) (f (m + more)) (gap_fits m more f e (λ k l u. h k l (omega (arith, u)))) ∙ h (m + more) (omega arith) (omega arith))

-- variables on which nothing overflows and nothing is kept are passed over
pub pass_gap : (m next : ℕ) (ops : ℕ → List Placed) (f : ℕ → ℚ) (es : List Kept) → m ≤ next → first_overflow (each m ops) ≡ None → es ≡ kept_of m f → ((k : ℕ) → m ≤ k → k < next → (first_overflow (ops k) ≡ None) × (f k ≡ zeroℚ)) → (first_overflow (each next ops) ≡ None) × (es ≡ kept_of next f)
pass_gap m next ops f es l e w none =
    let s : m + (next - m) ≡ next = omega (arith, l) in (
      rw s at (gap_fits m (next - m) ops e (λ k a b. (none k a (omega (arith, b, s))).0)),
      w ∙ sym (rw s at (sparse_lines_tell.gaps m (next - m) f (λ k a b. (none k a (omega (arith, b, s))).1))),
    )

-- one more is kept, and what comes then is passed over
pub keep_more : (k next : ℕ) (ops : ℕ → List Placed) (f : ℕ → ℚ) (out new : List Kept) → suc k ≤ next → first_overflow (each k ops) ≡ None → first_overflow (ops k) ≡ None → out ≡ kept_of k f → new ≡ out ++ kept_at k (f k) → ((m : ℕ) → suc k ≤ m → m < next → (first_overflow (ops m) ≡ None) × (f m ≡ zeroℚ)) → (first_overflow (each next ops) ≡ None) × (new ≡ kept_of next f)
keep_more k next ops f out new l fits here was is none =
    pass_gap (suc k) next ops f new l (overflow-append (each k ops) (ops k) fits ∙ here) (is ∙ ap (λ es. es ++ kept_at k (f k)) was) none

-- ---- where neither row has an entry

pub solved_gap : (line : Line) (basic : ℕ → Bool) (i j : ℕ) (q : ℚ) (row : ℕ → ℚ) (k : ℕ) → row k ≡ zeroℚ → ¬ (k ≡ i) → (first_overflow (solved_operations line basic i j q row k) ≡ None) × (solved basic i j q row k ≡ zeroℚ)
solved_gap line basic i j q row k z ne =
    let a : is_zero (row k) ≡ true = is_zero_of (row k) z in
    let b : (k == i) ≡ false = ne_eqb k i ne in
    let s = solved_none line basic i j q row k (rw (a, b) refl) in (s.0, sym s.1)

none_at : (place : EntryPlace) (leaving absent : Bool) (q a b c : ℚ) → a ≡ zeroℚ → c ≡ zeroℚ → (leaving ≡ true → q ≡ zeroℚ) → (first_overflow (substituted_operations_at place leaving absent q a b c) ≡ None) × (substituted_at leaving absent q a b c ≡ zeroℚ)
none_at place true absent q a b c za zc zq = let s = product_zero_right place b q (is_zero_of q (zq refl)) in (s.0, sym s.1)
none_at place false true q a b c za zc zq = (refl, refl)
none_at place false false q a b c za zc zq = let s = sum_zero_right place a b c (is_zero_of c zc) in (s.0, sym s.1 ∙ za)

pub substituted_gap : (line : Line) (basic : ℕ → Bool) (i j : ℕ) (q : ℚ) (new row : ℕ → ℚ) (k : ℕ) → new i ≡ q → row k ≡ zeroℚ → new k ≡ zeroℚ → (first_overflow (substituted_operations line basic i j q new row k) ≡ None) × (substituted basic i j q new row k ≡ zeroℚ)
substituted_gap line basic i j q new row k leaving za zc =
    none_at (entry_place line k) (k == i) (is_absent basic j k) q (row k) (row j) (new k) za zc
    (λ t. sym leaving ∙ ap new (sym (eqb-true k i t)) ∙ zc)

-- only the entry that leaves stands in a line of one
pub only_leaving : (n i k : ℕ) (q : ℚ) (es : List Kept) → es ≡ (i, q) ∷ [] → AreKept 0 n es → entry_on es k ≡ zeroℚ → ¬ (k ≡ i)
only_leaving n i k q es e kept h s =
    let one : AreKept 0 n ((i, q) ∷ []) = subst (λ xs. AreKept 0 n xs) e kept in
    one.2 (sym (ap (λ t. cond t q zeroℚ) (eq-eqb i k (sym s))) ∙ sym (ap (λ xs. entry_on xs k) e) ∙ h)

-- ---- a line is kept in one way

zero_before : (e : Kept) (es : List Kept) (l n k : ℕ) → AreKept l n (e ∷ es) → k < e.0 → entry_on (e ∷ es) k ≡ zeroℚ
zero_before e es l n k h w = none_below (e ∷ es) e.0 n k (omega arith, h.1, h.2, h.3) w

pub kept_once : (es fs : List Kept) (l m n : ℕ) → AreKept l n es → AreKept m n fs → ((k : ℕ) → k < n → entry_on es k ≡ entry_on fs k) → es ≡ fs
kept_once [] [] l m n h h' same = refl
kept_once [] (f ∷ fs) l m n h h' same = absurd (h'.2 (sym (met f fs f.0 refl) ∙ sym (same f.0 h'.1)))
kept_once (e ∷ es) [] l m n h h' same = absurd (h.2 (sym (met e es e.0 refl) ∙ same e.0 h.1))
kept_once (e ∷ es) (f ∷ fs) l m n h h' same =
    elim (cases_lt e.0 f.0) [
      | inl low ↦ absurd (h.2 (sym (met e es e.0 refl) ∙ same e.0 h.1 ∙ zero_before f fs m n e.0 h' low))
      | inr high ↦
          elim (cases_eq e.0 f.0) [
            | inl at ↦ (let number : e.1 ≡ f.1 = sym (met e es e.0 refl) ∙ same e.0 h.1 ∙ met f fs e.0 (sym at) in
                let head : e ≡ f = pair_same e f at number in
                let rest : es ≡ fs = kept_once es fs (suc e.0) (suc f.0) n h.3 h'.3 (λ k lk. elim (cases_lt e.0 k) [
                  | inl past ↦ sym (passed e es k (λ (s : e.0 ≡ k). absurd (omega (arith, s, past)))) ∙ same k lk ∙ passed f fs k (λ (s : f.0 ≡ k). absurd (omega (arith, s, past, at)))
                  | inr before ↦ none_below es (suc e.0) n k h.3 (omega (arith, before)) ∙ sym (none_below fs (suc f.0) n k h'.3 (omega (arith, before, at)))
                ]) in
                ap (λ (x : Kept). x ∷ es) head ∙ ap (λ xs. f ∷ xs) rest)
            | inr ne ↦ absurd (h'.2 (sym (met f fs f.0 refl) ∙ sym (same f.0 h'.1) ∙ zero_before e es l n f.0 h (omega (arith, high, ne))))
          ]
    ]
  where
    pair_same : (e f : Kept) → e.0 ≡ f.0 → e.1 ≡ f.1 → e ≡ f
    pair_same e f p q = ap (λ k. (k, e.1)) p ∙ ap (λ q. (f.0, q)) q

-- what is kept of a line is what it keeps
pub kept_back : (len n : ℕ) (es : List Kept) (f : ℕ → ℚ) → len ≡ n → AreKept 0 len es → ((k : ℕ) → k < n → f k ≡ entry_on es k) → es ≡ kept_of n f
kept_back len n es f s h same =
    kept_once es (kept_of n f) 0 0 n (subst (λ (m : ℕ). AreKept 0 m es) s h) (all_kept n f) (λ k l. sym (entry_kept n f k l ∙ same k l))
