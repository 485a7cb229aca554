-- Loops from number to number keep what one over all variables would.
use Rattle.std.proofs.Common.{◌≡◌, ℕ, zero, suc, ◌+◌, ◌-◌, ◌*◌, ◌<◌, ◌≤◌, ◌==◌, ℤ, pos, neg_ℤ, ◌*ℤ◌, Bool, true, false, cond, List, [], ◌∷◌, ◌++◌, length, take, get_or, refl, sym, ap, ap₂, ◌∙◌, subst, arith, lit<}
use Rattle.std.proofs.lemmas.Bool.{eq-eqb, ne_eqb}
use Rattle.std.proofs.lemmas.Int.{ints}
use Rattle.std.proofs.lemmas.List.{append-nil, take_more}
use Rattle.cip_rational.specs.Rational.{ratio}
use Rattle.cip_rational.proofs.Rational.Inverse.{ratio_zero}
use Rattle.cip_bland.specs.Exchange.{is_absent}
use Rattle.cip_dict.specs.SparseLines.{AreKept}
use Rattle.cip_dict.specs.WholeLines.{Whole, over, number_on, is_none, whole_at, wholes_of, put_number, turned_number}
use Rattle.cip_dict.proofs.WholeLines.{whole_lines_tell}
use Rattle.cip_dict.proofs.WholeParts.{over_append}

pub none_is : (z : ℤ) → z ≡ pos 0 → is_none z ≡ true
none_is z e = ap is_none e

wholes_none : (n : ℕ) (f : ℕ → ℤ) (k : ℕ) → f k ≡ pos 0 → whole_at k (f k) ≡ []
wholes_none n f k e = ap (λ b. cond b [] ((k, f k) ∷ [])) (none_is (f k) e)

pub wholes_gap : (m more : ℕ) (f : ℕ → ℤ) → ((k : ℕ) → m ≤ k → k < m + more → f k ≡ pos 0) → wholes_of (m + more) f ≡ wholes_of m f
wholes_gap m zero f h = let e : m + 0 ≡ m = omega arith in ap (λ n. wholes_of n f) e
wholes_gap m (suc more) f h =
    let e : m + suc more ≡ suc (m + more) = omega arith in
    ap (λ n. wholes_of n f) e
    ∙ ap (λ xs. wholes_of (m + more) f ++ xs) (wholes_none (m + more) f (m + more) (h (m + more) (omega arith) (omega arith)))
    ∙ append-nil (wholes_of (m + more) f)
    ∙ wholes_gap m more f (λ k l u. h k l (omega (arith, u)))

-- up to the next variable
pub whole_gap : (m next : ℕ) (f : ℕ → ℤ) (es : List Whole) → m ≤ next → es ≡ wholes_of m f → ((k : ℕ) → m ≤ k → k < next → f k ≡ pos 0) → es ≡ wholes_of next f
whole_gap m next f es l e none =
    let s : m + (next - m) ≡ next = omega (arith, l) in
    e ∙ sym (rw s at (wholes_gap m (next - m) f (λ k a b. none k a (omega (arith, b, s)))))

pub whole_more : (k next : ℕ) (f : ℕ → ℤ) (z : ℤ) (old new : List Whole) → suc k ≤ next → old ≡ wholes_of k f → new ≡ old ++ whole_at k z → z ≡ f k → ((m : ℕ) → suc k ≤ m → m < next → f m ≡ pos 0) → new ≡ wholes_of next f
whole_more k next f z old new l was is e none =
    whole_gap (suc k) next f new l (is ∙ ap (λ y. old ++ whole_at k y) e ∙ ap (λ es. es ++ whole_at k (f k)) was) none

either_none : (a b : Bool) (x y z : ℤ) → x ≡ pos 0 → y ≡ pos 0 → z ≡ pos 0 → cond a x (cond b y z) ≡ pos 0
either_none true b x y z p q r = p
either_none false true x y z p q r = q
either_none false false x y z p q r = r

times_none : (x y : ℤ) → y ≡ pos 0 → x *ℤ y ≡ pos 0
times_none x y e = let h : x *ℤ pos 0 ≡ pos 0 = omega (arith, ints) in ap (λ z. x *ℤ z) e ∙ h

none_times : (n : ℤ) (f : ℕ) → n ≡ pos 0 → n *ℤ pos f ≡ pos 0
none_times n f e = let h : pos 0 *ℤ pos f ≡ pos 0 = omega (arith, ints) in ap (λ z. z *ℤ pos f) e ∙ h

pub put_none : (basic : ℕ → Bool) (i j f : ℕ) (x : ℤ) (row new : List Whole) (k : ℕ) → number_on row k ≡ pos 0 → number_on new k ≡ pos 0 → put_number basic i j f x row new k ≡ pos 0
put_none basic i j f x row new k r n =
    let p : x *ℤ number_on new k ≡ pos 0 = times_none x (number_on new k) n in
    let q : number_on row k *ℤ pos f ≡ pos 0 = none_times (number_on row k) f r in
    either_none (k == i) (is_absent basic j k) _ _ _ p refl (omega (arith, ints, p, q))

-- ---- dividing

pub divided_more : (es : List Whole) (at g : ℕ) (out new : List Whole) (w : ℤ) → 0 < g → at < length es → ((d : ℕ) → 0 < d → over d out ≡ over (d * g) (take at es)) → new ≡ out ++ ((get_or es at (0, pos 0)).0, w) ∷ [] → (get_or es at (0, pos 0)).1 ≡ w *ℤ pos g → (d : ℕ) → 0 < d → over d new ≡ over (d * g) (take (at + 1) es)
divided_more es at g out new w hg l h is e d hd =
    let number : ratio w d ≡ ratio (get_or es at (0, pos 0)).1 (d * g) = sym (whole_lines_tell.divided w d g hd hg) ∙ ap (λ t. ratio t (d * g)) (sym e) in
    ap (over d) is ∙ over_append d out (((get_or es at (0, pos 0)).0, w) ∷ [])
    ∙ ap₂ (λ xs q. xs ++ ((get_or es at (0, pos 0)).0, q) ∷ []) (h d hd) number
    ∙ sym (ap (over (d * g)) (take_more es at (0, pos 0) l) ∙ over_append (d * g) (take at es) (get_or es at (0, pos 0) ∷ []))

-- ---- a row that is turned round

pub turned_none : (basic : ℕ → Bool) (i j : ℕ) (positive : Bool) (d : ℤ) (row : List Whole) (k : ℕ) → number_on row k ≡ pos 0 → ¬ (k ≡ i) → turned_number basic i j positive d row k ≡ pos 0
turned_none basic i j positive d row k r ne =
    ap (λ t. cond t d (cond (is_absent basic j k) (pos 0) (cond positive (neg_ℤ (number_on row k)) (number_on row k)))) (ne_eqb k i ne)
    ∙ both (is_absent basic j k) positive (number_on row k) r
  where
    both : (absent positive : Bool) (n : ℤ) → n ≡ pos 0 → cond absent (pos 0) (cond positive (neg_ℤ n) n) ≡ pos 0
    both true positive n e = refl
    both false true n e = let h : neg_ℤ (pos 0) ≡ pos 0 = omega (arith, ints) in ap neg_ℤ e ∙ h
    both false false n e = e

pub turned_leaving : (i k : ℕ) (d : ℤ) (es : List Whole) (n : ℕ) → es ≡ (i, d) ∷ [] → AreKept 0 n (over 1 es) → number_on es k ≡ pos 0 → ¬ (k ≡ i)
turned_leaving i k d es n e kept h s =
    let one : AreKept 0 n (over 1 ((i, d) ∷ [])) = subst (λ (xs : List Whole). AreKept 0 n (over 1 xs)) e kept in
    let z : d ≡ pos 0 = sym (ap (λ t. cond t d (pos 0)) (eq-eqb i k (sym s))) ∙ sym (ap (λ xs. number_on xs k) e) ∙ h in
    one.2 (ap (λ m. ratio m 1) z ∙ ratio_zero 1 (lit< tt))
