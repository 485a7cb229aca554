-- Rows of whole numbers tell what rows of fractions would, and none of their operations leaves the range.
use Rattle.std.proofs.Common.{◌≡◌, ℕ, zero, suc, ◌*◌, ◌<◌, ◌==◌, ◌^◌, ℤ, pos, neg_ℤ, ◌+ℤ◌, ◌*ℤ◌, unsigned_abs, Bool, true, false, cond, List, [], ◌∷◌, ◌++◌, None, refl, sym, ap, ap₂, ◌∙◌, subst, arith}
use Rattle.std.proofs.lemmas.Bool.{eqb-true}
use Rattle.std.proofs.lemmas.Int.{ints}
use Rattle.std.proofs.Math.Nat.{mul-pos}
use Rattle.cip_rational.specs.Rational.{ℚ, ◌+ℚ◌, ◌*ℚ◌, negate, inverse, ratio, is_zero}
use Rattle.cip_rational.specs.Range.{magnitude, sum_overflows, product_overflows}
use Rattle.cip_rational.proofs.Rational.Inverse.{inverse_zero, ratio_zero}
use Rattle.cip_rational.proofs.Rational.Ratio.{ratio-negate}
use Rattle.cip_bland.specs.Tables.{each}
use Rattle.cip_bland.specs.Exchange.{is_absent, solved_at, solved, substituted_at, substituted}
use Rattle.cip_bland.specs.Operations.{Placed, first_overflow, entry_place, product_at, sum_at}
use Rattle.cip_bland.specs.MoveOperations.{solved_operations_at, solved_operations, substituted_operations_at, substituted_operations}
use Rattle.cip_bland.specs.declared.places.Line.{Line}
use Rattle.cip_bland.specs.declared.places.EntryPlace.{EntryPlace}
use Rattle.cip_bland.proofs.Overflow.{overflow-append}
use Rattle.cip_bland.proofs.Zeros.{is_zero_of, is_zero_false}
use Rattle.cip_dict.specs.SparseLines.{entry_on, kept_at, kept_of}
use Rattle.cip_dict.specs.WholeLines.{Whole, over, number_on, is_none, whole_at, wholes_of, put_number, turned_number, IsWhole, IsPut, HasTermsBelow}
use Rattle.cip_dict.proofs.Formed.{product_zero_left, product_zero_right, product_fits, sum_zero_left, sum_zero_right, sum_fits}
use Rattle.cip_dict.proofs.WholeLines.{whole_lines_tell}
use Rattle.cip_dict.proofs.WholeParts.{none_ratio, entry_over, over_append, number_small}

-- ---- what is kept

is_nought : (z : ℤ) → is_none z ≡ true → z ≡ pos 0
is_nought z e = let m : magnitude z ≡ 0 = eqb-true (magnitude z) 0 e in omega (arith, ints, m)

one_over : (d k : ℕ) (z : ℤ) (b : Bool) → 0 < d → is_none z ≡ b → over d (cond b [] ((k, z) ∷ [])) ≡ kept_at k (ratio z d)
one_over d k z true h e =
    let zero_is : is_zero (ratio z d) ≡ true = is_zero_of (ratio z d) (ap (λ n. ratio n d) (is_nought z e) ∙ ratio_zero d h) in
    sym (ap (λ b. cond b [] ((k, ratio z d) ∷ [])) zero_is)
one_over d k z false h e =
    let nonzero : is_zero (ratio z d) ≡ false = is_zero_false (ratio z d) (λ s. absurd (true_false z (none_ratio z d h s) e)) in
    sym (ap (λ b. cond b [] ((k, ratio z d) ∷ [])) nonzero)
  where
    true_false : (z : ℤ) → z ≡ pos 0 → is_none z ≡ false → ⊥
    true_false z s f = let t : is_none z ≡ true = ap is_none s in absurd (cc)

pub over_kept : (n d : ℕ) (g : ℕ → ℤ) (f : ℕ → ℚ) → 0 < d → ((k : ℕ) → k < n → ratio (g k) d ≡ f k) → over d (wholes_of n g) ≡ kept_of n f
over_kept zero d g f h e = refl
over_kept (suc n) d g f h e =
    over_append d (wholes_of n g) (whole_at n (g n))
    ∙ ap₂ (λ xs ys. xs ++ ys) (over_kept n d g f h (λ k l. e k (omega (arith, l)))) (one_over d n (g n) (is_none (g n)) h refl ∙ ap (kept_at n) (e n (omega arith)))

pub each_fits : (n : ℕ) (ops : ℕ → List Placed) → ((k : ℕ) → k < n → first_overflow (ops k) ≡ None) → first_overflow (each n ops) ≡ None
each_fits zero ops h = refl
each_fits (suc n) ops h = overflow-append (each n ops) (ops n) (each_fits n ops (λ k l. h k (omega (arith, l)))) ∙ h n (omega arith)

product_by : (place : EntryPlace) (a b : ℚ) (s t : Bool) → is_zero a ≡ s → is_zero b ≡ t → product_overflows a b ≡ false → first_overflow (product_at place a b) ≡ None
product_by place a b true t e f o = (product_zero_left place a b e).0
product_by place a b false true e f o = (product_zero_right place a b f).0
product_by place a b false false e f o = product_fits place a b e f o

pub product_none : (place : EntryPlace) (a b : ℚ) → product_overflows a b ≡ false → first_overflow (product_at place a b) ≡ None
product_none place a b o = product_by place a b (is_zero a) (is_zero b) refl refl o

sum_by : (place : EntryPlace) (c a b : ℚ) (s t : Bool) → is_zero a ≡ s → is_zero b ≡ t → product_overflows a b ≡ false → sum_overflows c (a *ℚ b) ≡ false → first_overflow (sum_at place c a b) ≡ None
sum_by place c a b true t e f o p = (sum_zero_left place c a b e).0
sum_by place c a b false true e f o p = (sum_zero_right place c a b f).0
sum_by place c a b false false e f o p = sum_fits place c a b e f o p

pub sum_none : (place : EntryPlace) (c a b : ℚ) → product_overflows a b ≡ false → sum_overflows c (a *ℚ b) ≡ false → first_overflow (sum_at place c a b) ≡ None
sum_none place c a b o p = sum_by place c a b (is_zero a) (is_zero b) refl refl o p

-- ---- a row that is put into another

put_by : (leaving absent : Bool) (d : ℕ) (y z : ℤ) (q a b c : ℚ) → 0 < d → (leaving ≡ true → ratio y d ≡ b *ℚ q) → ratio z d ≡ a +ℚ b *ℚ c → ratio (cond leaving y (cond absent (pos 0) z)) d ≡ substituted_at leaving absent q a b c
put_by true absent d y z q a b c h f g = f refl
put_by false true d y z q a b c h f g = ratio_zero d h
put_by false false d y z q a b c h f g = g

put_fits : (place : EntryPlace) (leaving absent : Bool) (q a b c : ℚ) → HasTermsBelow (2 ^ 42) q → HasTermsBelow (2 ^ 42) a → HasTermsBelow (2 ^ 42) b → HasTermsBelow (2 ^ 42) c → first_overflow (substituted_operations_at place leaving absent q a b c) ≡ None
put_fits place true absent q a b c sq sa sb sc = product_none place b q (whole_lines_tell.products b q sb sq)
put_fits place false true q a b c sq sa sb sc = refl
put_fits place false false q a b c sq sa sb sc = sum_none place a b c (whole_lines_tell.products b c sb sc) (whole_lines_tell.sums a b c sa sb sc)

pub entry_small : (d k : ℕ) (es : List Whole) → IsWhole d es → HasTermsBelow (2 ^ 42) (entry_on (over d es) k)
entry_small d k es h = subst (HasTermsBelow (2 ^ 42)) (sym (entry_over d es k h.positive)) (whole_lines_tell.small (number_on es k) d h.positive (number_small es k h.numbers) h.small)

pub put_tells : (n : ℕ) (line : Line) (basic : ℕ → Bool) (i j : ℕ) (q : ℚ) (d : ℕ) (row : List Whole) (e : ℕ) (new : List Whole) (below : ℕ) (out : List Whole) → IsWhole d row → IsWhole e new → entry_on (over e new) i ≡ q → IsPut n basic i j d row e new below out
    → (first_overflow (each n (substituted_operations line basic i j q (entry_on (over e new)) (entry_on (over d row)))) ≡ None)
    × (over below out ≡ kept_of n (substituted basic i j q (entry_on (over e new)) (entry_on (over d row))))
put_tells n line basic i j q d row e new below out hr hn leaving p =
    let f : ℕ = p.0 in
    let g : ℕ = p.1 in
    let x : ℤ = p.2 in
    let hf : 0 < p.0 = p.3 in
    let hg : 0 < p.1 = p.4 in
    let parts : e ≡ p.1 * p.0 = p.5 in
    let own : number_on row j ≡ p.2 *ℤ pos p.1 = p.6 in
    let b : entry_on (over d row) j ≡ ratio (p.2 *ℤ pos p.1) d = entry_over d row j hr.positive ∙ ap (λ z. ratio z d) own in
    let c : (k : ℕ) → entry_on (over e new) k ≡ ratio (number_on new k) (p.1 * p.0) = λ k. entry_over e new k hn.positive ∙ ap (ratio (number_on new k)) parts in (
      each_fits n _ (λ k l. put_fits (entry_place line k) (k == i) (is_absent basic j k) q _ _ _ (subst (HasTermsBelow (2 ^ 42)) leaving (entry_small e i new hn)) (entry_small d k row hr) (entry_small d j row hr) (entry_small e k new hn)),
      p.7 ∙ over_kept n (d * p.0) (put_number basic i j p.0 p.2 row new) _ (mul-pos hr.positive hf) (λ k l.
          put_by (k == i) (is_absent basic j k) (d * p.0) (p.2 *ℤ number_on new k) (number_on row k *ℤ pos p.0 +ℤ p.2 *ℤ number_on new k) q _ _ _ (mul-pos hr.positive hf)
          (λ s. sym (whole_lines_tell.put_alone p.2 (number_on new k) d p.0 p.1 hr.positive hf hg)
          ∙ ap₂ (λ u v. u *ℚ v) (sym b) (sym (c k) ∙ ap (entry_on (over e new)) (eqb-true k i s) ∙ leaving))
          (sym (whole_lines_tell.put (number_on row k) p.2 (number_on new k) d p.0 p.1 hr.positive hf hg)
          ∙ ap₂ (λ u v. u +ℚ v) (sym (entry_over d row k hr.positive)) (ap₂ (λ u v. u *ℚ v) (sym b) (sym (c k))))),
    )

-- ---- a row that is turned round

turned_by : (leaving absent positive : Bool) (p : ℕ) (y n : ℤ) (q a : ℚ) → 0 < p → ratio y p ≡ q → (positive ≡ true → ratio (neg_ℤ n) p ≡ negate a *ℚ q) → (positive ≡ false → ratio n p ≡ negate a *ℚ q) → ratio (cond leaving y (cond absent (pos 0) (cond positive (neg_ℤ n) n))) p ≡ solved_at leaving absent q a
turned_by true absent positive p y n q a h e f g = e
turned_by false true positive p y n q a h e f g = ratio_zero p h
turned_by false false true p y n q a h e f g = f refl
turned_by false false false p y n q a h e f g = g refl

turned_fits : (place : EntryPlace) (leaving absent : Bool) (q a : ℚ) → HasTermsBelow (2 ^ 42) q → HasTermsBelow (2 ^ 42) (negate a) → first_overflow (solved_operations_at place leaving absent q a) ≡ None
turned_fits place true absent q a sq sa = refl
turned_fits place false true q a sq sa = refl
turned_fits place false false q a sq sa = product_none place (negate a) q (whole_lines_tell.products (negate a) q sa sq)

neg_small : (z : ℤ) → magnitude z < 2 ^ 42 → magnitude (neg_ℤ z) < 2 ^ 42
neg_small z h = omega (arith, ints, h)

pub turned_tells : (n : ℕ) (line : Line) (basic : ℕ → Bool) (i j : ℕ) (q : ℚ) (d : ℕ) (row : List Whole) (p : ℕ) (positive : Bool) (y : ℤ) (out : List Whole) → IsWhole d row → 0 < p → ratio y p ≡ q → magnitude y < 2 ^ 42 → p < 2 ^ 42
    → ((k : ℕ) → positive ≡ true → ratio (neg_ℤ (number_on row k)) p ≡ negate (ratio (number_on row k) d) *ℚ q)
    → ((k : ℕ) → positive ≡ false → ratio (number_on row k) p ≡ negate (ratio (number_on row k) d) *ℚ q)
    → out ≡ wholes_of n (turned_number basic i j positive y row)
    → (first_overflow (each n (solved_operations line basic i j q (entry_on (over d row)))) ≡ None)
    × (over p out ≡ kept_of n (solved basic i j q (entry_on (over d row))))
turned_tells n line basic i j q d row p positive y out hr hp e sy sp f g is =
    let small_q : HasTermsBelow (2 ^ 42) q = subst (HasTermsBelow (2 ^ 42)) e (whole_lines_tell.small y p hp sy sp) in
    let small_a : (k : ℕ) → HasTermsBelow (2 ^ 42) (negate (entry_on (over d row) k)) = λ k.
    subst (HasTermsBelow (2 ^ 42)) (sym (ap negate (entry_over d row k hr.positive) ∙ ratio-negate (number_on row k) d))
    (whole_lines_tell.small (neg_ℤ (number_on row k)) d hr.positive (neg_small (number_on row k) (number_small row k hr.numbers)) hr.small) in (
      each_fits n _ (λ k l. turned_fits (entry_place line k) (k == i) (is_absent basic j k) q _ small_q (small_a k)),
      ap (over p) is ∙ over_kept n p (turned_number basic i j positive y row) _ hp (λ k l.
          turned_by (k == i) (is_absent basic j k) positive p y (number_on row k) q _ hp e
          (λ t. f k t ∙ ap (λ a. negate a *ℚ q) (sym (entry_over d row k hr.positive)))
          (λ t. g k t ∙ ap (λ a. negate a *ℚ q) (sym (entry_over d row k hr.positive)))),
    )

-- the number on j isn't 0, where 1 over the entry there isn't
above : (u : ℕ) → (u ≡ 0 → ⊥) → 0 < u
above zero h = absurd (h refl)
above (suc u) h = omega arith

some_own : (own : ℤ) (d : ℕ) (q : ℚ) → 0 < d → q ≡ inverse (ratio own d) → is_zero q ≡ false → 0 < unsigned_abs own
some_own own d q h e z = above (unsigned_abs own) never
  where
    never : unsigned_abs own ≡ 0 → ⊥
    never m =
        let s : own ≡ pos 0 = omega (arith, ints, m) in
        let zero_q : is_zero q ≡ true = is_zero_of q (e ∙ ap inverse (ap (λ n. ratio n d) s ∙ ratio_zero d h) ∙ inverse_zero) in
        absurd (cc)

pub turned_whole : (n : ℕ) (line : Line) (basic : ℕ → Bool) (i j : ℕ) (q : ℚ) (d : ℕ) (row : List Whole) (own : ℤ) (p : ℕ) (positive : Bool) (out : List Whole) → IsWhole d row → own ≡ number_on row j → q ≡ inverse (ratio (number_on row j) d) → is_zero q ≡ false → p ≡ unsigned_abs own → p < 2 ^ 42
    → (positive ≡ true → own ≡ pos (unsigned_abs own)) → (positive ≡ false → own ≡ neg_ℤ (pos (unsigned_abs own)))
    → out ≡ wholes_of n (turned_number basic i j positive (cond positive (pos d) (neg_ℤ (pos d))) row)
    → (0 < p) × (first_overflow (each n (solved_operations line basic i j q (entry_on (over d row)))) ≡ None)
    × (over p out ≡ kept_of n (solved basic i j q (entry_on (over d row))))
turned_whole n line basic i j q d row own p true out hr on e z ip sp above_is below_is is =
    let some : 0 < p = rw ip (some_own own d q hr.positive (e ∙ ap (λ m. inverse (ratio m d)) (sym on)) z) in
    let q_is : q ≡ inverse (ratio (pos p) d) = e ∙ ap (λ m. inverse (ratio m d)) (sym on ∙ above_is refl ∙ ap pos (sym ip)) in
    let t = turned_tells n line basic i j q d row p true (pos d) out hr some (sym (q_is ∙ whole_lines_tell.turned p d some hr.positive)) hr.small sp
    (λ k _. sym (ap (λ r. negate (ratio (number_on row k) d) *ℚ r) q_is ∙ whole_lines_tell.solved (number_on row k) p d some hr.positive))
    (λ k (f : true ≡ false). absurd (cc)) is in
    (some, t.0, t.1)
turned_whole n line basic i j q d row own p false out hr on e z ip sp above_is below_is is =
    let some : 0 < p = rw ip (some_own own d q hr.positive (e ∙ ap (λ m. inverse (ratio m d)) (sym on)) z) in
    let q_is : q ≡ inverse (ratio (neg_ℤ (pos p)) d) = e ∙ ap (λ m. inverse (ratio m d)) (sym on ∙ below_is refl ∙ ap (λ m. neg_ℤ (pos m)) (sym ip)) in
    let t = turned_tells n line basic i j q d row p false (neg_ℤ (pos d)) out hr some (sym (q_is ∙ whole_lines_tell.turned_back p d some hr.positive)) (neg_small (pos d) hr.small) sp
    (λ k (f : false ≡ true). absurd (cc))
    (λ k _. sym (ap (λ r. negate (ratio (number_on row k) d) *ℚ r) q_is ∙ whole_lines_tell.solved_back (number_on row k) p d some hr.positive)) is in
    (some, t.0, t.1)
