-- Where two rows differ, by the columns that were touched.
use Rattle.std.proofs.Common.{◌≡◌, ℕ, zero, suc, ◌+◌, ◌<◌, ◌≤◌, Bool, true, false, not, true≢false, List, [], ◌∷◌, length, get_or, None, Some, Contains, refl, sym, ap, ◌∙◌, subst, arith, inl, inr}
use Rattle.std.proofs.lemmas.Bool.{cases_lt, cases_eq}
use Rattle.std.proofs.lemmas.List.{get_or_default}
use Rattle.cip_rational.specs.Rational.{ℚ, zeroℚ}
use Rattle.cip_rational.proofs.Rational.Compare.{ℚ_discrete}
use Rattle.cip_frac.specs.Order.{same_rational, same_from_equal, equal_from_same}
use Rattle.cip_cert.specs.Touched.{Tells}
use Rattle.cip_split.specs.SplitChecks.{first_difference}

-- ---- a walk

-- two rows have the same coefficient on a column
abbrev pub AgreeAt : List ℚ → List ℚ → ℕ → Type 0
AgreeAt ds es column = get_or ds column zeroℚ ≡ get_or es column zeroℚ

pub differs_on : (ds es : List ℚ) (start least column result : ℕ) → result ≤ least → (result < least → (result ≡ column) × ¬ AgreeAt ds es column) → (least < start → ¬ AgreeAt ds es least) → result < start → ¬ AgreeAt ds es result
differs_on ds es start least column result b new old h = elim (cases_lt result least) [
  | inl l ↦ let k = new l in subst (λ n. ¬ AgreeAt ds es n) (sym k.0) k.1
  | inr l ↦ let e : least ≡ result = omega (arith, b, l) in subst (λ n. ¬ AgreeAt ds es n) e (old (omega (arith, e, h)))
]

pub agrees_more : (ds es : List ℚ) (touched : List ℕ) (i least result : ℕ) → result ≤ least → (get_or touched i 0 < result → AgreeAt ds es (get_or touched i 0)) → ((j : ℕ) → j < i → get_or touched j 0 < least → AgreeAt ds es (get_or touched j 0)) → (j : ℕ) → j < i + 1 → get_or touched j 0 < result → AgreeAt ds es (get_or touched j 0)
agrees_more ds es touched i least result b here before j h l = elim (cases_eq j i) [
  | inl e ↦ subst (λ m. AgreeAt ds es (get_or touched m 0)) (sym e) (here (subst (λ m. get_or touched m 0 < result) e l))
  | inr n ↦ before j (omega (arith, h, n)) (omega (arith, b, l))
]

pub agrees_all : (ds es : List ℚ) (touched : List ℕ) (i least : ℕ) → length touched ≤ i → ((j : ℕ) → j < i → get_or touched j 0 < least → AgreeAt ds es (get_or touched j 0)) → (column : ℕ) → Contains touched column → column < least → AgreeAt ds es column
agrees_all ds es touched i least end passed column (j, l, e) h =
    let same : get_or touched j 0 ≡ column = get_or_default touched j 0 column l ∙ e in
    subst (AgreeAt ds es) same (passed j (omega (arith, l, end)) (omega (arith, same, h)))

coefficient_at : (ds : List ℚ) (column : ℕ) (a : ℚ) → column < length ds → a ≡ get_or ds column a → get_or ds column zeroℚ ≡ a
coefficient_at ds column a h e = get_or_default ds column zeroℚ a h ∙ sym e

same_of : (a b : ℚ) → not (same_rational a b) ≡ false → a ≡ b
same_of a b e = either (same_rational a b) refl e
  where
    either : (t : Bool) → same_rational a b ≡ t → not t ≡ false → a ≡ b
    either true f g = equal_from_same a b f
    either false f g = absurd (true≢false g)

-- the test of two coefficients
pub apart_at : (ds es : List ℚ) (column : ℕ) (a b : ℚ) → column < length ds → length es ≡ length ds → a ≡ get_or ds column a → b ≡ get_or es column b → not (same_rational a b) ≡ true → ¬ AgreeAt ds es column
apart_at ds es column a b h l f g t e =
    let same : a ≡ b = sym (coefficient_at ds column a h f) ∙ e ∙ coefficient_at es column b (omega (arith, h, l)) g in
    absurd (true≢false (sym t ∙ ap not (same_from_equal a b same)))

pub same_at : (ds es : List ℚ) (column : ℕ) (a b : ℚ) → column < length ds → length es ≡ length ds → a ≡ get_or ds column a → b ≡ get_or es column b → not (same_rational a b) ≡ false → AgreeAt ds es column
same_at ds es column a b h l f g t = coefficient_at ds column a h f ∙ same_of a b t ∙ sym (coefficient_at es column b (omega (arith, h, l)) g)

-- ---- both walks

-- what neither row touched is 0 in both
agree_below : (ds es : List ℚ) (one other : List ℕ) (upto column : ℕ) → Tells ds one → Tells es other → column ≤ upto → ((k : ℕ) → Contains one k → k < upto → AgreeAt ds es k) → ((k : ℕ) → Contains other k → k < column → AgreeAt ds es k) → (k : ℕ) → k < column → AgreeAt ds es k
agree_below ds es one other upto column tells others b f g k h = elim (ℚ_discrete (get_or ds k zeroℚ) zeroℚ) [
  | no n ↦ f k (tells.covers k n) (omega (arith, b, h))
  | yes d ↦
      elim (ℚ_discrete (get_or es k zeroℚ) zeroℚ) [
        | no n ↦ g k (others.covers k n) h
        | yes e ↦ d ∙ sym e
      ]
]

not_same : (d e : ℚ) → ¬ (d ≡ e) → same_rational d e ≡ false
not_same d e n = either (same_rational d e) refl
  where
    either : (t : Bool) → same_rational d e ≡ t → t ≡ false
    either true f = absurd (n (equal_from_same d e f))
    either false f = refl

difference_found : (first k : ℕ) (ds es : List ℚ) → k < length ds → length es ≡ length ds → ((j : ℕ) → j < k → AgreeAt ds es j) → ¬ AgreeAt ds es k → first_difference first ds es ≡ Some (first + k)
difference_found first k [] es h l agree differ = absurd (omega (arith, h))
difference_found first k (d ∷ ds) [] h l agree differ = absurd (omega (arith, l))
difference_found first zero (d ∷ ds) (q ∷ es) h l agree differ = rw (not_same d q differ) (ap Some (omega arith))
difference_found first (suc k) (d ∷ ds) (q ∷ es) h l agree differ =
    rw (same_from_equal d q (agree 0 (omega arith))) (difference_found (suc first) k ds es (omega (arith, h)) (omega (arith, l)) (λ j m. agree (suc j) (omega (arith, m))) differ ∙ ap Some (omega arith))

none_differs : (first : ℕ) (ds es : List ℚ) → length es ≡ length ds → ((j : ℕ) → j < length ds → AgreeAt ds es j) → first_difference first ds es ≡ None
none_differs first [] es l agree = refl
none_differs first (d ∷ ds) [] l agree = refl
none_differs first (d ∷ ds) (q ∷ es) l agree =
    rw (same_from_equal d q (agree 0 (omega arith))) (none_differs (suc first) ds es (omega (arith, l)) (λ j m. agree (suc j) (omega (arith, m))))

pub found_first : (ds es : List ℚ) (one other : List ℕ) (upto column : ℕ) → Tells ds one → Tells es other → length es ≡ length ds → column ≤ upto → upto ≤ length ds → (upto < length ds → ¬ AgreeAt ds es upto) → (column < upto → ¬ AgreeAt ds es column) → ((k : ℕ) → Contains one k → k < upto → AgreeAt ds es k) → ((k : ℕ) → Contains other k → k < column → AgreeAt ds es k) → column < length ds → first_difference 0 ds es ≡ Some column
found_first ds es one other upto column tells others l b w at_upto at_column f g h =
    difference_found 0 column ds es h l (agree_below ds es one other upto column tells others b f g) differ ∙ ap Some (omega arith)
  where
    differ : ¬ AgreeAt ds es column
    differ = elim (cases_lt column upto) [
      | inl k ↦ at_column k
      | inr k ↦ let e : upto ≡ column = omega (arith, b, k) in subst (λ n. ¬ AgreeAt ds es n) e (at_upto (omega (arith, e, h)))
    ]

pub found_none : (ds es : List ℚ) (one other : List ℕ) (upto column : ℕ) → Tells ds one → Tells es other → length es ≡ length ds → column ≤ upto → ((k : ℕ) → Contains one k → k < upto → AgreeAt ds es k) → ((k : ℕ) → Contains other k → k < column → AgreeAt ds es k) → length ds ≤ column → first_difference 0 ds es ≡ None
found_none ds es one other upto column tells others l b f g h =
    none_differs 0 ds es l (λ j m. agree_below ds es one other upto column tells others b f g j (omega (arith, m, h)))
