-- Columns that tell which coefficients aren't 0.
use Rattle.std.proofs.Common.{◌≡◌, ◌≢◌, ℕ, zero, suc, ◌+◌, ◌<◌, List, [], ◌∷◌, ◌++◌, length, replicate, get_or, set, take, drop, Contains, refl, sym, ap, ◌∙◌, subst, arith, get_or-set_same, get_or-set_other, drop-cons, add-one, inl, inr, ◌⊎◌}
use Rattle.std.specs.Prelude.{All}
use Rattle.std.specs.List.Sorted.{IsPermutation}
use Rattle.std.proofs.lemmas.List.Elements.{Contains-append_left, Contains-push, All-push, All-nil}
use Rattle.std.proofs.lemmas.List.Sorted.{Contains-permutation, All-permutation}
use Rattle.std.proofs.lemmas.List.{length-set, get_or_past}
use Rattle.std.proofs.lemmas.Bool.{cases_eq, cases_lt}
use Rattle.cip_rational.specs.Rational.{ℚ, zeroℚ}
use Rattle.cip_rational.proofs.Rational.Compare.{ℚ_discrete}
use Rattle.cip_cert.specs.Touched.{Tells}
use Rattle.cip_problem.proofs.Tried.{not_in_nothing}

-- a number that is not unequal to 0 is 0
pub zero_by : (q : ℚ) → ¬ (q ≢ zeroℚ) → q ≡ zeroℚ
zero_by q h = elim (ℚ_discrete q zeroℚ) [ yes e ↦ e | no n ↦ absurd (h n) ]

first_or_later : (y x : ℕ) (ys : List ℕ) → Contains (y ∷ ys) x → (y ≡ x) ⊎ Contains ys x
first_or_later y x ys (zero, h, k) = inl k
first_or_later y x ys (suc j, h, k) = inr (j, omega (arith, h), k)

pub all_zeros : (xs : List ℚ) → ((k : ℕ) → get_or xs k zeroℚ ≡ zeroℚ) → xs ≡ replicate (length xs) zeroℚ
all_zeros [] h = refl
all_zeros (x ∷ xs) h = ap (λ y. y ∷ xs) (h 0) ∙ ap (λ ys. zeroℚ ∷ ys) (all_zeros xs (λ k. h (suc k)))

-- ---- clearing

-- each coefficient that isn't 0 is among these columns
abbrev pub Covers : List ℚ → List ℕ → Type 0
Covers entries columns = (k : ℕ) → get_or entries k zeroℚ ≢ zeroℚ → Contains columns k

pub covers_more : (entries : List ℚ) (columns : List ℕ) (i column : ℕ) → i < length columns → get_or columns i 0 ≡ column → column < length entries → Covers entries (drop i columns) → Covers (set entries column zeroℚ) (drop (i + 1) columns)
covers_more entries columns i column l e h c k n = elim (cases_eq k column) [
  | inl f ↦ absurd (n (subst (λ m. get_or (set entries column zeroℚ) m zeroℚ ≡ zeroℚ) (sym f) (get_or-set_same entries column zeroℚ zeroℚ h)))
  | inr d ↦
      let was : get_or entries k zeroℚ ≢ zeroℚ = λ z. n (get_or-set_other entries column k zeroℚ zeroℚ d ∙ z) in
      let split : Contains (get_or columns i 0 ∷ drop (suc i) columns) k = subst (λ ys. Contains ys k) (drop-cons columns i 0 l) (c k was) in
      elim (first_or_later column k (drop (suc i) columns) (subst (λ m. Contains (m ∷ drop (suc i) columns) k) e split)) [
        | inl f ↦ absurd (d (sym f))
        | inr f ↦ subst (λ m. Contains (drop m columns) k) (sym (add-one i)) f
      ]
]

pub covers_end : (entries : List ℚ) (columns : List ℕ) → columns ≡ [] → Covers entries columns → entries ≡ replicate (length entries) zeroℚ
covers_end entries columns e c = all_zeros entries (λ k. zero_by _ (λ n. not_in_nothing k (subst (λ ys. Contains ys k) e (c k n))))

-- a row of zeros is told by no column
none_there : (n k : ℕ) → get_or (replicate n zeroℚ) k zeroℚ ≡ zeroℚ
none_there zero k = refl
none_there (suc n) zero = refl
none_there (suc n) (suc k) = none_there n k

pub zeros_told : (n : ℕ) → Tells (replicate n zeroℚ) []
zeros_told n = record { covers = λ k d. absurd (d (none_there n k)); within = All-nil (λ (k : ℕ). k < length (replicate n zeroℚ)) }

-- what stands in front of a list is its first part
pub front_of : (xs ys : List ℚ) (n : ℕ) → n ≡ length xs → take n (xs ++ ys) ≡ xs
front_of [] ys zero e = refl
front_of [] ys (suc n) e = absurd (omega (arith, e))
front_of (x ∷ xs) ys zero e = absurd (omega (arith, e))
front_of (x ∷ xs) ys (suc n) e = ap (λ zs. x ∷ zs) (front_of xs ys n (omega (arith, e)))

-- ---- in another order

pub tells_sorted : (entries : List ℚ) (columns others : List ℕ) → IsPermutation columns others → Tells entries columns → Tells entries others
tells_sorted entries columns others p t = record {
  covers = λ k n. Contains-permutation columns others k p (t.covers k n);
  within = All-permutation (λ (k : ℕ). k < length entries) columns others p t.within;
}

-- ---- scanning

-- the first columns are told
pub record TellsBelow (i : ℕ) (entries : List ℚ) (columns : List ℕ) : Type 0 where
  pub covers : (k : ℕ) → k < i → get_or entries k zeroℚ ≢ zeroℚ → Contains columns k
  pub within : All (λ k. k < length entries) columns

pub below_none : (entries : List ℚ) (columns : List ℕ) → columns ≡ [] → TellsBelow 0 entries columns
below_none entries columns e = record {
  covers = λ k l n. absurd (omega (arith, l));
  within = subst (All (λ (k : ℕ). k < length entries)) (sym e) (All-nil (λ (k : ℕ). k < length entries));
}

pub below_zero : (i : ℕ) (entries : List ℚ) (columns : List ℕ) → get_or entries i zeroℚ ≡ zeroℚ → TellsBelow i entries columns → TellsBelow (i + 1) entries columns
below_zero i entries columns z t = record {
  covers = λ k l n. elim (cases_eq k i) [
    | inl e ↦ absurd (n (subst (λ m. get_or entries m zeroℚ ≡ zeroℚ) (sym e) z))
    | inr d ↦ t.covers k (omega (arith, l, d)) n
  ];
  within = t.within;
}

pub below_pushed : (i : ℕ) (entries : List ℚ) (columns : List ℕ) → i < length entries → TellsBelow i entries columns → TellsBelow (i + 1) entries (columns ++ i ∷ [])
below_pushed i entries columns h t = record {
  covers = λ k l n. elim (cases_eq k i) [
    | inl e ↦ subst (Contains (columns ++ i ∷ [])) (sym e) (Contains-push columns i)
    | inr d ↦ Contains-append_left columns (i ∷ []) k (t.covers k (omega (arith, l, d)) n)
  ];
  within = All-push (λ (k : ℕ). k < length entries) columns i t.within h;
}

pub below_all : (n : ℕ) (entries : List ℚ) (columns : List ℕ) → n ≡ length entries → TellsBelow n entries columns → Tells entries columns
below_all n entries columns e t = record {
  covers = λ k d. elim (cases_lt k n) [
    | inl l ↦ t.covers k l d
    | inr l ↦ absurd (d (get_or_past entries k zeroℚ (omega (arith, l, e))))
  ];
  within = t.within;
}

-- ---- touching

pub tells_set : (entries : List ℚ) (columns : List ℕ) (column : ℕ) (value : ℚ) → column < length entries → Tells entries columns → Tells (set entries column value) (columns ++ column ∷ [])
tells_set entries columns column value h t = record {
  covers = λ k n. elim (cases_eq k column) [
    | inl e ↦ subst (Contains (columns ++ column ∷ [])) (sym e) (Contains-push columns column)
    | inr d ↦ Contains-append_left columns (column ∷ []) k (t.covers k (λ z. n (get_or-set_other entries column k value zeroℚ d ∙ z)))
  ];
  within = subst (λ m. All (λ (k : ℕ). k < m) (columns ++ column ∷ [])) (sym (length-set entries column value)) (All-push (λ (k : ℕ). k < length entries) columns column t.within h);
}
