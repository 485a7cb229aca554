-- Walks over the touched columns of a row, in rising order, see all that isn't 0.
use Rattle.std.proofs.Common.{◌≡◌, ℕ, zero, suc, ◌+◌, ◌<◌, ◌≤◌, ◌-◌, Bool, true, false, cond, List, [], ◌∷◌, length, get_or, drop, Option, None, Some, Result, Ok, Err, Contains, refl, sym, ap, ◌∙◌, subst, arith, drop-cons, add-one, inl, inr}
use Rattle.std.specs.Ordering.{nat_cmp}
use Rattle.std.specs.List.Sorted.{IsSorted}
use Rattle.std.proofs.Math.ListN.{drop_of_length-le}
use Rattle.std.proofs.lemmas.Bool.{cases_lt, cases_eq}
use Rattle.std.proofs.lemmas.List.Sorted.{IsNonDecreasingBy-from_sort}
use Rattle.std.proofs.lemmas.List.{get_or_default}
use Rattle.cip_rational.specs.Rational.{ℚ, zeroℚ, negate}
use Rattle.cip_rational.proofs.Rational.Compare.{ℚ_discrete}
use Rattle.cip_rational.proofs.Rational.Ring.{negate_zero}
use Rattle.cip_rational.proofs.Rational.Order.{≤ℚ_refl, lt_test_of_le}
use Rattle.cip_frac.specs.Order.{same_from_equal}
use Rattle.cip_problem.specs.Program.{Sides}
use Rattle.cip_problem.specs.Box.{no_sides}
use Rattle.cip_cert.specs.declared.faults.CutFault.{CutFault}
use Rattle.cip_cert.specs.Touched.{Tells}
use Rattle.cip_cert.specs.Checks.{chain, first_stop, is_named, rest_added, own_rest_added, rests_from}
use Rattle.cip_node_rules.specs.RowRules.{stops_rounding}
use Rattle.cip_cert.proofs.Cleared.{zero_by}

-- ---- columns that weren't passed

-- what is between the columns that were passed and those that come is 0
pub untouched : (entries : List ℚ) (touched : List ℕ) (next i upto limit : ℕ) → Tells entries touched → ((j : ℕ) → j < i → get_or touched j 0 < limit → get_or touched j 0 < next) → ((j : ℕ) → i ≤ j → j < length touched → upto ≤ get_or touched j 0) → (k : ℕ) → next ≤ k → k < upto → k < limit → get_or entries k zeroℚ ≡ zeroℚ
untouched entries touched next i upto limit tells passed coming k a b c = zero_by (get_or entries k zeroℚ) (λ n. seen (tells.covers k n))
  where
    seen : Contains touched k → ⊥
    seen (j, l, e) =
        let same : get_or touched j 0 ≡ k = get_or_default touched j 0 k l ∙ e in
        elim (cases_lt j i) [
          | inl h ↦ absurd (omega (arith, same, a, passed j h (omega (arith, same, c))))
          | inr h ↦ absurd (omega (arith, same, b, coming j h l))
        ]

pub coming_up : (touched : List ℕ) (i : ℕ) → IsSorted nat_cmp touched → (j : ℕ) → i ≤ j → j < length touched → get_or touched i 0 ≤ get_or touched j 0
coming_up touched i sorted j h l = IsNonDecreasingBy-from_sort (λ (x : ℕ). x) touched sorted i j 0 h l

-- ---- rests

rest_zero : (column : ℕ) (sum : ℚ) (sides : Sides) → rest_added column sum (negate zeroℚ) sides ≡ Ok sum
rest_zero column sum sides = rw (negate_zero, lt_test_of_le (≤ℚ_refl zeroℚ)) refl

own_rest_zero : (named : Option ℕ) (column : ℕ) (sum : ℚ) (sides : Sides) → own_rest_added named column sum zeroℚ sides ≡ Ok sum
own_rest_zero named column sum sides = either (is_named named column)
  where
    either : (t : Bool) → cond t (Ok sum) (rest_added column sum (negate zeroℚ) sides) ≡ Ok sum
    either true = refl
    either false = rest_zero column sum sides

rests_nil : (named : Option ℕ) (column : ℕ) (sum : ℚ) (ds : List ℚ) → rests_from named column sum ds [] ≡ Ok sum
rests_nil named column sum [] = refl
rests_nil named column sum (d ∷ ds) = refl

-- one column
pub rests_step : (named : Option ℕ) (column : ℕ) (sum : ℚ) (ds : List ℚ) (box : List Sides) → column < length ds → column < length box → rests_from named column sum (drop column ds) (drop column box) ≡ chain (own_rest_added named column sum (get_or ds column zeroℚ) (get_or box column no_sides)) (λ more. rests_from named (suc column) more (drop (suc column) ds) (drop (suc column) box))
rests_step named column sum ds box h k = rw (drop-cons ds column zeroℚ, drop-cons box column no_sides) refl

skip_one : (named : Option ℕ) (column : ℕ) (sum : ℚ) (ds : List ℚ) (box : List Sides) → get_or ds column zeroℚ ≡ zeroℚ → rests_from named column sum (drop column ds) (drop column box) ≡ rests_from named (suc column) sum (drop (suc column) ds) (drop (suc column) box)
skip_one named column sum ds box z = elim (cases_lt column (length ds)) [
  | inr h ↦ rw (drop_of_length-le ds h, drop_of_length-le ds {i = suc column} (omega (arith, h))) refl
  | inl h ↦
      elim (cases_lt column (length box)) [
        | inr k ↦ rw (drop_of_length-le box k, drop_of_length-le box {i = suc column} (omega (arith, k))) (rests_nil named column sum (drop column ds) ∙ sym (rests_nil named (suc column) sum (drop (suc column) ds)))
        | inl k ↦ rests_step named column sum ds box h k ∙ rw (z, own_rest_zero named column sum (get_or box column no_sides)) refl
      ]
]

skip : (named : Option ℕ) (n next at : ℕ) (sum : ℚ) (ds : List ℚ) (box : List Sides) → ((k : ℕ) → next ≤ k → k < next + n → get_or ds k zeroℚ ≡ zeroℚ) → at ≡ next + n → rests_from named next sum (drop next ds) (drop next box) ≡ rests_from named at sum (drop at ds) (drop at box)
skip named zero next at sum ds box z e =
    let same : next ≡ at = omega (arith, e) in
    ap (λ m. rests_from named m sum (drop m ds) (drop m box)) same
skip named (suc n) next at sum ds box z e =
    skip_one named next sum ds box (z next (omega arith) (omega arith))
    ∙ skip named n (suc next) at sum ds box (λ k h l. z k (omega arith) (omega arith)) (omega (arith, e))

-- up to a column that isn't before
skip_to : (named : Option ℕ) (next column : ℕ) (sum : ℚ) (ds : List ℚ) (box : List Sides) → next ≤ column → ((k : ℕ) → next ≤ k → k < column → get_or ds k zeroℚ ≡ zeroℚ) → rests_from named next sum (drop next ds) (drop next box) ≡ rests_from named column sum (drop column ds) (drop column box)
skip_to named next column sum ds box h z = skip named (column - next) next column sum ds box (λ k a b. z k a (omega arith)) (omega arith)

-- the outcome of a column that comes
pub rests_reach : (named : Option ℕ) (next column : ℕ) (sum : ℚ) (ds : List ℚ) (box : List Sides) (total : Result ℚ CutFault) → rests_from named next sum (drop next ds) (drop next box) ≡ total → next ≤ column → column < length ds → column < length box → ((k : ℕ) → next ≤ k → k < column → get_or ds k zeroℚ ≡ zeroℚ) → chain (own_rest_added named column sum (get_or ds column zeroℚ) (get_or box column no_sides)) (λ more. rests_from named (suc column) more (drop (suc column) ds) (drop (suc column) box)) ≡ total
rests_reach named next column sum ds box total e a b c z = sym (rests_step named column sum ds box b c) ∙ sym (skip_to named next column sum ds box a z) ∙ e

pub rests_more : (named : Option ℕ) (next column : ℕ) (sum more d : ℚ) (sides : Sides) (ds : List ℚ) (box : List Sides) (total : Result ℚ CutFault) → rests_from named next sum (drop next ds) (drop next box) ≡ total → next ≤ column → column < length ds → column < length box → ((k : ℕ) → next ≤ k → k < column → get_or ds k zeroℚ ≡ zeroℚ) → d ≡ get_or ds column zeroℚ → sides ≡ get_or box column no_sides → own_rest_added named column sum d sides ≡ Ok more → rests_from named (column + 1) more (drop (column + 1) ds) (drop (column + 1) box) ≡ total
rests_more named next column sum more d sides ds box total e a b c z f g h =
    let o : own_rest_added named column sum (get_or ds column zeroℚ) (get_or box column no_sides) ≡ Ok more = subst (λ x. own_rest_added named column sum x (get_or box column no_sides) ≡ Ok more) f (subst (λ (x : Sides). own_rest_added named column sum d x ≡ Ok more) g h) in
    rw (add-one column) (rw o at (rests_reach named next column sum ds box total e a b c z))

pub rests_fail : (named : Option ℕ) (next column : ℕ) (sum d : ℚ) (fault : CutFault) (sides : Sides) (ds : List ℚ) (box : List Sides) (total : Result ℚ CutFault) → rests_from named next sum (drop next ds) (drop next box) ≡ total → next ≤ column → column < length ds → column < length box → ((k : ℕ) → next ≤ k → k < column → get_or ds k zeroℚ ≡ zeroℚ) → d ≡ get_or ds column zeroℚ → sides ≡ get_or box column no_sides → own_rest_added named column sum d sides ≡ Err fault → ◌≡◌ {A = Result ℚ CutFault} (Err fault) total
rests_fail named next column sum d fault sides ds box total e a b c z f g h =
    let o : own_rest_added named column sum (get_or ds column zeroℚ) (get_or box column no_sides) ≡ Err fault = subst (λ x. own_rest_added named column sum x (get_or box column no_sides) ≡ Err fault) f (subst (λ (x : Sides). own_rest_added named column sum d x ≡ Err fault) g h) in
    rw o at (rests_reach named next column sum ds box total e a b c z)

pub rests_end : (named : Option ℕ) (next : ℕ) (sum : ℚ) (ds : List ℚ) (box : List Sides) (total : Result ℚ CutFault) → rests_from named next sum (drop next ds) (drop next box) ≡ total → next ≤ length box → ((k : ℕ) → next ≤ k → k < length box → get_or ds k zeroℚ ≡ zeroℚ) → ◌≡◌ {A = Result ℚ CutFault} (Ok sum) total
rests_end named next sum ds box total e h z =
    sym (rests_nil named (length box) sum (drop (length box) ds))
    ∙ ap (rests_from named (length box) sum (drop (length box) ds)) (sym (drop_of_length-le box {i = length box} (omega arith)))
    ∙ sym (skip_to named next (length box) sum ds box h z) ∙ e

-- ---- rounding

stops_zero : (whole : Bool) (d : ℚ) → d ≡ zeroℚ → stops_rounding whole d ≡ false
stops_zero whole d e = rw (same_from_equal d zeroℚ e) refl

-- whether the coefficient of a column stops rounding
abbrev pub stops_at : List Bool → List ℚ → ℕ → Bool
stops_at whole ds k = stops_rounding (get_or whole k false) (get_or ds k zeroℚ)

first_is : (first k : ℕ) (whole : List Bool) (ds : List ℚ) → k < length whole → k < length ds → ((j : ℕ) → j < k → stops_at whole ds j ≡ false) → stops_at whole ds k ≡ true → first_stop first whole ds ≡ Some (first + k)
first_is first k [] ds h l none some = absurd (omega (arith, h))
first_is first k (w ∷ ws) [] h l none some = absurd (omega (arith, l))
first_is first zero (w ∷ ws) (d ∷ ds) h l none some = rw some (ap Some (omega arith))
first_is first (suc k) (w ∷ ws) (d ∷ ds) h l none some =
    rw (none 0 (omega arith)) (first_is (suc first) k ws ds (omega (arith, h)) (omega (arith, l)) (λ j m. none (suc j) (omega (arith, m))) some ∙ ap Some (omega arith))

none_is : (first : ℕ) (whole : List Bool) (ds : List ℚ) → ((j : ℕ) → j < length whole → stops_at whole ds j ≡ false) → first_stop first whole ds ≡ None
none_is first [] ds none = refl
none_is first (w ∷ ws) [] none = refl
none_is first (w ∷ ws) (d ∷ ds) none = rw (none 0 (omega arith)) (none_is (suc first) ws ds (λ j m. none (suc j) (omega (arith, m))))

-- those that were passed don't stop, and neither do those that aren't touched
before_that : (whole : List Bool) (entries : List ℚ) (touched : List ℕ) (i upto : ℕ) → Tells entries touched → ((j : ℕ) → j < i → get_or touched j 0 < length whole → stops_at whole entries (get_or touched j 0) ≡ false) → ((j : ℕ) → i ≤ j → j < length touched → upto ≤ get_or touched j 0) → (k : ℕ) → k < upto → k < length whole → stops_at whole entries k ≡ false
before_that whole entries touched i upto tells passed coming k b c = elim (ℚ_discrete (get_or entries k zeroℚ) zeroℚ) [
  | yes e ↦ stops_zero (get_or whole k false) (get_or entries k zeroℚ) e
  | no n ↦ seen (tells.covers k n)
]
  where
    seen : Contains touched k → stops_at whole entries k ≡ false
    seen (j, l, e) =
        let same : get_or touched j 0 ≡ k = get_or_default touched j 0 k l ∙ e in
        elim (cases_lt j i) [
          | inl h ↦ subst (λ m. stops_at whole entries m ≡ false) same (passed j h (omega (arith, same, c)))
          | inr h ↦ absurd (omega (arith, same, b, coming j h l))
        ]

pub first_found : (whole : List Bool) (entries : List ℚ) (touched : List ℕ) (i column : ℕ) → Tells entries touched → IsSorted nat_cmp touched → ((j : ℕ) → j < i → get_or touched j 0 < length whole → stops_at whole entries (get_or touched j 0) ≡ false) → get_or touched i 0 ≡ column → column < length whole → column < length entries → stops_at whole entries column ≡ true → first_stop 0 whole entries ≡ Some column
first_found whole entries touched i column tells sorted passed at h l some =
    first_is 0 column whole entries h l
    (λ j m. before_that whole entries touched i column tells passed (λ p a b. omega (arith, at, coming_up touched i sorted p a b)) j m (omega (arith, m, h)))
    some
    ∙ ap Some (omega arith)

pub none_found : (whole : List Bool) (entries : List ℚ) (touched : List ℕ) (i : ℕ) → Tells entries touched → length touched ≤ i → ((j : ℕ) → j < i → get_or touched j 0 < length whole → stops_at whole entries (get_or touched j 0) ≡ false) → first_stop 0 whole entries ≡ None
none_found whole entries touched i tells end passed =
    none_is 0 whole entries (λ j m. before_that whole entries touched i (length whole) tells passed (λ p a b. absurd (omega (arith, end, a, b))) j m m)

pub passed_more : (P : ℕ → Type 0) (touched : List ℕ) (limit i : ℕ) → ((j : ℕ) → j < i → get_or touched j 0 < limit → P (get_or touched j 0)) → (get_or touched i 0 < limit → P (get_or touched i 0)) → (j : ℕ) → j < i + 1 → get_or touched j 0 < limit → P (get_or touched j 0)
passed_more P touched limit i before here j h l = elim (cases_eq j i) [
  | inl e ↦ subst (λ m. P (get_or touched m 0)) (sym e) (here (subst (λ m. get_or touched m 0 < limit) e l))
  | inr n ↦ before j (omega (arith, h, n)) l
]
