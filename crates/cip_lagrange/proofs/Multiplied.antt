-- What multipliers leave of the costs, the sides that they use, and the least of what is left on columns of no block.
use Rattle.std.proofs.Common.{◌≡◌, ℕ, ◌<◌, Bool, true, false, cond, List, [], ◌∷◌, length, map, Option, None, Some, Result, Ok, Err, IfOk, refl, sym, ap, ap₂, ◌∙◌, subst, arith}
use Rattle.std.specs.Prelude.{slice_index_or, slice_set}
use Rattle.std.specs.List.{AllByRecursion}
use Rattle.std.proofs.lemmas.List.{length-set}
use Rattle.cip_rational.specs.Rational.{ℚ, ◌+ℚ◌, ◌-ℚ◌, ◌*ℚ◌, negate, zeroℚ, lt_test}
use Rattle.cip_rational.specs.Range.{difference_overflows, product_overflows}
use Rattle.cip_rational.specs.Sums.{dot}
use Rattle.cip_rational.proofs.Rational.Ring.{sub_is, +ℚ-zero, zero-*ℚ, +ℚ_assoc, *ℚ_assoc}
use Rattle.cip_rational.proofs.Rational.Order.{≤ℚ_of_lt, ≤ℚ_antisymm, lt_of_test, le_of_lt_test, not_le_of_lt}
use Rattle.cip_rational.proofs.Linear.{linear_same}
use Rattle.cip_frac.specs.declared.operations.Wide.{Wide as Overflow}
use Rattle.cip_frac.specs.Outcomes.{product_added}
use Rattle.cip_frac.proofs.Outcomes.{product_added-value}
use Rattle.cip_problem.specs.Program.{Term, Sides, Row, no_row}
use Rattle.cip_problem.specs.Activity.{activity, value_at}
use Rattle.cip_problem.specs.Box.{sides_at}
use Rattle.cip_problem.specs.BoxBound.{sum_if_both, product_at, least_cost, least_costs}
use Rattle.cip_cert.proofs.Sums.{dot-set}
use Rattle.cip_pricing.specs.LeastCosts.{side_product, side_total, row_total}
use Rattle.cip_lagrange.specs.declared.answers.LagrangeFault.{LagrangeFault}
use Rattle.cip_lagrange.specs.declared.answers.LagrangeFault.TheVariants.{Wide}
use Rattle.cip_lagrange.specs.LagrangeOutcomes.{chain, in_range, Reduced, product_less, terms_less, side_used, multiplier_used, multipliers_used, rest_added, column_added, free_added}

-- ---- outcomes

pub ok_chain : {A B : Type 0} (P : A → Type 0) (Q : B → Type 0) (r : Result A LagrangeFault)
    (next : A → Result B LagrangeFault) → IfOk r P → ((a : A) → P a → IfOk (next a) Q) → IfOk (chain r next) Q
ok_chain P Q (Ok a) next h f = f a h
ok_chain P Q (Err fault) next h f = tt

pub ok_weaker : {A : Type 0} (P Q : A → Type 0) (r : Result A LagrangeFault) → ((a : A) → P a → Q a) → IfOk r P
    → IfOk r Q
ok_weaker P Q (Ok a) f h = f a h
ok_weaker P Q (Err fault) f h = tt

pub in_range_value : (q : ℚ) (r : Result ℚ Overflow) → IfOk r (λ v. v ≡ q) → IfOk (in_range r) (λ v. v ≡ q)
in_range_value q (Ok v) h = h
in_range_value q (Err overflow) h = tt

product_value : (sum a b : ℚ) → IfOk (in_range (product_added sum a b)) (λ v. v ≡ sum +ℚ a *ℚ b)
product_value sum a b = in_range_value (sum +ℚ a *ℚ b) (product_added sum a b) (product_added-value sum a b)

-- ---- terms

less_cases : (t u : Bool) (v : ℚ) → IfOk {E = LagrangeFault} (cond t (Err Wide) (cond u (Err Wide) (Ok v))) (λ w. w ≡ v)
less_cases true u v = tt
less_cases false true v = tt
less_cases false false v = refl

less_value : (rest y c : ℚ) → IfOk (product_less rest y c) (λ v. v ≡ rest -ℚ y *ℚ c)
less_value rest y c = less_cases (product_overflows y c) (difference_overflows rest (y *ℚ c)) (rest -ℚ y *ℚ c)

-- a list with a multiple of a row taken away
pub record Taken (before : List ℚ) (y : ℚ) (terms : List Term) (after : List ℚ) : Type 0 where
  pub long : length after ≡ length before
  pub form : (xs : List ℚ) → dot after xs ≡ dot before xs -ℚ y *ℚ activity terms xs

taken_none : (ds : List ℚ) (y : ℚ) → Taken ds y [] ds
taken_none ds y = record {
  long = refl;
  form = λ xs. linear_same (dot ds xs ∷ []) (λ s w. let p = s.products tt in omega (arith, s.same_out));
}

taken_more : (ds es : List ℚ) (y d : ℚ) (t : Term) (ts : List Term) → t.column < length ds
    → d ≡ value_at ds t.column -ℚ y *ℚ t.coefficient → Taken (slice_set ds t.column d) y ts es
    → Taken ds y (t ∷ ts) es
taken_more ds es y d t ts h e a = record {
  long = a.long ∙ length-set ds t.column d;
  form = λ xs. step xs (a.form xs)
      (dot-set ds t.column d (negate (y *ℚ t.coefficient)) xs h
      (e ∙ sub_is (value_at ds t.column) (y *ℚ t.coefficient)));
}
  where
    step : (xs : List ℚ) → dot es xs ≡ dot (slice_set ds t.column d) xs -ℚ y *ℚ activity ts xs
        → dot (slice_set ds t.column d) xs ≡ dot ds xs +ℚ negate (y *ℚ t.coefficient) *ℚ value_at xs t.column
        → dot es xs ≡ dot ds xs -ℚ y *ℚ (t.coefficient *ℚ value_at xs t.column +ℚ activity ts xs)
    step xs f g =
        let m = *ℚ_assoc y t.coefficient (value_at xs t.column) in
        linear_same
        (dot es xs ∷ dot ds xs ∷ dot (slice_set ds t.column d) xs ∷ (y *ℚ t.coefficient *ℚ value_at xs t.column)
        ∷ (y *ℚ (t.coefficient *ℚ value_at xs t.column)) ∷ (y *ℚ activity ts xs) ∷ [])
        (λ s w. let p = s.products tt in omega (arith, s.same_out))

pub terms_taken : (y : ℚ) (ts : List Term) (ds : List ℚ) → AllByRecursion (λ (t : Term). t.column < length ds) ts
    → IfOk (terms_less y ts ds) (Taken ds y ts)
terms_taken y [] ds h = taken_none ds y
terms_taken y (t ∷ ts) ds h =
    ok_chain (λ v. v ≡ value_at ds t.column -ℚ y *ℚ t.coefficient) (Taken ds y (t ∷ ts))
    (product_less (value_at ds t.column) y t.coefficient) (λ less. terms_less y ts (slice_set ds t.column less))
    (less_value (value_at ds t.column) y t.coefficient)
    (λ d e.
    ok_weaker (Taken (slice_set ds t.column d) y ts) (Taken ds y (t ∷ ts)) (terms_less y ts (slice_set ds t.column d))
    (λ es a. taken_more ds es y d t ts h.0 e a)
    (terms_taken y ts (slice_set ds t.column d)
    (subst (λ n. AllByRecursion (λ (t : Term). t.column < n) ts) (sym (length-set ds t.column d)) h.1)))

-- ---- one multiplier

-- the product of a multiplier and its side is added, and the row is taken away
record OneUsed (product : Option ℚ) (y : ℚ) (terms : List Term) (before after : Reduced) : Type 0 where
  pub taken : Taken before.rests y terms after.rests
  pub side : ℚ
  pub side_is : product ≡ Some side
  pub total : after.total ≡ before.total +ℚ side

side_one : (number : ℕ) (y : ℚ) (terms : List Term) (side : Option ℚ) (r : Reduced)
    → AllByRecursion (λ (t : Term). t.column < length r.rests) terms
    → IfOk (side_used number y terms side r) (OneUsed (product_at y side) y terms r)
side_one number y terms None r h = tt
side_one number y terms (Some side) r h =
    ok_chain (λ v. v ≡ r.total +ℚ y *ℚ side) (OneUsed (Some (y *ℚ side)) y terms r)
    (in_range (product_added r.total y side))
    (λ total. chain (terms_less y terms r.rests) (λ rests. Ok (record { total = total; rests = rests })))
    (product_value r.total y side)
    (λ total e.
    ok_chain (Taken r.rests y terms) (OneUsed (Some (y *ℚ side)) y terms r) (terms_less y terms r.rests)
    (λ rests. Ok (record { total = total; rests = rests })) (terms_taken y terms r.rests h)
    (λ rests t. record { taken = t; side = y *ℚ side; side_is = refl; total = e }))

none_used : (y : ℚ) (terms : List Term) (r : Reduced) → y ≡ zeroℚ → OneUsed (Some zeroℚ) y terms r r
none_used y terms r z = record {
  taken = record {
    long = refl;
    form = λ xs. step xs (ap (λ v. v *ℚ activity terms xs) z ∙ zero-*ℚ (activity terms xs));
  };
  side = zeroℚ;
  side_is = refl;
  total = sym (+ℚ-zero r.total);
}
  where
    step : (xs : List ℚ) → y *ℚ activity terms xs ≡ zeroℚ → dot r.rests xs ≡ dot r.rests xs -ℚ y *ℚ activity terms xs
    step xs e = linear_same (dot r.rests xs ∷ (y *ℚ activity terms xs) ∷ []) (λ s w. omega (arith, s.same_out))

one_cases : (number : ℕ) (y : ℚ) (row : Row) (r : Reduced) (t u : Bool) → lt_test zeroℚ y ≡ t → lt_test y zeroℚ ≡ u
    → AllByRecursion (λ (t : Term). t.column < length r.rests) row.terms
    → IfOk (cond t (side_used number y row.terms row.low r) (cond u (side_used number y row.terms row.high r) (Ok r)))
    (OneUsed (cond t (product_at y row.low) (cond u (product_at y row.high) (Some zeroℚ))) y row.terms r)
one_cases number y row r true u p n h = side_one number y row.terms row.low r h
one_cases number y row r false true p n h = side_one number y row.terms row.high r h
one_cases number y row r false false p n h =
    none_used y row.terms r (≤ℚ_antisymm (le_of_lt_test p) (le_of_lt_test n))

one_used : (number : ℕ) (y : ℚ) (row : Row) (r : Reduced)
    → AllByRecursion (λ (t : Term). t.column < length r.rests) row.terms
    → IfOk (multiplier_used number y row r) (OneUsed (side_product y row) y row.terms r)
one_used number y row r h = one_cases number y row r (lt_test zeroℚ y) (lt_test y zeroℚ) refl refl h

-- ---- all multipliers

-- the sides times their multipliers are added, and the rows times them are taken away
pub record AreUsed (ys : List ℚ) (rows : List Row) (before after : Reduced) : Type 0 where
  pub long : length after.rests ≡ length before.rests
  pub form : (xs : List ℚ) → dot after.rests xs ≡ dot before.rests xs -ℚ row_total ys rows xs
  pub sides : ℚ
  pub side_sum : side_total ys rows ≡ Some sides
  pub total : after.total ≡ before.total +ℚ sides

nothing_used : (r : Reduced) → AreUsed [] [] r r
nothing_used r = record {
  long = refl;
  form = λ xs. linear_same (dot r.rests xs ∷ []) (λ s w. omega arith);
  sides = zeroℚ;
  side_sum = refl;
  total = sym (+ℚ-zero r.total);
}

more_used : (y : ℚ) (ys : List ℚ) (row : Row) (rows : List Row) (before middle after : Reduced)
    → OneUsed (side_product y row) y row.terms before middle → AreUsed ys rows middle after
    → AreUsed (y ∷ ys) (row ∷ rows) before after
more_used y ys row rows before middle after o a = record {
  long = a.long ∙ o.taken.long;
  form = λ xs. step xs (a.form xs) (o.taken.form xs);
  sides = o.side +ℚ a.sides;
  side_sum = ap₂ sum_if_both o.side_is a.side_sum;
  total = a.total ∙ ap (λ t. t +ℚ a.sides) o.total ∙ +ℚ_assoc before.total o.side a.sides;
}
  where
    step : (xs : List ℚ) → dot after.rests xs ≡ dot middle.rests xs -ℚ row_total ys rows xs
        → dot middle.rests xs ≡ dot before.rests xs -ℚ y *ℚ activity row.terms xs
        → dot after.rests xs ≡ dot before.rests xs -ℚ (y *ℚ activity row.terms xs +ℚ row_total ys rows xs)
    step xs f g =
        linear_same
        (dot after.rests xs ∷ dot middle.rests xs ∷ dot before.rests xs ∷ row_total ys rows xs
        ∷ (y *ℚ activity row.terms xs) ∷ [])
        (λ s w. omega (arith, s.same_out))

-- the row of a number
abbrev pub row_of : List Row → ℕ → Row
row_of rows number = slice_index_or rows number no_row

pub multipliers_mean : (rows : List Row) (numbers : List ℕ) (ys : List ℚ) (r : Reduced)
    → length ys ≡ length numbers
    → ((number : ℕ) → AllByRecursion (λ (t : Term). t.column < length r.rests) (row_of rows number).terms)
    → IfOk (multipliers_used rows numbers ys r) (AreUsed ys (map (row_of rows) numbers) r)
multipliers_mean rows [] [] r l h = nothing_used r
multipliers_mean rows [] (y ∷ ys) r l h = absurd (omega (arith, l))
multipliers_mean rows (n ∷ ns) [] r l h = absurd (omega (arith, l))
multipliers_mean rows (n ∷ ns) (y ∷ ys) r l h =
    ok_chain (OneUsed (side_product y (row_of rows n)) y (row_of rows n).terms r)
    (AreUsed (y ∷ ys) (map (row_of rows) (n ∷ ns)) r) (multiplier_used n y (row_of rows n) r)
    (multipliers_used rows ns ys) (one_used n y (row_of rows n) r (h n))
    (λ m o.
    ok_weaker (AreUsed ys (map (row_of rows) ns) m) (AreUsed (y ∷ ys) (map (row_of rows) (n ∷ ns)) r)
    (multipliers_used rows ns ys m)
    (λ e a. more_used y ys (row_of rows n) (map (row_of rows) ns) r m e o a)
    (multipliers_mean rows ns ys m (omega (arith, l))
    (λ number. subst (λ k. AllByRecursion (λ (t : Term). t.column < k) (row_of rows number).terms)
    (sym o.taken.long) (h number))))

-- ---- columns of no block

-- what is added, if a cost has a least value, is that
pub record IsLeast (least : Option ℚ) (before after : ℚ) : Type 0 where
  pub value : ℚ
  pub is : least ≡ Some value
  pub total : after ≡ before +ℚ value

rest_least : (column : ℕ) (rest sum : ℚ) (side : Option ℚ)
    → IfOk (rest_added column rest side sum) (IsLeast (product_at rest side) sum)
rest_least column rest sum None = tt
rest_least column rest sum (Some side) =
    ok_weaker (λ v. v ≡ sum +ℚ rest *ℚ side) (IsLeast (Some (rest *ℚ side)) sum)
    (in_range (product_added sum rest side))
    (λ v e. record { value = rest *ℚ side; is = refl; total = e }) (product_value sum rest side)

column_cases : (column : ℕ) (rest sum : ℚ) (sides : Sides) (t u : Bool) → lt_test zeroℚ rest ≡ t
    → lt_test rest zeroℚ ≡ u
    → IfOk (cond t (rest_added column rest sides.low sum) (cond u (rest_added column rest sides.high sum) (Ok sum)))
    (IsLeast (cond u (product_at rest sides.high) (cond t (product_at rest sides.low) (Some zeroℚ))) sum)
column_cases column rest sum sides true true p n = absurd (not_le_of_lt (lt_of_test p) (≤ℚ_of_lt (lt_of_test n)))
column_cases column rest sum sides true false p n = rest_least column rest sum sides.low
column_cases column rest sum sides false true p n = rest_least column rest sum sides.high
column_cases column rest sum sides false false p n =
    record { value = zeroℚ; is = refl; total = sym (+ℚ-zero sum) }

column_least : (column : ℕ) (rest sum : ℚ) (sides : Sides)
    → IfOk (column_added column rest sides sum) (IsLeast (least_cost rest sides) sum)
column_least column rest sum sides = column_cases column rest sum sides (lt_test zeroℚ rest)
    (lt_test rest zeroℚ) refl refl

least_more : (a b : Option ℚ) (before middle after : ℚ) → IsLeast a before middle → IsLeast b middle after
    → IsLeast (sum_if_both a b) before after
least_more a b before middle after h k = record {
  value = h.value +ℚ k.value;
  is = ap₂ sum_if_both h.is k.is;
  total = k.total ∙ ap (λ t. t +ℚ k.value) h.total ∙ +ℚ_assoc before h.value k.value;
}

pub free_mean : (rests : List ℚ) (box : List Sides) (numbers : List ℕ) (sum : ℚ)
    → IfOk (free_added rests box numbers sum)
    (IsLeast (least_costs (map (value_at rests) numbers) (map (sides_at box) numbers)) sum)
free_mean rests box [] sum = record { value = zeroℚ; is = refl; total = sym (+ℚ-zero sum) }
free_mean rests box (n ∷ ns) sum =
    let one : Option ℚ = least_cost (value_at rests n) (sides_at box n) in
    let others : Option ℚ = least_costs (map (value_at rests) ns) (map (sides_at box) ns) in
    ok_chain (IsLeast one sum) (IsLeast (sum_if_both one others) sum)
    (column_added n (value_at rests n) (sides_at box n) sum)
    (free_added rests box ns) (column_least n (value_at rests n) sum (sides_at box n))
    (λ m h. ok_weaker (IsLeast others m) (IsLeast (sum_if_both one others) sum) (free_added rests box ns m)
    (λ e k. least_more one others sum m e h k) (free_mean rests box ns m))
