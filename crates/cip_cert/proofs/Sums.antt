-- The row of a check is the sum of parts that hold where the rows hold.
use Rattle.std.proofs.Common.{◌≡◌, ℕ, zero, suc, ◌+◌, ◌<◌, ◌≤◌, Bool, true, false, cond, List, [], ◌∷◌, length, replicate, set, Option, None, Some, Result, Ok, Err, IfOk, IfSome, refl, sym, ap, ◌∙◌, subst, arith, slice_get, nat_lt, ◌==◌}
use Rattle.std.specs.List.{AllByRecursion}
use Rattle.std.proofs.lemmas.Bool.{ltb-true}
use Rattle.std.proofs.lemmas.Option.{none-some, same_Some}
use Rattle.std.proofs.lemmas.List.{length-set, length-replicate}
use Rattle.std.proofs.lemmas.List.Elements.{recursion_from_All, All-from_recursion}
use Rattle.cip_rational.specs.Rational.{ℚ, ◌+ℚ◌, ◌*ℚ◌, zeroℚ, lt_test}
use Rattle.cip_rational.specs.Sums.{dot}
use Rattle.cip_rational.proofs.Rational.Ring.{+ℚ-zero, zero-+ℚ, zero-*ℚ, *ℚ-zero, +ℚ_comm, +ℚ_assoc, *ℚ_assoc}
use Rattle.cip_rational.proofs.Rational.Order.{lt_of_test}
use Rattle.cip_rational.proofs.Linear.{linear_same}
use Rattle.cip_frac.specs.declared.operations.Wide.{Wide as Overflow}
use Rattle.cip_frac.specs.Outcomes.{product_added}
use Rattle.cip_frac.proofs.Outcomes.{product_added-value}
use Rattle.cip_problem.specs.Program.{Term, Sides, Row}
use Rattle.cip_problem.specs.Activity.{activity, value_at, StandsBelow}
use Rattle.cip_problem.specs.Box.{IsInBox, sides_at, box_inside}
use Rattle.cip_problem.specs.Points.{IsSatisfied}
use Rattle.cip_problem.proofs.Box.SideTests.{inner_box_holds}
use Rattle.cip_problem.proofs.Points.AtPlaces.{satisfied_at}
use Rattle.cip_problem.specs.Aggregate.{Part, IsPartOf, bound_row, HoldsAt, Inequality, total_activity, total_side}
use Rattle.cip_problem.proofs.Parts.{part_holds, bound_part_holds, used_low, used_high}
use Rattle.cip_lin.specs.declared.combos.RowId.{RowId}
use Rattle.cip_lin.specs.declared.combos.RowId.TheVariants.{Own, Pool, Cutoff}
use Rattle.cip_lin.specs.declared.combos.RowMultiple.{RowMultiple}
use Rattle.cip_lin.specs.declared.combos.ColumnMultiple.{ColumnMultiple}
use Rattle.cip_cert.specs.declared.rows.PoolRow.{PoolRow}
use Rattle.cip_cert.specs.declared.faults.FaultPlace.{FaultPlace}
use Rattle.cip_cert.specs.declared.faults.FaultPlace.TheVariants.{Entry}
use Rattle.cip_cert.specs.declared.faults.CutFault.{CutFault}
use Rattle.cip_cert.specs.Pool.{pool_row}
use Rattle.cip_cert.specs.Lent.{Lent, KeptFits, Fits, Multiples, count_of}
use Rattle.cip_cert.specs.Checks.{chain, placed, named_row, known, in_scope, side_part, row_part, column_terms, low_part, high_part, add_terms, add_side, add_part, add_row, add_low, add_high, add_rows, add_lows, add_highs, nothing, aggregate_of}
use Rattle.cip_node_rules.specs.RowRules.{most_multiples}
use Rattle.cip_cert.specs.Follows.{FollowsAt, IsSum}

-- ---- outcomes

-- what holds of the value of a chain
pub ok_chain : {A B : Type 0} (P : A → Type 0) (Q : B → Type 0) (r : Result A CutFault) (next : A → Result B CutFault) → IfOk r P → ((a : A) → P a → IfOk (next a) Q) → IfOk (chain r next) Q
ok_chain P Q (Ok a) next h f = f a h
ok_chain P Q (Err fault) next h f = tt

pub ok_weaker : {A : Type 0} (P Q : A → Type 0) (r : Result A CutFault) → ((a : A) → P a → Q a) → IfOk r P → IfOk r Q
ok_weaker P Q (Ok a) f h = f a h
ok_weaker P Q (Err fault) f h = tt

pub ok_cond : {A : Type 0} (P : A → Type 0) (t : Bool) (a b : Result A CutFault) → (t ≡ true → IfOk a P) → (t ≡ false → IfOk b P) → IfOk (cond t a b) P
ok_cond P true a b f g = f refl
ok_cond P false a b f g = g refl

pub placed_value : (place : FaultPlace) (q : ℚ) (r : Result ℚ Overflow) → IfOk r (λ v. v ≡ q) → IfOk (placed place r) (λ v. v ≡ q)
placed_value place q (Ok v) h = h
placed_value place q (Err overflow) h = tt

pub product_value : (place : FaultPlace) (sum a b : ℚ) → IfOk (placed place (product_added sum a b)) (λ v. v ≡ sum +ℚ a *ℚ b)
product_value place sum a b = placed_value place (sum +ℚ a *ℚ b) (product_added sum a b) (product_added-value sum a b)

-- ---- one coefficient changed

pub dot-set : (ds : List ℚ) (column : ℕ) (d c : ℚ) (xs : List ℚ) → column < length ds → d ≡ value_at ds column +ℚ c → dot (set ds column d) xs ≡ dot ds xs +ℚ c *ℚ value_at xs column
dot-set [] column d c xs h e = absurd (omega (arith, h))
dot-set (b ∷ bs) zero d c [] h e = sym (zero-+ℚ (c *ℚ zeroℚ) ∙ *ℚ-zero c)
dot-set (b ∷ bs) (suc column) d c [] h e = sym (zero-+ℚ (c *ℚ zeroℚ) ∙ *ℚ-zero c)
dot-set (b ∷ bs) zero d c (x ∷ xs) h e =
    ap (λ t. t *ℚ x +ℚ dot bs xs) e ∙ linear_same ((b *ℚ x) ∷ (c *ℚ x) ∷ dot bs xs ∷ []) (λ s w. let m = s.products tt in omega arith)
dot-set (b ∷ bs) (suc column) d c (x ∷ xs) h e =
    ap (λ t. b *ℚ x +ℚ t) (dot-set bs column d c xs (omega (arith, h)) e) ∙ sym (+ℚ_assoc (b *ℚ x) (dot bs xs) (c *ℚ value_at xs column))

-- ---- terms

-- coefficients with a multiple of a sum of terms added
pub record Added (ds : List ℚ) (factor : ℚ) (terms : List Term) (es : List ℚ) : Type 0 where
  pub long : length es ≡ length ds
  pub form : (xs : List ℚ) → dot es xs ≡ dot ds xs +ℚ factor *ℚ activity terms xs

pub added_none : (ds : List ℚ) (factor : ℚ) → Added ds factor [] ds
added_none ds factor = record { long = refl; form = λ xs. sym (ap (λ t. dot ds xs +ℚ t) (*ℚ-zero factor) ∙ +ℚ-zero (dot ds xs)) }

pub added_more : (ds es : List ℚ) (factor d : ℚ) (t : Term) (ts : List Term) → t.column < length ds → d ≡ value_at ds t.column +ℚ factor *ℚ t.coefficient → Added (set ds t.column d) factor ts es → Added ds factor (t ∷ ts) es
added_more ds es factor d t ts h e a = record {
  long = a.long ∙ length-set ds t.column d;
  form = λ xs.
      let f = a.form xs in
      let g = dot-set ds t.column d (factor *ℚ t.coefficient) xs h e in
      let m = *ℚ_assoc factor t.coefficient (value_at xs t.column) in
      linear_same
      (dot es xs ∷ dot ds xs ∷ dot (set ds t.column d) xs ∷ (factor *ℚ t.coefficient *ℚ value_at xs t.column) ∷ (factor *ℚ (t.coefficient *ℚ value_at xs t.column)) ∷ (factor *ℚ activity ts xs) ∷ [])
      (λ s w. let p = s.products tt in omega (arith, s.same_out));
}

add_terms_sum : (entry : ℕ) (factor : ℚ) (ts : List Term) (ds : List ℚ) → AllByRecursion (λ (t : Term). t.column < length ds) ts → IfOk (add_terms entry factor ts ds) (Added ds factor ts)
add_terms_sum entry factor [] ds h = added_none ds factor
add_terms_sum entry factor (t ∷ ts) ds h =
    ok_chain (λ v. v ≡ value_at ds t.column +ℚ factor *ℚ t.coefficient) (Added ds factor (t ∷ ts)) (placed (Entry entry) (product_added (value_at ds t.column) factor t.coefficient)) (λ d. add_terms entry factor ts (set ds t.column d))
    (product_value (Entry entry) (value_at ds t.column) factor t.coefficient)
    (λ d e.
    ok_weaker (Added (set ds t.column d) factor ts) (Added ds factor (t ∷ ts)) (add_terms entry factor ts (set ds t.column d)) (λ es a. added_more ds es factor d t ts h.0 e a)
    (add_terms_sum entry factor ts (set ds t.column d) (subst (λ n. AllByRecursion (λ (t : Term). t.column < n) ts) (sym (length-set ds t.column d)) h.1)))

-- ---- parts

module _ (lent : Lent) (box : List Sides) (columns : ℕ) where
  -- a part holds where the rows hold, and stands on columns of the row
  record IsGood (part : Part) : Type 0 where
    pub kept : FollowsAt lent box (HoldsAt part)
    pub stands : StandsBelow columns part.terms

  with_part : (row : Inequality) (part : Part) (es : List ℚ) (least : ℚ) → IsSum lent box columns row → IsGood part → Added row.coefficients part.factor part.terms es → least ≡ row.least +ℚ part.factor *ℚ part.side → IsSum lent box columns (record { coefficients = es; least = least })
  with_part row part es least s g a e = record {
    parts = part ∷ s.parts;
    sum = record {
      long = a.long ∙ s.sum.long;
      form = λ xs. a.form xs ∙ ap (λ t. t +ℚ part.factor *ℚ activity part.terms xs) (s.sum.form xs) ∙ +ℚ_comm (total_activity s.parts xs) (part.factor *ℚ activity part.terms xs);
      least = e ∙ ap (λ t. t +ℚ part.factor *ℚ part.side) s.sum.least ∙ +ℚ_comm (total_side s.parts) (part.factor *ℚ part.side);
    };
    kept = λ point r w. (g.kept point r w, s.kept point r w);
  }

  add_part_sum : (entry : ℕ) (row : Inequality) (part : Part) → IsSum lent box columns row → IsGood part → IfOk (add_part entry row part) (IsSum lent box columns)
  add_part_sum entry row part s g =
      ok_chain (Added row.coefficients part.factor part.terms) (IsSum lent box columns) (add_terms entry part.factor part.terms row.coefficients) (add_side entry part row.least)
      (add_terms_sum entry part.factor part.terms row.coefficients (subst (λ n. AllByRecursion (λ (t : Term). t.column < n) part.terms) (sym s.sum.long) (recursion_from_All (λ (t : Term). t.column < columns) part.terms g.stands)))
      (λ es a.
      ok_chain (λ v. v ≡ row.least +ℚ part.factor *ℚ part.side) (IsSum lent box columns) (placed (Entry entry) (product_added row.least part.factor part.side)) (λ more. Ok (record { coefficients = es; least = more }))
      (product_value (Entry entry) row.least part.factor part.side)
      (λ v e. with_part row part es v s g a e))

  -- ---- which parts are good

  stands_on : (n : ℕ) (terms : List Term) → n ≤ columns → StandsBelow n terms → StandsBelow columns terms
  stands_on n terms h k = All-from_recursion (λ (t : Term). t.column < columns) terms (go terms (recursion_from_All (λ (t : Term). t.column < n) terms k))
    where
      go : (ts : List Term) → AllByRecursion (λ (t : Term). t.column < n) ts → AllByRecursion (λ (t : Term). t.column < columns) ts
      go [] l = tt
      go (t ∷ ts) l = (omega (arith, h, l.0), go ts l.1)

  -- a row holds where the rows hold, and stands on columns of the box
  record IsGoodRow (row : Row) : Type 0 where
    pub satisfied : FollowsAt lent box (IsSatisfied row)
    pub stands : StandsBelow (length box) row.terms

  good_part : (row : Row) (part : Part) → length box ≤ columns → IsGoodRow row → IsPartOf row part → IsGood part
  good_part row part h g p = record {
    kept = λ point r w. part_holds row part point p (g.satisfied point r w);
    stands = subst (StandsBelow columns) (sym p.terms) (stands_on (length box) row.terms h g.stands);
  }

  side_part_is : (entry : ℕ) (factor : ℚ) (terms : List Term) (side : Option ℚ) (P : Part → Type 0) → ((s : ℚ) → side ≡ Some s → P (record { factor = factor; terms = terms; side = s })) → IfOk (side_part entry factor terms side) P
  side_part_is entry factor terms None P f = tt
  side_part_is entry factor terms (Some side) P f = f side refl

  row_part_is : (entry : ℕ) (factor : ℚ) (row : Row) → IfOk (row_part entry factor row) (IsPartOf row)
  row_part_is entry factor row =
      ok_cond (IsPartOf row) (lt_test zeroℚ factor) _ _
      (λ p. side_part_is entry factor row.terms row.low (IsPartOf row) (λ s e. record { terms = refl; side = used_low factor row.low row.high (lt_of_test p) ∙ e }))
      (λ _. ok_cond (IsPartOf row) (lt_test factor zeroℚ) _ _
      (λ n. side_part_is entry factor row.terms row.high (IsPartOf row) (λ s e. record { terms = refl; side = used_high factor row.low row.high (lt_of_test n) ∙ e }))
      (λ _. tt))

  column_good : (column : ℕ) (part : Part) → length box ≤ columns → column < length box → IsPartOf (bound_row column (sides_at box column)) part → IsGood part
  column_good column part h l p = record {
    kept = λ point r w. bound_part_holds box column part point p w;
    stands = subst (StandsBelow columns) (sym p.terms) (All-from_recursion (λ (t : Term). t.column < columns) (column_terms column) (omega (arith, h, l), tt));
  }

  low_part_good : (entry : ℕ) (m : ColumnMultiple) → length box ≤ columns → IfOk (low_part box entry m) IsGood
  low_part_good entry m h =
      ok_cond IsGood (nat_lt m.col (length box)) _ _
      (λ l. ok_cond IsGood (lt_test zeroℚ m.factor) _ _
      (λ p. side_part_is entry m.factor (column_terms m.col) (sides_at box m.col).low IsGood (λ s e. column_good m.col _ h (ltb-true m.col (length box) l) (record { terms = refl; side = used_low m.factor (sides_at box m.col).low (sides_at box m.col).high (lt_of_test p) ∙ e })))
      (λ _. tt))
      (λ _. tt)

  high_part_good : (entry : ℕ) (m : ColumnMultiple) → length box ≤ columns → IfOk (high_part box entry m) IsGood
  high_part_good entry m h =
      ok_cond IsGood (nat_lt m.col (length box)) _ _
      (λ l. ok_cond IsGood (lt_test m.factor zeroℚ) _ _
      (λ n. side_part_is entry m.factor (column_terms m.col) (sides_at box m.col).high IsGood (λ s e. column_good m.col _ h (ltb-true m.col (length box) l) (record { terms = refl; side = used_high m.factor (sides_at box m.col).low (sides_at box m.col).high (lt_of_test n) ∙ e })))
      (λ _. tt))
      (λ _. tt)

  -- ---- the rows that names mean

  own_good : (number : ℕ) (row : Row) → Fits (length box) lent → slice_get lent.own number ≡ Some row → IsGoodRow row
  own_good number row fits e = record {
    satisfied = λ point r w. satisfied_at lent.own point number row r.own e;
    stands = at lent.own number (recursion_from_All (λ (r : Row). StandsBelow (length box) r.terms) lent.own fits.own) e;
  }
    where
      at : (rows : List Row) (n : ℕ) → AllByRecursion (λ (r : Row). StandsBelow (length box) r.terms) rows → slice_get rows n ≡ Some row → StandsBelow (length box) row.terms
      at [] n h f = absurd (none-some row f)
      at (r ∷ rs) zero h f = subst (λ (r : Row). StandsBelow (length box) r.terms) (same_Some r row f) h.0
      at (r ∷ rs) (suc n) h f = at rs n h.1 f

  kept_has : (P : PoolRow → Type 0) (pool : List PoolRow) (id : ℕ) (kept : PoolRow) → AllByRecursion P pool → pool_row pool id ≡ Some kept → P kept
  kept_has P [] id kept h e = absurd (none-some kept e)
  kept_has P (p ∷ ps) id kept h e = tested (p.id == id) (kept_has P ps id kept h.1) e
    where
      tested : (t : Bool) → (pool_row ps id ≡ Some kept → P kept) → cond t (Some p) (pool_row ps id) ≡ Some kept → P kept
      tested true later f = subst P (same_Some p kept f) h.0
      tested false later f = later f

  kept_good : (id : ℕ) (kept : PoolRow) → Fits (length box) lent → pool_row lent.pool id ≡ Some kept → box_inside box kept.scope ≡ true → IsGoodRow kept.row
  kept_good id kept fits e i =
      let f = kept_has (KeptFits (length box)) lent.pool id kept (recursion_from_All (KeptFits (length box)) lent.pool fits.pool) e in
      record {
        satisfied = λ point r w. kept_has (λ k. IsInBox k.scope point → IsSatisfied k.row point) lent.pool id kept r.pool e (inner_box_holds box kept.scope point (sym f.scope) i w);
        stands = f.stands;
      }

  cutoff_good : (row : Row) → Fits (length box) lent → lent.cutoff ≡ Some row → IsGoodRow row
  cutoff_good row fits e = record {
    satisfied = λ point r w. subst (λ c. IfSome c (λ (row : Row). IsSatisfied row point)) e r.cutoff;
    stands = subst (λ c. IfSome c (λ (row : Row). StandsBelow (length box) row.terms)) e fits.cutoff;
  }

  known_good : (entry : ℕ) (o : Option Row) → ((row : Row) → o ≡ Some row → IsGoodRow row) → IfOk (known entry o) IsGoodRow
  known_good entry None f = tt
  known_good entry (Some row) f = f row refl

  scope_good : (entry id : ℕ) (o : Option PoolRow) → Fits (length box) lent → pool_row lent.pool id ≡ o → IfOk (in_scope entry box o) IsGoodRow
  scope_good entry id None fits e = tt
  scope_good entry id (Some kept) fits e = ok_cond IsGoodRow (box_inside box kept.scope) _ _ (λ i. kept_good id kept fits e i) (λ _. tt)

  named_good : (entry : ℕ) (name : RowId) → Fits (length box) lent → IfOk (named_row lent box entry name) IsGoodRow
  named_good entry (Own number) fits = known_good entry (slice_get lent.own number) (λ row e. own_good number row fits e)
  named_good entry (Pool id) fits = scope_good entry id (pool_row lent.pool id) fits refl
  named_good entry Cutoff fits = known_good entry lent.cutoff (λ row e. cutoff_good row fits e)

  -- ---- entries

  add_row_sum : (entry : ℕ) (m : RowMultiple) (row : Inequality) → Fits (length box) lent → length box ≤ columns → IsSum lent box columns row → IfOk (add_row lent box entry m row) (IsSum lent box columns)
  add_row_sum entry m row fits h s =
      ok_chain IsGood (IsSum lent box columns) (chain (named_row lent box entry m.row) (row_part entry m.factor)) (add_part entry row)
      (ok_chain IsGoodRow IsGood (named_row lent box entry m.row) (row_part entry m.factor) (named_good entry m.row fits)
      (λ named g. ok_weaker (IsPartOf named) IsGood (row_part entry m.factor named) (λ p k. good_part named p h g k) (row_part_is entry m.factor named)))
      (λ p g. add_part_sum entry row p s g)

  add_rows_sum : (entry : ℕ) (ms : List RowMultiple) (row : Inequality) → Fits (length box) lent → length box ≤ columns → IsSum lent box columns row → IfOk (add_rows lent box entry ms row) (IsSum lent box columns)
  add_rows_sum entry [] row fits h s = s
  add_rows_sum entry (m ∷ ms) row fits h s =
      ok_chain (IsSum lent box columns) (IsSum lent box columns) (add_row lent box entry m row) (add_rows lent box (suc entry) ms) (add_row_sum entry m row fits h s)
      (λ more k. add_rows_sum (suc entry) ms more fits h k)

  add_lows_sum : (entry : ℕ) (ms : List ColumnMultiple) (row : Inequality) → length box ≤ columns → IsSum lent box columns row → IfOk (add_lows box entry ms row) (IsSum lent box columns)
  add_lows_sum entry [] row h s = s
  add_lows_sum entry (m ∷ ms) row h s =
      ok_chain (IsSum lent box columns) (IsSum lent box columns) (add_low box entry m row) (add_lows box (suc entry) ms)
      (ok_chain IsGood (IsSum lent box columns) (low_part box entry m) (add_part entry row) (low_part_good entry m h) (λ p g. add_part_sum entry row p s g))
      (λ more k. add_lows_sum (suc entry) ms more h k)

  add_highs_sum : (entry : ℕ) (ms : List ColumnMultiple) (row : Inequality) → length box ≤ columns → IsSum lent box columns row → IfOk (add_highs box entry ms row) (IsSum lent box columns)
  add_highs_sum entry [] row h s = s
  add_highs_sum entry (m ∷ ms) row h s =
      ok_chain (IsSum lent box columns) (IsSum lent box columns) (add_high box entry m row) (add_highs box (suc entry) ms)
      (ok_chain IsGood (IsSum lent box columns) (high_part box entry m) (add_part entry row) (high_part_good entry m h) (λ p g. add_part_sum entry row p s g))
      (λ more k. add_highs_sum (suc entry) ms more h k)

  zeros : (n : ℕ) (xs : List ℚ) → dot (replicate n zeroℚ) xs ≡ zeroℚ
  zeros zero xs = refl
  zeros (suc n) [] = refl
  zeros (suc n) (x ∷ xs) = rw (zero-*ℚ x, zeros n xs) (zero-+ℚ zeroℚ)

  nothing_sum : IsSum lent box columns (nothing columns)
  nothing_sum = record {
    parts = [];
    sum = record { long = length-replicate columns zeroℚ; form = λ xs. zeros columns xs; least = refl };
    kept = λ point r w. tt;
  }

  pub aggregate_sum : (combo : Multiples) → Fits (length box) lent → length box ≤ columns → IfOk (aggregate_of lent box columns combo) (IsSum lent box columns)
  aggregate_sum combo fits h =
      ok_cond (IsSum lent box columns) (nat_lt most_multiples (count_of combo)) _ _ (λ _. tt)
      (λ _.
      ok_chain (IsSum lent box columns) (IsSum lent box columns) (chain (add_rows lent box 0 combo.rows (nothing columns)) (add_lows box (length combo.rows) combo.lows)) (add_highs box (length combo.rows + length combo.lows) combo.highs)
      (ok_chain (IsSum lent box columns) (IsSum lent box columns) (add_rows lent box 0 combo.rows (nothing columns)) (add_lows box (length combo.rows) combo.lows) (add_rows_sum 0 combo.rows (nothing columns) fits h nothing_sum) (λ r s. add_lows_sum (length combo.rows) combo.lows r h s))
      (λ r s. add_highs_sum (length combo.rows + length combo.lows) combo.highs r h s))
