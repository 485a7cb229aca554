-- One more weight in the rows of the master program.
use Rattle.std.proofs.Common.{◌≡◌, ℕ, zero, suc, ◌+◌, ◌<◌, ◌==◌, ◌||◌, Bool, true, false, cond, List, [], ◌∷◌, ◌++◌, length, map, replicate, None, Some, Result, Ok, Err, IfOk, refl, sym, ap, ap₂, ◌∙◌, subst, arith, add-one}
use Rattle.std.specs.Prelude.{slice_index_or, slice_set}
use Rattle.std.specs.List.{AllZip, AllByRecursion}
use Rattle.std.proofs.lemmas.Bool.{ne_eqb, eq-eqb, or_parts}
use Rattle.std.proofs.lemmas.List.{map_push, append_assoc, length-append, length-map, length-replicate, length_push, get_or_at, set_at}
use Rattle.std.proofs.lemmas.List.Elements.{All-push}
use Rattle.cip_rational.specs.Rational.{ℚ, ◌+ℚ◌, ◌*ℚ◌, zeroℚ, oneℚ, lt_test}
use Rattle.cip_rational.specs.Sums.{dot}
use Rattle.cip_rational.proofs.Rational.Ring.{+ℚ-zero, zero-+ℚ, *ℚ-zero, zero-*ℚ, +ℚ_assoc}
use Rattle.cip_rational.proofs.Rational.Order.{≤ℚ_antisymm, le_of_lt_test}
use Rattle.cip_frac.specs.declared.operations.Wide.{Wide}
use Rattle.cip_problem.specs.Program.{Term, Row, no_row}
use Rattle.cip_problem.specs.Activity.{activity, value_at, StandsBelow}
use Rattle.cip_pricing.specs.Decomposition.{Owner, picked}
use Rattle.cip_pricing.specs.Mixtures.{Held}
use Rattle.cip_pricing.specs.MasterForms.{master_form}
use Rattle.cip_pricing.specs.MasterPrograms.{IsMasterRow, block_form, IsSumRow, AreSumRows}
use Rattle.cip_pricing.proofs.Spread.{spread, dot-spread}
use Rattle.cip_master.specs.WeightTerms.{with_weight, rows_then, weighted}
use Rattle.cip_master.proofs.Coefficients.{activity-append}
use Rattle.cip_master.proofs.Numbers.{row_of}

-- ---- one number more in a form, one term more in a row

pub dot-push : (xs : List ℚ) (y : ℚ) (point : List ℚ)
    → dot (xs ++ y ∷ []) point ≡ dot xs point +ℚ y *ℚ value_at point (length xs)
dot-push [] y [] = sym (ap (λ s. zeroℚ +ℚ s) (*ℚ-zero y) ∙ +ℚ-zero zeroℚ)
dot-push [] y (v ∷ vs) = +ℚ-zero (y *ℚ v) ∙ sym (zero-+ℚ (y *ℚ v))
dot-push (x ∷ xs) y [] = sym (ap (λ s. zeroℚ +ℚ s) (*ℚ-zero y) ∙ +ℚ-zero zeroℚ)
dot-push (x ∷ xs) y (v ∷ vs) =
    ap (λ s. x *ℚ v +ℚ s) (dot-push xs y vs) ∙ sym (+ℚ_assoc (x *ℚ v) (dot xs vs) (y *ℚ value_at vs (length xs)))

abbrev weight_term : ℕ → ℚ → Term
weight_term column q = record { column = column; coefficient = q }

term_push : (ts : List Term) (column : ℕ) (q : ℚ) (point : List ℚ)
    → activity (ts ++ weight_term column q ∷ []) point ≡ activity ts point +ℚ q *ℚ value_at point column
term_push ts column q point =
    activity-append ts (weight_term column q ∷ []) point
    ∙ ap (λ s. activity ts point +ℚ s) (+ℚ-zero (q *ℚ value_at point column))

put_value : (t : Bool) (column : ℕ) (q : ℚ) (own : Row) (point : List ℚ) → (t ≡ false → q ≡ zeroℚ)
    → activity (cond t (record own { terms = own.terms ++ weight_term column q ∷ [] }) own).terms point
    ≡ activity own.terms point +ℚ q *ℚ value_at point column
put_value true column q own point f = term_push own.terms column q point
put_value false column q own point f =
    sym (ap (λ s. activity own.terms point +ℚ s *ℚ value_at point column) (f refl)
    ∙ ap (λ s. activity own.terms point +ℚ s) (zero-*ℚ (value_at point column)) ∙ +ℚ-zero (activity own.terms point))

pub weight_value : (column : ℕ) (q : ℚ) (own : Row) (point : List ℚ)
    → activity (with_weight column q own).terms point ≡ activity own.terms point +ℚ q *ℚ value_at point column
weight_value column q own point =
    put_value (lt_test zeroℚ q || lt_test q zeroℚ) column q own point
    (λ e. let k = or_parts (lt_test zeroℚ q) (lt_test q zeroℚ) e in
    ≤ℚ_antisymm (le_of_lt_test k.0) (le_of_lt_test k.1))

put_low : (t : Bool) (ts : List Term) (own : Row) → (cond t (record own { terms = ts }) own).low ≡ own.low
put_low true ts own = refl
put_low false ts own = refl

put_high : (t : Bool) (ts : List Term) (own : Row) → (cond t (record own { terms = ts }) own).high ≡ own.high
put_high true ts own = refl
put_high false ts own = refl

weight_low : (column : ℕ) (q : ℚ) (own : Row) → (with_weight column q own).low ≡ own.low
weight_low column q own =
    put_low (lt_test zeroℚ q || lt_test q zeroℚ) (own.terms ++ weight_term column q ∷ []) own

weight_high : (column : ℕ) (q : ℚ) (own : Row) → (with_weight column q own).high ≡ own.high
weight_high column q own =
    put_high (lt_test zeroℚ q || lt_test q zeroℚ) (own.terms ++ weight_term column q ∷ []) own

-- a row that stands on the first columns stands, with the weight of the next one, on these and that
pub stands_more : (n : ℕ) (ts : List Term) → StandsBelow n ts → StandsBelow (n + 1) ts
stands_more n ts h = λ k d l. let i : (slice_index_or ts k d).column < n = h k d l in omega (arith, i)

put_stands : (t : Bool) (n : ℕ) (q : ℚ) (own : Row) → StandsBelow n own.terms
    → StandsBelow (n + 1) (cond t (record own { terms = own.terms ++ weight_term n q ∷ [] }) own).terms
put_stands true n q own h =
    let last : n < n + 1 = omega arith in
    All-push (λ (t : Term). t.column < n + 1) own.terms (weight_term n q) (stands_more n own.terms h) last
put_stands false n q own h = stands_more n own.terms h

pub weight_stands : (n : ℕ) (q : ℚ) (own : Row) → StandsBelow n own.terms
    → StandsBelow (n + 1) (with_weight n q own).terms
weight_stands n q own h = put_stands (lt_test zeroℚ q || lt_test q zeroℚ) n q own h

-- ---- a master row with one more weight

pub form_more : (owners : List Owner) (form : List ℚ) (points : List Held) (h : Held)
    → master_form owners form (points ++ h ∷ [])
    ≡ master_form owners form points ++ dot (picked (Some h.block) owners form) h.point ∷ []
form_more owners form points h =
    let f : Held → ℚ = λ g. dot (picked (Some g.block) owners form) g.point in
    ap (λ qs. picked None owners form ++ qs) (map_push f points h)
    ∙ sym (append_assoc (picked None owners form) (map f points) (f h ∷ []))

pub form_long : (owners : List Owner) (form : List ℚ) (points : List Held)
    → length (master_form owners form points) ≡ length (picked None owners form) + length points
form_long owners form points =
    length-append (picked None owners form) (map (λ (g : Held). dot (picked (Some g.block) owners form) g.point) points)
    ∙ ap (λ n. length (picked None owners form) + n)
    (length-map points (λ (g : Held). dot (picked (Some g.block) owners form) g.point))

weighed_row : (n : ℕ) (owners : List Owner) (points : List Held) (h : Held) (row own : Row) (q : ℚ) (column : ℕ)
    → q ≡ activity row.terms (spread (Some h.block) owners h.point)
    → ((form : List ℚ) → length form ≡ n → length (picked None owners form) + length points ≡ column)
    → IsMasterRow n owners points row own → IsMasterRow n owners (points ++ h ∷ []) row (with_weight column q own)
weighed_row n owners points h row own q column e l r = record {
  form = r.form;
  long = r.long;
  is_form = r.is_form;
  low = weight_low column q own ∙ r.low;
  high = weight_high column q own ∙ r.high;
  sums = λ point.
      weight_value column q own point
      ∙ ap₂ (λ a b. a +ℚ b) (r.sums point)
      (ap₂ (λ c k. c *ℚ value_at point k) same (sym (form_long owners r.form points ∙ l r.form r.long)))
      ∙ sym (dot-push (master_form owners r.form points) (dot (picked (Some h.block) owners r.form) h.point) point)
      ∙ ap (λ f. dot f point) (sym (form_more owners r.form points h));
}
  where
    same : q ≡ dot (picked (Some h.block) owners r.form) h.point
    same =
        e ∙ sym (r.is_form (spread (Some h.block) owners h.point))
        ∙ sym (dot-spread (Some h.block) owners r.form h.point)

-- ---- all master rows

rows_ok : (P : ℚ → Type 0) (Q : List Row → Type 0) (r : Result ℚ Wide) (next : ℚ → Result (List Row) Wide)
    → IfOk r P → ((q : ℚ) → P q → IfOk (next q) Q) → IfOk (rows_then r next) Q
rows_ok P Q (Ok q) next h f = f q h
rows_ok P Q (Err wide) next h f = tt

ok_rows : (P Q : List Row → Type 0) (r : Result (List Row) Wide) → ((rows : List Row) → P rows → Q rows) → IfOk r P
    → IfOk r Q
ok_rows P Q (Ok rows) f h = f rows h
ok_rows P Q (Err wide) f h = tt

-- the rows that were master rows of some points are master rows of these and one more, over one column more
pub record AreWeighed (n : ℕ) (owners : List Owner) (points : List Held) (column : ℕ) (rows : List Row)
    (numbers : List ℕ) (owns : List Row) : Type 0 where
  pub zip : AllZip (IsMasterRow n owners points) (map (row_of rows) numbers) owns
  pub stands : AllByRecursion (λ (row : Row). StandsBelow (column + 1) row.terms) owns

-- so it is behind the first of them
record WeighedTo (n : ℕ) (owners : List Owner) (points : List Held) (column : ℕ) (rows front : List Row)
    (numbers : List ℕ) (new : List Row) : Type 0 where
  pub owns : List Row
  pub is : new ≡ front ++ owns
  pub are : AreWeighed n owners points column rows numbers owns

module _ (n : ℕ) (owners : List Owner) (points : List Held) (h : Held) (column : ℕ) (rows : List Row)
    (coefficient : List Term → Result ℚ Wide)
    (values : (number : ℕ) → IfOk (coefficient (row_of rows number).terms)
    (λ q. q ≡ activity (row_of rows number).terms (spread (Some h.block) owners h.point)))
    (long : (form : List ℚ) → length form ≡ n → length (picked None owners form) + length points ≡ column) where
  weighed_to : (numbers : List ℕ) (front owns : List Row)
      → AllZip (IsMasterRow n owners points) (map (row_of rows) numbers) owns
      → AllByRecursion (λ (row : Row). StandsBelow column row.terms) owns
      → IfOk (weighted coefficient column rows (length front) numbers (front ++ owns)) (WeighedTo n owners (points
      ++ h ∷ []) column rows front numbers)
  weighed_to [] front [] z s = record { owns = []; is = refl; are = record { zip = tt; stands = tt } }
  weighed_to [] front (o ∷ os) z s = absurd z
  weighed_to (k ∷ ks) front [] z s = absurd z
  weighed_to (k ∷ ks) front (o ∷ os) z s =
      rows_ok (λ q. q ≡ activity (row_of rows k).terms (spread (Some h.block) owners h.point)) (WeighedTo n owners
      (points ++ h ∷ []) column rows front (k ∷ ks))
      (coefficient (row_of rows k).terms)
      (λ q. weighted coefficient column rows (suc (length front)) ks
      (slice_set (front ++ o ∷ os) (length front)
      (with_weight column q (slice_index_or (front ++ o ∷ os) (length front) no_row))))
      (values k)
      (λ q e.
      let new : Row = with_weight column q o in
      let there : slice_index_or (front ++ o ∷ os) (length front) no_row ≡ o =
      get_or_at front o os no_row (length front) refl in
      let after : slice_set (front ++ o ∷ os) (length front)
      (with_weight column q (slice_index_or (front ++ o ∷ os) (length front) no_row)) ≡ (front ++ new ∷ []) ++ os =
      ap (λ (r : Row). slice_set (front ++ o ∷ os) (length front) (with_weight column q r)) there
      ∙ set_at front o os new (length front) refl ∙ sym (append_assoc front (new ∷ []) os) in
      let next : length (front ++ new ∷ []) ≡ suc (length front) =
      length_push front new ∙ add-one (length front) in
      subst (λ (all : List Row). IfOk (weighted coefficient column rows (suc (length front)) ks all)
      (WeighedTo n owners (points ++ h ∷ []) column rows front (k ∷ ks))) (sym after)
      (subst (λ m. IfOk (weighted coefficient column rows m ks ((front ++ new ∷ []) ++ os)) (WeighedTo n owners
      (points ++ h ∷ []) column rows front (k ∷ ks)))
      next
      (ok_rows (WeighedTo n owners (points ++ h ∷ []) column rows (front ++ new ∷ []) ks) (WeighedTo n owners
      (points ++ h ∷ []) column rows front (k ∷ ks))
      (weighted coefficient column rows (length (front ++ new ∷ [])) ks ((front ++ new ∷ []) ++ os))
      (λ all w. record {
        owns = new ∷ w.owns;
        is = w.is ∙ append_assoc front (new ∷ []) w.owns;
        are = record {
          zip = (weighed_row n owners points h (row_of rows k) o q column e long z.0, w.are.zip);
          stands = (weight_stands column q o s.0, w.are.stands);
        };
      })
      (weighed_to ks (front ++ new ∷ []) os z.1 s.1))))

  pub masters_weighed : (numbers : List ℕ) (owns : List Row)
      → AllZip (IsMasterRow n owners points) (map (row_of rows) numbers) owns
      → AllByRecursion (λ (row : Row). StandsBelow column row.terms) owns
      → IfOk (weighted coefficient column rows 0 numbers owns) (AreWeighed n owners (points ++ h ∷ []) column rows
      numbers)
  masters_weighed numbers owns z s =
      ok_rows (WeighedTo n owners (points ++ h ∷ []) column rows [] numbers) (AreWeighed n owners (points ++ h ∷
      []) column rows numbers) (weighted coefficient column rows 0 numbers owns)
      (λ all w.
      subst (AreWeighed n owners (points ++ h ∷ []) column rows numbers) (sym w.is) w.are)
      (weighed_to numbers [] owns z s)

-- ---- rows of sums

block_more : (free block : ℕ) (points : List Held) (h : Held)
    → block_form free block (points ++ h ∷ [])
    ≡ block_form free block points ++ cond (h.block == block) oneℚ zeroℚ ∷ []
block_more free block points h =
    let f : Held → ℚ = λ g. cond (g.block == block) oneℚ zeroℚ in
    ap (λ qs. replicate free zeroℚ ++ qs) (map_push f points h)
    ∙ sym (append_assoc (replicate free zeroℚ) (map f points) (f h ∷ []))

block_long : (free block : ℕ) (points : List Held) → length (block_form free block points) ≡ free + length points
block_long free block points =
    length-append (replicate free zeroℚ) (map (λ (g : Held). cond (g.block == block) oneℚ zeroℚ) points)
    ∙ ap₂ (λ a b. a + b) (length-replicate free zeroℚ)
    (length-map points (λ (g : Held). cond (g.block == block) oneℚ zeroℚ))

-- the row of the point's block gets its weight
own_sum : (free block column : ℕ) (points : List Held) (h : Held) (own : Row) → h.block ≡ block
    → free + length points ≡ column → IsSumRow free block points own
    → IsSumRow free block (points ++ h ∷ []) (with_weight column oneℚ own)
own_sum free block column points h own e l r = record {
  low = weight_low column oneℚ own ∙ r.low;
  high = weight_high column oneℚ own ∙ r.high;
  sums = λ point.
      weight_value column oneℚ own point
      ∙ ap₂ (λ a b. a +ℚ b) (r.sums point)
      (ap₂ (λ c k. c *ℚ value_at point k) (sym (ap (λ t. cond t oneℚ zeroℚ) (eq-eqb h.block block e)))
      (sym (block_long free block points ∙ l)))
      ∙ sym (dot-push (block_form free block points) (cond (h.block == block) oneℚ zeroℚ) point)
      ∙ ap (λ f. dot f point) (sym (block_more free block points h));
}

-- another one stays
other_sum : (free block : ℕ) (points : List Held) (h : Held) (own : Row) → (h.block == block) ≡ false
    → IsSumRow free block points own → IsSumRow free block (points ++ h ∷ []) own
other_sum free block points h own e r = record {
  low = r.low;
  high = r.high;
  sums = λ point.
      r.sums point
      ∙ sym (ap (λ f. dot f point) (block_more free block points h)
      ∙ dot-push (block_form free block points) (cond (h.block == block) oneℚ zeroℚ) point
      ∙ ap (λ t. dot (block_form free block points) point
      +ℚ cond t oneℚ zeroℚ *ℚ value_at point (length (block_form free block points))) e
      ∙ ap (λ s. dot (block_form free block points) point +ℚ s)
      (zero-*ℚ (value_at point (length (block_form free block points))))
      ∙ +ℚ-zero (dot (block_form free block points) point));
}

other_sums : (free first : ℕ) (points : List Held) (h : Held) (owns : List Row) → h.block < first
    → AreSumRows free first points owns → AreSumRows free first (points ++ h ∷ []) owns
other_sums free first points h [] l a = tt
other_sums free first points h (o ∷ os) l a = (
  other_sum free first points h o (ne_eqb h.block first (λ e. absurd (omega (arith, e, l)))) a.0,
  other_sums free (suc first) points h os (omega (arith, l)) a.1,
)

pub sums_weighed : (free first at column : ℕ) (points : List Held) (h : Held) (owns : List Row) → h.block ≡ first + at
    → at < length owns → free + length points ≡ column → AreSumRows free first points owns
    → AreSumRows free first (points ++ h ∷ [])
    (slice_set owns at (with_weight column oneℚ (slice_index_or owns at no_row)))
sums_weighed free first at column points h [] e l c a = absurd (omega (arith, l))
sums_weighed free first zero column points h (o ∷ os) e l c a =
    let here : h.block ≡ first = omega (arith, e) in
    (own_sum free first column points h o here c a.0, other_sums free (suc first) points h os (omega (arith, here)) a.1)
sums_weighed free first (suc at) column points h (o ∷ os) e l c a =
    let there : h.block ≡ suc first + at = omega (arith, e) in (
      other_sum free first points h o (ne_eqb h.block first (λ k. absurd (omega (arith, k, there)))) a.0,
      sums_weighed free (suc first) at column points h os there (omega (arith, l)) c a.1,
    )
