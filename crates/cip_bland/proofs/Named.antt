-- The parts that the certificate of multipliers names are the combination of those multipliers, and its factors have
-- the signs that they are to have.
use Rattle.std.proofs.Common.{◌≡◌, ◌≢◌, ℕ, zero, suc, ◌+◌, ◌<◌, ◌||◌, Bool, true, false, cond, List, [], ◌∷◌, ◌++◌, length, map, get_or, unwrap_or, All, refl, sym, ap, ap₂, ◌∙◌, arith, append_assoc}
use Rattle.std.specs.List.{AllByRecursion}
use Rattle.std.proofs.lemmas.List.{map-append, append-nil}
use Rattle.std.proofs.lemmas.List.Elements.{All-from_recursion}
use Rattle.cip_rational.specs.Rational.{ℚ, zeroℚ, ◌<ℚ◌, lt_test, is_zero}
use Rattle.cip_rational.proofs.Rational.Order.{≤ℚ_of_eq, ≤ℚ_antisymm, lt_of_test, le_of_lt_test, not_le_of_lt}
use Rattle.cip_bland.specs.Program.{Row, no_row}
use Rattle.cip_bland.specs.Activity.{value_at}
use Rattle.cip_bland.specs.Box.{sides_at}
use Rattle.cip_bland.specs.LinearProgram.{LinearProgram}
use Rattle.cip_bland.specs.Aggregate.{Part, used_side}
use Rattle.cip_bland.specs.Multipliers.{IsUsed, row_sides, row_parts, column_part, low_parts, high_parts, combination}
use Rattle.cip_problem.proofs.Parts.{used_low, used_high}
use Rattle.cip_problem.proofs.Rows.{zero_of_test}
use Rattle.cip_bland.specs.Tables.{table, each}
use Rattle.cip_bland.proofs.Tables.{length-table, at_table}
use Rattle.cip_bland.proofs.Zeros.{nonzero_of}
use Rattle.cip_bland.specs.EndAnswers.{Multiple, row_part, low_part, high_part, parts_of, any_multiple, low_multiple, high_multiple, certificate_of}
use Rattle.cip_bland.proofs.Multiples.{on_variables, UsedAll, row_used, column_used}

-- ---- lists one after another

each-front : {X : Type 0} (n : ℕ) (f : ℕ → List X) → each (suc n) f ≡ f 0 ++ each n (λ k. f (suc k))
each-front zero f = sym (append-nil (f 0))
each-front (suc n) f = ap (λ xs. xs ++ f (suc n)) (each-front n f) ∙ append_assoc (f 0) (each n (λ k. f (suc k))) (f (suc n))

map-each : {X Y : Type 0} (g : X → Y) (n : ℕ) (f : ℕ → List X) → map g (each n f) ≡ each n (λ k. map g (f k))
map-each g zero f = refl
map-each g (suc n) f = map-append g (each n f) (f n) ∙ ap (λ ys. ys ++ map g (f n)) (map-each g n f)

one_more : {X : Type 0} (t : Bool) (x : X) (xs : List X) → cond t (x ∷ []) [] ++ xs ≡ cond t (x ∷ xs) xs
one_more true x xs = refl
one_more false x xs = refl

abbrev pub row_of : Row → ℚ → ℚ → Part
row_of row y u = record { factor = y; terms = row.terms; side = u }

rows_same : (rows : List Row) (ys us : List ℚ) (f : ℕ → List Part) → length ys ≡ length rows → length us ≡ length rows → ((r : ℕ) → r < length rows → f r ≡ cond (lt_test zeroℚ (value_at ys r) || lt_test (value_at ys r) zeroℚ) (row_of (get_or rows r no_row) (value_at ys r) (value_at us r) ∷ []) []) → each (length rows) f ≡ row_parts rows ys us
rows_same [] ys us f l m h = refl
rows_same (r ∷ rs) [] us f l m h = absurd (omega (arith, l))
rows_same (r ∷ rs) (y ∷ ys) [] f l m h = absurd (omega (arith, m))
rows_same (r ∷ rs) (y ∷ ys) (u ∷ us) f l m h =
    each-front (length rs) f
    ∙ ap₂ (λ a b. a ++ b) (h 0 (omega arith)) (rows_same rs ys us (λ k. f (suc k)) (omega (arith, l)) (omega (arith, m)) (λ k lt. h (suc k) (omega (arith, lt))))
    ∙ one_more (lt_test zeroℚ y || lt_test y zeroℚ) (row_of r y u) (row_parts rs ys us)

lows_same : (column : ℕ) (ys us : List ℚ) (f : ℕ → List Part) → length us ≡ length ys → ((k : ℕ) → k < length ys → f k ≡ cond (lt_test zeroℚ (value_at ys k)) (column_part (column + k) (value_at ys k) (value_at us k) ∷ []) []) → each (length ys) f ≡ low_parts column ys us
lows_same column [] us f l h = refl
lows_same column (y ∷ ys) [] f l h = absurd (omega (arith, l))
lows_same column (y ∷ ys) (u ∷ us) f l h =
    let at : column + 0 ≡ column = omega arith in
    each-front (length ys) f
    ∙ ap₂ (λ a b. a ++ b) (h 0 (omega arith) ∙ ap (λ c. cond (lt_test zeroℚ y) (column_part c y u ∷ []) []) at)
    (lows_same (suc column) ys us (λ k. f (suc k)) (omega (arith, l)) (λ k lt. let e : column + suc k ≡ suc column + k = omega arith in
    h (suc k) (omega (arith, lt)) ∙ ap (λ c. cond (lt_test zeroℚ (value_at ys k)) (column_part c (value_at ys k) (value_at us k) ∷ []) []) e))
    ∙ one_more (lt_test zeroℚ y) (column_part column y u) (low_parts (suc column) ys us)

highs_same : (column : ℕ) (ys us : List ℚ) (f : ℕ → List Part) → length us ≡ length ys → ((k : ℕ) → k < length ys → f k ≡ cond (lt_test (value_at ys k) zeroℚ) (column_part (column + k) (value_at ys k) (value_at us k) ∷ []) []) → each (length ys) f ≡ high_parts column ys us
highs_same column [] us f l h = refl
highs_same column (y ∷ ys) [] f l h = absurd (omega (arith, l))
highs_same column (y ∷ ys) (u ∷ us) f l h =
    let at : column + 0 ≡ column = omega arith in
    each-front (length ys) f
    ∙ ap₂ (λ a b. a ++ b) (h 0 (omega arith) ∙ ap (λ c. cond (lt_test y zeroℚ) (column_part c y u ∷ []) []) at)
    (highs_same (suc column) ys us (λ k. f (suc k)) (omega (arith, l)) (λ k lt. let e : column + suc k ≡ suc column + k = omega arith in
    h (suc k) (omega (arith, lt)) ∙ ap (λ c. cond (lt_test (value_at ys k) zeroℚ) (column_part c (value_at ys k) (value_at us k) ∷ []) []) e))
    ∙ one_more (lt_test y zeroℚ) (column_part column y u) (high_parts (suc column) ys us)

-- ---- one multiple

any_case : (program : LinearProgram) (r : ℕ) (y u : ℚ) (row : Row) → get_or program.rows r no_row ≡ row → IsUsed y (row_sides row) u → (z p n : Bool) → is_zero y ≡ z → lt_test zeroℚ y ≡ p → lt_test y zeroℚ ≡ n → map (row_part program) (cond z [] (record { number = r; factor = y } ∷ [])) ≡ cond (p || n) (row_of row y u ∷ []) []
any_case program r y u row same used true true n ez ep en = absurd (not_le_of_lt (lt_of_test ep) (≤ℚ_of_eq (zero_of_test y ez)))
any_case program r y u row same used true false true ez ep en = absurd (not_le_of_lt (lt_of_test en) (≤ℚ_of_eq (sym (zero_of_test y ez))))
any_case program r y u row same used true false false ez ep en = refl
any_case program r y u row same used false true n ez ep en =
    ap (λ (t : Row). record { factor = y; terms = t.terms; side = unwrap_or (used_side y t.low t.high) zeroℚ } ∷ []) same
    ∙ ap (λ o. record { factor = y; terms = row.terms; side = unwrap_or o zeroℚ } ∷ []) (used_low y row.low row.high (lt_of_test ep) ∙ used.low (lt_of_test ep))
any_case program r y u row same used false false true ez ep en =
    ap (λ (t : Row). record { factor = y; terms = t.terms; side = unwrap_or (used_side y t.low t.high) zeroℚ } ∷ []) same
    ∙ ap (λ o. record { factor = y; terms = row.terms; side = unwrap_or o zeroℚ } ∷ []) (used_high y row.low row.high (lt_of_test en) ∙ used.high (lt_of_test en))
any_case program r y u row same used false false false ez ep en = absurd (nonzero_of y ez (≤ℚ_antisymm (le_of_lt_test ep) (le_of_lt_test en)))

low_case : (program : LinearProgram) (k : ℕ) (y u : ℚ) → IsUsed y (sides_at program.bounds k) u → (p : Bool) → lt_test zeroℚ y ≡ p → map (low_part program) (cond p (record { number = k; factor = y } ∷ []) []) ≡ cond p (column_part k y u ∷ []) []
low_case program k y u used true e = ap (λ o. column_part k y (unwrap_or o zeroℚ) ∷ []) (used.low (lt_of_test e))
low_case program k y u used false e = refl

high_case : (program : LinearProgram) (k : ℕ) (y u : ℚ) → IsUsed y (sides_at program.bounds k) u → (n : Bool) → lt_test y zeroℚ ≡ n → map (high_part program) (cond n (record { number = k; factor = y } ∷ []) []) ≡ cond n (column_part k y u ∷ []) []
high_case program k y u used true e = ap (λ o. column_part k y (unwrap_or o zeroℚ) ∷ []) (used.high (lt_of_test e))
high_case program k y u used false e = refl

-- ---- the certificate
module _ (program : LinearProgram) (y u : ℕ → ℚ) (used : UsedAll program y u) where
  rows_named : map (row_part program) (each (length program.rows) (λ r. any_multiple r (y (length program.bounds + r)))) ≡ row_parts program.rows (table (length program.rows) (λ r. y (length program.bounds + r))) (table (length program.rows) (λ r. u (length program.bounds + r)))
  rows_named =
      let m = length program.rows in
      let yr = λ (r : ℕ). y (length program.bounds + r) in
      let ur = λ (r : ℕ). u (length program.bounds + r) in
      map-each (row_part program) m (λ r. any_multiple r (yr r))
      ∙ rows_same program.rows (table m yr) (table m ur) (λ r. map (row_part program) (any_multiple r (yr r))) (length-table m yr) (length-table m ur)
      (λ r l. any_case program r (yr r) (ur r) (get_or program.rows r no_row) refl (row_used program y u used r l) (is_zero (yr r)) (lt_test zeroℚ (yr r)) (lt_test (yr r) zeroℚ) refl refl refl
      ∙ ap₂ (λ a b. cond (lt_test zeroℚ a || lt_test a zeroℚ) (row_of (get_or program.rows r no_row) a b ∷ []) []) (sym (at_table m yr r zeroℚ l)) (sym (at_table m ur r zeroℚ l)))

  lows_named : map (low_part program) (each (length program.bounds) (λ k. low_multiple k (y k))) ≡ low_parts 0 (table (length program.bounds) y) (table (length program.bounds) u)
  lows_named =
      let n = length program.bounds in
      map-each (low_part program) n (λ k. low_multiple k (y k))
      ∙ ap (λ t. each t (λ k. map (low_part program) (low_multiple k (y k)))) (sym (length-table n y))
      ∙ lows_same 0 (table n y) (table n u) (λ k. map (low_part program) (low_multiple k (y k))) (length-table n u ∙ sym (length-table n y))
      (λ k lt. let l : k < n = omega (arith, lt, length-table n y) in
      let e : 0 + k ≡ k = omega arith in
      low_case program k (y k) (u k) (column_used program y u used k l) (lt_test zeroℚ (y k)) refl
      ∙ ap₂ (λ a b. cond (lt_test zeroℚ a) (column_part k a b ∷ []) []) (sym (at_table n y k zeroℚ l)) (sym (at_table n u k zeroℚ l))
      ∙ ap (λ c. cond (lt_test zeroℚ (value_at (table n y) k)) (column_part c (value_at (table n y) k) (value_at (table n u) k) ∷ []) []) (sym e))

  highs_named : map (high_part program) (each (length program.bounds) (λ k. high_multiple k (y k))) ≡ high_parts 0 (table (length program.bounds) y) (table (length program.bounds) u)
  highs_named =
      let n = length program.bounds in
      map-each (high_part program) n (λ k. high_multiple k (y k))
      ∙ ap (λ t. each t (λ k. map (high_part program) (high_multiple k (y k)))) (sym (length-table n y))
      ∙ highs_same 0 (table n y) (table n u) (λ k. map (high_part program) (high_multiple k (y k))) (length-table n u ∙ sym (length-table n y))
      (λ k lt. let l : k < n = omega (arith, lt, length-table n y) in
      let e : 0 + k ≡ k = omega arith in
      high_case program k (y k) (u k) (column_used program y u used k l) (lt_test (y k) zeroℚ) refl
      ∙ ap₂ (λ a b. cond (lt_test a zeroℚ) (column_part k a b ∷ []) []) (sym (at_table n y k zeroℚ l)) (sym (at_table n u k zeroℚ l))
      ∙ ap (λ c. cond (lt_test (value_at (table n y) k) zeroℚ) (column_part c (value_at (table n y) k) (value_at (table n u) k) ∷ []) []) (sym e))

  pub parts_are : parts_of program (certificate_of program y) ≡ combination program (on_variables program y) (on_variables program u)
  parts_are = ap₂ (λ a b. a ++ b) rows_named (ap₂ (λ a b. a ++ b) lows_named highs_named)

-- ---- signs

both_all : {X : Type 0} (P : X → Type 0) (xs ys : List X) → AllByRecursion P xs → AllByRecursion P ys → AllByRecursion P (xs ++ ys)
both_all P [] ys a b = b
both_all P (x ∷ xs) ys a b = (a.0, both_all P xs ys a.1 b)

all_each : {X : Type 0} (P : X → Type 0) (n : ℕ) (f : ℕ → List X) → ((k : ℕ) → AllByRecursion P (f k)) → AllByRecursion P (each n f)
all_each P zero f h = tt
all_each P (suc n) f h = both_all P (each n f) (f n) (all_each P n f h) (h n)

any_signed : (k : ℕ) (y : ℚ) (z : Bool) → is_zero y ≡ z → AllByRecursion (λ (m : Multiple). m.factor ≢ zeroℚ) (cond z [] (record { number = k; factor = y } ∷ []))
any_signed k y true e = tt
any_signed k y false e = (nonzero_of y e, tt)

low_signed : (k : ℕ) (y : ℚ) (p : Bool) → lt_test zeroℚ y ≡ p → AllByRecursion (λ (m : Multiple). zeroℚ <ℚ m.factor) (cond p (record { number = k; factor = y } ∷ []) [])
low_signed k y true e = (lt_of_test e, tt)
low_signed k y false e = tt

high_signed : (k : ℕ) (y : ℚ) (p : Bool) → lt_test y zeroℚ ≡ p → AllByRecursion (λ (m : Multiple). m.factor <ℚ zeroℚ) (cond p (record { number = k; factor = y } ∷ []) [])
high_signed k y true e = (lt_of_test e, tt)
high_signed k y false e = tt

module _ (program : LinearProgram) (y : ℕ → ℚ) where
  pub rows_signed : All (λ (m : Multiple). m.factor ≢ zeroℚ) (certificate_of program y).rows
  rows_signed = All-from_recursion _ (certificate_of program y).rows (all_each (λ (m : Multiple). m.factor ≢ zeroℚ) (length program.rows) (λ r. any_multiple r (y (length program.bounds + r))) (λ r. any_signed r (y (length program.bounds + r)) (is_zero (y (length program.bounds + r))) refl))

  pub lows_signed : All (λ (m : Multiple). zeroℚ <ℚ m.factor) (certificate_of program y).lows
  lows_signed = All-from_recursion _ (certificate_of program y).lows (all_each (λ (m : Multiple). zeroℚ <ℚ m.factor) (length program.bounds) (λ k. low_multiple k (y k)) (λ k. low_signed k (y k) (lt_test zeroℚ (y k)) refl))

  pub highs_signed : All (λ (m : Multiple). m.factor <ℚ zeroℚ) (certificate_of program y).highs
  highs_signed = All-from_recursion _ (certificate_of program y).highs (all_each (λ (m : Multiple). m.factor <ℚ zeroℚ) (length program.bounds) (λ k. high_multiple k (y k)) (λ k. high_signed k (y k) (lt_test (y k) zeroℚ) refl))
