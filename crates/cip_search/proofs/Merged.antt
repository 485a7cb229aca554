-- Points that are put together of a leaf's values and others.
use Rattle.std.proofs.Common.{◌≡◌, ℕ, zero, suc, ◌<◌, Bool, true, false, List, [], ◌∷◌, map, length, Option, None, Some, IfSome, All, refl, sym, ap, ◌∙◌, subst, arith, true≢false, cond}
use Rattle.std.specs.List.{AllByRecursion}
use Rattle.std.proofs.lemmas.List.Elements.{All-cons, All-nil}
use Rattle.cip_rational.specs.Rational.{ℚ, ◌+ℚ◌, ◌-ℚ◌, ◌*ℚ◌, zeroℚ, ◌≤ℚ◌}
use Rattle.cip_rational.specs.Sums.{dot}
use Rattle.cip_rational.proofs.Rational.Ring.{+ℚ-zero, *ℚ-zero, +ℚ_assoc}
use Rattle.cip_rational.proofs.Linear.{linear_le, linear_same}
use Rattle.cip_problem.specs.Program.{Term, Sides, Row, Program}
use Rattle.cip_problem.specs.WellFormed.{IsWellFormed}
use Rattle.cip_problem.specs.Activity.{activity, value_at, StandsBelow}
use Rattle.cip_problem.specs.Box.{Between, IsInBox}
use Rattle.cip_problem.specs.Choices.{KeepsChoices}
use Rattle.cip_problem.specs.Points.{IsSatisfied, AreWhole, cost_of}
use Rattle.cip_problem.proofs.Points.AtPlaces.{IsInBox-long}
use Rattle.cip_problem.specs.LinearProgram.{IsProper, IsPoint}
use Rattle.cip_search.specs.Leaf.{at_wholes, IsLeafIn, IsLeaf, IsPointOf}
use Rattle.cip_search.specs.LeafProgram.{at_continuous, merged, is_continuous, new_number, continuous_terms, part_of, shifted, row_of_leaf, program_of_leaf}
use Rattle.cip_search.specs.LeafProgramStatements.{IsTold}

-- ---- the values of a point

-- a whole column has its value, whatever the others are
pub whole_value : (integral : List Bool) (leaf others : List ℚ) (column : ℕ) → is_continuous integral column ≡ false → value_at (merged integral leaf others) column ≡ value_at (merged integral leaf []) column
whole_value [] leaf others column e = refl
whole_value (true ∷ ws) [] others zero e = refl
whole_value (true ∷ ws) [] others (suc column) e = whole_value ws [] others column e
whole_value (true ∷ ws) (v ∷ vs) others zero e = refl
whole_value (true ∷ ws) (v ∷ vs) others (suc column) e = whole_value ws vs others column e
whole_value (false ∷ ws) leaf others zero e = absurd (true≢false e)
whole_value (false ∷ ws) leaf [] (suc column) e = refl
whole_value (false ∷ ws) leaf (x ∷ xs) (suc column) e = whole_value ws leaf xs column e

-- a continuous one has the value of its new number
pub continuous_value : (integral : List Bool) (leaf others : List ℚ) (column : ℕ) → is_continuous integral column ≡ true → value_at (merged integral leaf others) column ≡ value_at others (new_number integral column)
continuous_value [] leaf others column e = absurd (true≢false (sym e))
continuous_value (true ∷ ws) leaf others zero e = absurd (true≢false (sym e))
continuous_value (true ∷ ws) [] others (suc column) e = continuous_value ws [] others column e
continuous_value (true ∷ ws) (v ∷ vs) others (suc column) e = continuous_value ws vs others column e
continuous_value (false ∷ ws) leaf [] zero e = refl
continuous_value (false ∷ ws) leaf (x ∷ xs) zero e = refl
continuous_value (false ∷ ws) leaf [] (suc column) e = continuous_value ws leaf [] column e
continuous_value (false ∷ ws) leaf (x ∷ xs) (suc column) e = continuous_value ws leaf xs column e

-- ---- activities and costs

-- the fixed part, and what the continuous columns add
term_split : (integral : List Bool) (leaf others : List ℚ) (t : Term) (ts : List Term) (test : Bool) → is_continuous integral t.column ≡ test → activity ts (merged integral leaf others) ≡ activity ts (merged integral leaf []) +ℚ activity (continuous_terms integral ts) others → activity (t ∷ ts) (merged integral leaf others) ≡ activity (t ∷ ts) (merged integral leaf []) +ℚ activity (cond test (record { column = new_number integral t.column; coefficient = t.coefficient } ∷ continuous_terms integral ts) (continuous_terms integral ts)) others
term_split integral leaf others t ts true e h =
    let c = t.coefficient in
    let v : value_at (merged integral leaf others) t.column ≡ value_at others (new_number integral t.column) = continuous_value integral leaf others t.column e in
    let z : value_at (merged integral leaf []) t.column ≡ zeroℚ = continuous_value integral leaf [] t.column e in
    let p : c *ℚ value_at (merged integral leaf others) t.column ≡ c *ℚ value_at others (new_number integral t.column) = ap (λ x. c *ℚ x) v in
    let q : c *ℚ value_at (merged integral leaf []) t.column ≡ zeroℚ = ap (λ x. c *ℚ x) z ∙ *ℚ-zero c in
    linear_same
    ((c *ℚ value_at (merged integral leaf others) t.column) ∷ (c *ℚ value_at others (new_number integral t.column)) ∷ (c *ℚ value_at (merged integral leaf []) t.column) ∷ activity ts (merged integral leaf others) ∷ activity ts (merged integral leaf []) ∷ activity (continuous_terms integral ts) others ∷ [])
    (λ s w. omega (arith, s.same_out))
term_split integral leaf others t ts false e h =
    let c = t.coefficient in
    let v : value_at (merged integral leaf others) t.column ≡ value_at (merged integral leaf []) t.column = whole_value integral leaf others t.column e in
    let p : c *ℚ value_at (merged integral leaf others) t.column ≡ c *ℚ value_at (merged integral leaf []) t.column = ap (λ x. c *ℚ x) v in
    linear_same
    ((c *ℚ value_at (merged integral leaf others) t.column) ∷ (c *ℚ value_at (merged integral leaf []) t.column) ∷ activity ts (merged integral leaf others) ∷ activity ts (merged integral leaf []) ∷ activity (continuous_terms integral ts) others ∷ [])
    (λ s w. omega (arith, s.same_out))

pub activity_split : (integral : List Bool) (leaf others : List ℚ) (terms : List Term) → activity terms (merged integral leaf others) ≡ activity terms (merged integral leaf []) +ℚ activity (continuous_terms integral terms) others
activity_split integral leaf others [] = sym (+ℚ-zero zeroℚ)
activity_split integral leaf others (t ∷ ts) =
    term_split integral leaf others t ts (is_continuous integral t.column) refl (activity_split integral leaf others ts)

pub dot_split : (integral : List Bool) (leaf others costs : List ℚ) → dot costs (merged integral leaf others) ≡ dot costs (merged integral leaf []) +ℚ dot (at_continuous integral costs) others
dot_split [] leaf others costs = sym (+ℚ-zero (dot costs []))
dot_split (w ∷ ws) leaf others [] = sym (+ℚ-zero zeroℚ)
dot_split (true ∷ ws) [] others (c ∷ cs) =
    let h = dot_split ws [] others cs in
    linear_same ((c *ℚ zeroℚ) ∷ dot cs (merged ws [] others) ∷ dot cs (merged ws [] []) ∷ dot (at_continuous ws cs) others ∷ []) (λ s w. omega (arith, s.same_out))
dot_split (true ∷ ws) (v ∷ vs) others (c ∷ cs) =
    let h = dot_split ws vs others cs in
    linear_same ((c *ℚ v) ∷ dot cs (merged ws vs others) ∷ dot cs (merged ws vs []) ∷ dot (at_continuous ws cs) others ∷ []) (λ s w. omega (arith, s.same_out))
dot_split (false ∷ ws) leaf [] (c ∷ cs) = sym (+ℚ-zero _)
dot_split (false ∷ ws) leaf (x ∷ xs) (c ∷ cs) =
    let h = dot_split ws leaf xs cs in
    let z : c *ℚ zeroℚ ≡ zeroℚ = *ℚ-zero c in
    linear_same ((c *ℚ zeroℚ) ∷ (c *ℚ x) ∷ dot cs (merged ws leaf xs) ∷ dot cs (merged ws leaf []) ∷ dot (at_continuous ws cs) xs ∷ []) (λ s w. omega (arith, s.same_out))

-- ---- boxes

pub merged_in_box : (integral : List Bool) (box : List Sides) (leaf others : List ℚ) → length integral ≡ length box → IsLeafIn integral box leaf → IsInBox (at_continuous integral box) others → IsInBox box (merged integral leaf others)
merged_in_box [] [] leaf others e h k = tt
merged_in_box [] (s ∷ ss) leaf others e h k = absurd (omega (arith, e))
merged_in_box (w ∷ ws) [] leaf others e h k = absurd (omega (arith, e))
merged_in_box (true ∷ ws) (s ∷ ss) [] others e h k = absurd h
merged_in_box (true ∷ ws) (s ∷ ss) (v ∷ vs) others e h k = (h.0.between, merged_in_box ws ss vs others (omega (arith, e)) h.1 k)
merged_in_box (false ∷ ws) (s ∷ ss) leaf [] e h k = absurd k
merged_in_box (false ∷ ws) (s ∷ ss) leaf (x ∷ xs) e h k = (k.0, merged_in_box ws ss leaf xs (omega (arith, e)) h k.1)

pub continuous_in_box : (integral : List Bool) (box : List Sides) (point : List ℚ) → IsInBox box point → IsInBox (at_continuous integral box) (at_continuous integral point)
continuous_in_box [] box point h = tt
continuous_in_box (w ∷ ws) [] [] h = tt
continuous_in_box (w ∷ ws) [] (v ∷ vs) h = absurd h
continuous_in_box (w ∷ ws) (s ∷ ss) [] h = absurd h
continuous_in_box (true ∷ ws) (s ∷ ss) (v ∷ vs) h = continuous_in_box ws ss vs h.1
continuous_in_box (false ∷ ws) (s ∷ ss) (v ∷ vs) h = (h.0, continuous_in_box ws ss vs h.1)

-- ---- whole columns

pub merged_whole : (integral : List Bool) (box : List Sides) (leaf others : List ℚ) → length integral ≡ length box → IsLeafIn integral box leaf → AreWhole integral (merged integral leaf others)
merged_whole [] box leaf others e h = tt
merged_whole (w ∷ ws) [] leaf others e h = absurd (omega (arith, e))
merged_whole (true ∷ ws) (s ∷ ss) [] others e h = absurd h
merged_whole (true ∷ ws) (s ∷ ss) (v ∷ vs) others e h = (λ _. h.0.whole, merged_whole ws ss vs others (omega (arith, e)) h.1)
merged_whole (false ∷ ws) (s ∷ ss) leaf [] e h = (λ f. absurd (true≢false (sym f)), merged_whole ws ss leaf [] (omega (arith, e)) h)
merged_whole (false ∷ ws) (s ∷ ss) leaf (x ∷ xs) e h = (λ f. absurd (true≢false (sym f)), merged_whole ws ss leaf xs (omega (arith, e)) h)

pub wholes_merged : (integral : List Bool) (box : List Sides) (leaf others : List ℚ) → length integral ≡ length box → IsLeafIn integral box leaf → at_wholes integral (merged integral leaf others) ≡ leaf
wholes_merged [] box [] others e h = refl
wholes_merged [] box (v ∷ vs) others e h = absurd h
wholes_merged (w ∷ ws) [] leaf others e h = absurd (omega (arith, e))
wholes_merged (true ∷ ws) (s ∷ ss) [] others e h = absurd h
wholes_merged (true ∷ ws) (s ∷ ss) (v ∷ vs) others e h = ap (λ t. v ∷ t) (wholes_merged ws ss vs others (omega (arith, e)) h.1)
wholes_merged (false ∷ ws) (s ∷ ss) leaf [] e h = wholes_merged ws ss leaf [] (omega (arith, e)) h
wholes_merged (false ∷ ws) (s ∷ ss) leaf (x ∷ xs) e h = wholes_merged ws ss leaf xs (omega (arith, e)) h

pub merged_back : (integral : List Bool) (point : List ℚ) → length integral ≡ length point → merged integral (at_wholes integral point) (at_continuous integral point) ≡ point
merged_back [] [] e = refl
merged_back [] (v ∷ vs) e = absurd (omega (arith, e))
merged_back (w ∷ ws) [] e = absurd (omega (arith, e))
merged_back (true ∷ ws) (v ∷ vs) e = ap (λ t. v ∷ t) (merged_back ws vs (omega (arith, e)))
merged_back (false ∷ ws) (v ∷ vs) e = ap (λ t. v ∷ t) (merged_back ws vs (omega (arith, e)))

pub merged-long : (integral : List Bool) (leaf others : List ℚ) → length (merged integral leaf others) ≡ length integral
merged-long [] leaf others = refl
merged-long (true ∷ ws) [] others = ap suc (merged-long ws [] others)
merged-long (true ∷ ws) (v ∷ vs) others = ap suc (merged-long ws vs others)
merged-long (false ∷ ws) leaf [] = ap suc (merged-long ws leaf [])
merged-long (false ∷ ws) leaf (x ∷ xs) = ap suc (merged-long ws leaf xs)

-- ---- rows

low_back : (low : Option ℚ) (part rest : ℚ) → IfSome (shifted low part) (λ side. side ≤ℚ rest) → IfSome low (λ side. side ≤ℚ part +ℚ rest)
low_back None part rest h = tt
low_back (Some side) part rest h = let k : side -ℚ part ≤ℚ rest = h in linear_le (side ∷ part ∷ rest ∷ []) (λ s w. omega (arith, s.le_out))

high_back : (high : Option ℚ) (part rest : ℚ) → IfSome (shifted high part) (λ side. rest ≤ℚ side) → IfSome high (λ side. part +ℚ rest ≤ℚ side)
high_back None part rest h = tt
high_back (Some side) part rest h = let k : rest ≤ℚ side -ℚ part = h in linear_le (side ∷ part ∷ rest ∷ []) (λ s w. omega (arith, s.le_out))

low_on : (low : Option ℚ) (part rest : ℚ) → IfSome low (λ side. side ≤ℚ part +ℚ rest) → IfSome (shifted low part) (λ side. side ≤ℚ rest)
low_on None part rest h = tt
low_on (Some side) part rest h = let k : side ≤ℚ part +ℚ rest = h in linear_le (side ∷ part ∷ rest ∷ []) (λ s w. omega (arith, s.le_out))

high_on : (high : Option ℚ) (part rest : ℚ) → IfSome high (λ side. part +ℚ rest ≤ℚ side) → IfSome (shifted high part) (λ side. rest ≤ℚ side)
high_on None part rest h = tt
high_on (Some side) part rest h = let k : part +ℚ rest ≤ℚ side = h in linear_le (side ∷ part ∷ rest ∷ []) (λ s w. omega (arith, s.le_out))

module _ (program : Program) (leaf : List ℚ) where
  row_back : (row : Row) (others : List ℚ) → IsSatisfied (row_of_leaf program leaf row) others → IsSatisfied row (merged program.integral leaf others)
  row_back row others h =
      let part = part_of program leaf row in
      let rest = activity (continuous_terms program.integral row.terms) others in
      subst (Between row.low row.high) (sym (activity_split program.integral leaf others row.terms))
      (record { above = low_back row.low part rest h.above; below = high_back row.high part rest h.below })

  row_on : (row : Row) (others : List ℚ) → IsSatisfied row (merged program.integral leaf others) → IsSatisfied (row_of_leaf program leaf row) others
  row_on row others h =
      let part = part_of program leaf row in
      let rest = activity (continuous_terms program.integral row.terms) others in
      let k : Between row.low row.high (part +ℚ rest) = subst (Between row.low row.high) (activity_split program.integral leaf others row.terms) h in
      record { above = low_on row.low part rest k.above; below = high_on row.high part rest k.below }

  rows_back : (rows : List Row) (others : List ℚ) → AllByRecursion (λ row. IsSatisfied row others) (map (row_of_leaf program leaf) rows) → AllByRecursion (λ row. IsSatisfied row (merged program.integral leaf others)) rows
  rows_back [] others h = tt
  rows_back (r ∷ rs) others h = (row_back r others h.0, rows_back rs others h.1)

  rows_on : (rows : List Row) (others : List ℚ) → AllByRecursion (λ row. IsSatisfied row (merged program.integral leaf others)) rows → AllByRecursion (λ row. IsSatisfied row others) (map (row_of_leaf program leaf) rows)
  rows_on [] others h = tt
  rows_on (r ∷ rs) others h = (row_on r others h.0, rows_on rs others h.1)

  -- ---- points

  pub point_back : (others : List ℚ) → IsWellFormed program → program.choices ≡ [] → IsLeaf program leaf → IsPoint (program_of_leaf program leaf) others → IsPointOf program leaf (merged program.integral leaf others)
  point_back others formed none h k =
      let e = formed.integral ∙ sym formed.bounds in
      record {
        feasible = record {
          within = merged_in_box program.integral program.bounds leaf others e h k.within;
          whole = merged_whole program.integral program.bounds leaf others e h;
          choices = subst (λ choices. KeepsChoices choices (merged program.integral leaf others)) (sym none) (λ column. tt);
          rows = rows_back program.rows others k.rows;
        };
        values = wholes_merged program.integral program.bounds leaf others e h;
      }

  pub point_on : (point : List ℚ) → IsWellFormed program → IsPointOf program leaf point → IsTold program leaf point
  point_on point formed h =
      let long = IsInBox-long program.bounds point h.feasible.within in
      let back : merged program.integral leaf (at_continuous program.integral point) ≡ point = ap (λ z. merged program.integral z (at_continuous program.integral point)) (sym h.values) ∙ merged_back program.integral point (formed.integral ∙ (sym formed.bounds ∙ sym long)) in
      record {
        same = sym back;
        is_point = record {
          within = continuous_in_box program.integral program.bounds point h.feasible.within;
          rows = rows_on program.rows (at_continuous program.integral point) (subst (λ x. AllByRecursion (λ row. IsSatisfied row x) program.rows) (sym back) h.feasible.rows);
        };
      }

  pub cost_split : (others : List ℚ) → cost_of program (merged program.integral leaf others) ≡ cost_of program (merged program.integral leaf []) +ℚ dot (program_of_leaf program leaf).costs others
  cost_split others =
      ap (λ t. program.constant +ℚ t) (dot_split program.integral leaf others program.costs)
      ∙ sym (+ℚ_assoc program.constant (dot program.costs (merged program.integral leaf [])) (dot (at_continuous program.integral program.costs) others))

-- ---- the program is proper

continuous-long : {X Y : Type 0} (integral : List Bool) (xs : List X) (ys : List Y) → length xs ≡ length ys → length (at_continuous integral xs) ≡ length (at_continuous integral ys)
continuous-long [] xs ys e = refl
continuous-long (w ∷ ws) [] [] e = refl
continuous-long (w ∷ ws) [] (y ∷ ys) e = absurd (omega (arith, e))
continuous-long (w ∷ ws) (x ∷ xs) [] e = absurd (omega (arith, e))
continuous-long (true ∷ ws) (x ∷ xs) (y ∷ ys) e = continuous-long ws xs ys (omega (arith, e))
continuous-long (false ∷ ws) (x ∷ xs) (y ∷ ys) e = ap suc (continuous-long ws xs ys (omega (arith, e)))

-- the new number of a continuous column is one of the new columns
pub number_below : {X : Type 0} (integral : List Bool) (xs : List X) (column : ℕ) → length integral ≡ length xs → is_continuous integral column ≡ true → new_number integral column < length (at_continuous integral xs)
number_below [] xs column e h = absurd (true≢false (sym h))
number_below (w ∷ ws) [] column e h = absurd (omega (arith, e))
number_below (true ∷ ws) (x ∷ xs) zero e h = absurd (true≢false (sym h))
number_below (true ∷ ws) (x ∷ xs) (suc column) e h = number_below ws xs column (omega (arith, e)) h
number_below (false ∷ ws) (x ∷ xs) zero e h = omega arith
number_below (false ∷ ws) (x ∷ xs) (suc column) e h = let l = number_below ws xs column (omega (arith, e)) h in omega (arith, l)

term_below : {X : Type 0} (integral : List Bool) (xs : List X) (t : Term) (ts : List Term) (test : Bool) → length integral ≡ length xs → is_continuous integral t.column ≡ test → StandsBelow (length (at_continuous integral xs)) (continuous_terms integral ts) → StandsBelow (length (at_continuous integral xs)) (cond test (record { column = new_number integral t.column; coefficient = t.coefficient } ∷ continuous_terms integral ts) (continuous_terms integral ts))
term_below integral xs t ts true e h k = All-cons (λ t. t.column < length (at_continuous integral xs)) (record { column = new_number integral t.column; coefficient = t.coefficient }) (continuous_terms integral ts) (number_below integral xs t.column e h) k
term_below integral xs t ts false e h k = k

pub terms_below : {X : Type 0} (integral : List Bool) (xs : List X) (terms : List Term) → length integral ≡ length xs → StandsBelow (length (at_continuous integral xs)) (continuous_terms integral terms)
terms_below integral xs [] e = All-nil (λ t. t.column < length (at_continuous integral xs))
terms_below integral xs (t ∷ ts) e = term_below integral xs t ts (is_continuous integral t.column) e refl (terms_below integral xs ts e)

rows_below : {X : Type 0} (program : Program) (leaf : List ℚ) (xs : List X) (rows : List Row) → length program.integral ≡ length xs → All (λ row. StandsBelow (length (at_continuous program.integral xs)) row.terms) (map (row_of_leaf program leaf) rows)
rows_below program leaf xs [] e = All-nil (λ row. StandsBelow (length (at_continuous program.integral xs)) row.terms)
rows_below program leaf xs (r ∷ rs) e = All-cons (λ row. StandsBelow (length (at_continuous program.integral xs)) row.terms) (row_of_leaf program leaf r) (map (row_of_leaf program leaf) rs) (terms_below program.integral xs r.terms e) (rows_below program leaf xs rs e)

pub leaf_proper : (program : Program) (leaf : List ℚ) → IsWellFormed program → IsProper (program_of_leaf program leaf)
leaf_proper program leaf formed = record {
  costs = continuous-long program.integral program.costs program.bounds (sym formed.bounds);
  rows = rows_below program leaf program.bounds program.rows (formed.integral ∙ sym formed.bounds);
}
