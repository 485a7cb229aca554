-- Multipliers of columns and rows: the combination that they give, its bound, and what that says of the program.
use Rattle.std.proofs.Common.{◌≡◌, ℕ, zero, suc, ◌+◌, ◌<◌, ◌||◌, Bool, true, false, cond, List, [], ◌∷◌, ◌++◌, length, map, drop, Some, refl, sym, ap, ◌∙◌, subst, arith, drop-cons, slice_get}
use Rattle.std.specs.List.{AllByRecursion}
use Rattle.std.proofs.lemmas.Option.{none-some, same_Some}
use Rattle.std.proofs.lemmas.List.Elements.{All-from_recursion, recursion_from_All}
use Rattle.cip_rational.specs.Rational.{ℚ, ◌+ℚ◌, ◌*ℚ◌, zeroℚ, oneℚ, ◌≤ℚ◌, ◌<ℚ◌, lt_test}
use Rattle.cip_rational.specs.Sums.{dot}
use Rattle.cip_rational.proofs.Rational.Ring.{+ℚ-zero, zero-+ℚ, zero-*ℚ, sub_self, +ℚ_assoc}
use Rattle.cip_rational.proofs.Rational.Order.{≤ℚ_refl, ≤ℚ_of_lt, ≤ℚ_antisymm, lt_of_test, le_of_lt_test, not_le_of_lt, lt_test_of_le}
use Rattle.cip_rational.proofs.Sums.{dot-nil}
use Rattle.cip_rational.proofs.Linear.{linear_same}
use Rattle.cip_problem.specs.Program.{Term, Sides, Row}
use Rattle.cip_problem.specs.Activity.{activity, value_at, StandsBelow}
use Rattle.cip_problem.specs.Box.{sides_at}
use Rattle.cip_problem.specs.BoxBound.{least_cost, least_costs}
use Rattle.cip_problem.proofs.Points.AtPlaces.{IsInBox-long}
use Rattle.cip_problem.specs.LinearProgram.{LinearProgram, IsProper, IsPoint, HasNoPoint, IsOptimal}
use Rattle.cip_problem.specs.Aggregate.{Part, used_side, IsPartOf, bound_row, total_activity, total_side, table, combined, aggregate, differences, bound_of}
use Rattle.cip_problem.specs.Multipliers.{IsPartOfProgram, Of_row, Of_column, ArePartsOf, OnVariables, paired, activities, extended, IsUsed, AllUsed, row_sides, UsesSides, SumsTo, row_parts, column_part, low_parts, high_parts, combination}
use Rattle.cip_problem.proofs.Parts.{used_low, used_high, bound_row_activity, program_parts_hold}
use Rattle.cip_problem.proofs.Aggregates.{total_holds, length-table, parts_form, same_form}

-- ---- a number that is neither above nor below 0

neither : (y : ℚ) → lt_test zeroℚ y ≡ false → lt_test y zeroℚ ≡ false → y ≡ zeroℚ
neither y p n = ≤ℚ_antisymm (le_of_lt_test p) (le_of_lt_test n)

-- a part is taken where its multiplier isn't 0, and else adds nothing
module _ (f : List Part → ℚ) (p : Part) (y v : ℚ) (each : (ps : List Part) → f (p ∷ ps) ≡ y *ℚ v +ℚ f ps) where
  left_out : (ps : List Part) → y ≡ zeroℚ → f ps ≡ y *ℚ v +ℚ f ps
  left_out ps e = rw (e, zero-*ℚ v) (sym (zero-+ℚ (f ps)))

  taken : (ps : List Part) (s t : Bool) → lt_test zeroℚ y ≡ s → lt_test y zeroℚ ≡ t → f (cond (s || t) (p ∷ ps) ps) ≡ y *ℚ v +ℚ f ps
  taken ps true t h k = each ps
  taken ps false true h k = each ps
  taken ps false false h k = left_out ps (neither y h k)

  -- of the two lists, it is taken into at most one
  either : (ls hs : List Part) (s t : Bool) → lt_test zeroℚ y ≡ s → lt_test y zeroℚ ≡ t → f (cond s (p ∷ ls) ls) +ℚ f (cond t (p ∷ hs) hs) ≡ y *ℚ v +ℚ (f ls +ℚ f hs)
  either ls hs true true h k = absurd (not_le_of_lt (lt_of_test h) (≤ℚ_of_lt (lt_of_test k)))
  either ls hs true false h k = rw (each ls) (+ℚ_assoc (y *ℚ v) (f ls) (f hs))
  either ls hs false true h k =
      let e = each hs in
      linear_same ((y *ℚ v) ∷ f ls ∷ f hs ∷ f (p ∷ hs) ∷ []) (λ s w. omega (arith, s.same_out))
  either ls hs false false h k =
      let e = left_out ls (neither y h k) in
      linear_same ((y *ℚ v) ∷ f ls ∷ f hs ∷ []) (λ s w. omega (arith, s.same_out))

-- ---- the sums of the parts that multipliers give

rows_activity : (rows : List Row) (ys us point : List ℚ) → length ys ≡ length us → total_activity (row_parts rows ys us) point ≡ dot ys (activities rows point)
rows_activity [] ys us point e = sym (dot-nil ys)
rows_activity (r ∷ rs) [] us point e = refl
rows_activity (r ∷ rs) (y ∷ ys) [] point e = absurd (omega (arith, e))
rows_activity (r ∷ rs) (y ∷ ys) (u ∷ us) point e =
    taken (λ ps. total_activity ps point) (record { factor = y; terms = r.terms; side = u }) y (activity r.terms point) (λ ps. refl) (row_parts rs ys us) (lt_test zeroℚ y) (lt_test y zeroℚ) refl refl
    ∙ ap (λ t. y *ℚ activity r.terms point +ℚ t) (rows_activity rs ys us point (omega (arith, e)))

rows_side : (rows : List Row) (ys us : List ℚ) → length ys ≡ length us → length rows ≡ length ys → total_side (row_parts rows ys us) ≡ dot ys us
rows_side [] [] us e l = refl
rows_side [] (y ∷ ys) us e l = absurd (omega (arith, l))
rows_side (r ∷ rs) [] us e l = refl
rows_side (r ∷ rs) (y ∷ ys) [] e l = absurd (omega (arith, e))
rows_side (r ∷ rs) (y ∷ ys) (u ∷ us) e l =
    taken total_side (record { factor = y; terms = r.terms; side = u }) y u (λ ps. refl) (row_parts rs ys us) (lt_test zeroℚ y) (lt_test y zeroℚ) refl refl
    ∙ ap (λ t. y *ℚ u +ℚ t) (rows_side rs ys us (omega (arith, e)) (omega (arith, l)))

columns_activity : (column : ℕ) (ys us point : List ℚ) → length ys ≡ length us → column + length ys ≡ length point → total_activity (low_parts column ys us) point +ℚ total_activity (high_parts column ys us) point ≡ dot ys (drop column point)
columns_activity column [] us point e l = +ℚ-zero zeroℚ
columns_activity column (y ∷ ys) [] point e l = absurd (omega (arith, e))
columns_activity column (y ∷ ys) (u ∷ us) point e l =
    let within : column < length point = omega (arith, l) in
    let v = value_at point column in
    either (λ ps. total_activity ps point) (column_part column y u) y v
    (λ ps. ap (λ t. y *ℚ t +ℚ total_activity ps point) (bound_row_activity column point))
    (low_parts (suc column) ys us) (high_parts (suc column) ys us) (lt_test zeroℚ y) (lt_test y zeroℚ) refl refl
    ∙ ap (λ t. y *ℚ v +ℚ t) (columns_activity (suc column) ys us point (omega (arith, e)) (omega (arith, l)))
    ∙ ap (dot (y ∷ ys)) (sym (drop-cons point column zeroℚ within))

columns_side : (column : ℕ) (ys us : List ℚ) → length ys ≡ length us → total_side (low_parts column ys us) +ℚ total_side (high_parts column ys us) ≡ dot ys us
columns_side column [] us e = +ℚ-zero zeroℚ
columns_side column (y ∷ ys) [] e = absurd (omega (arith, e))
columns_side column (y ∷ ys) (u ∷ us) e =
    either total_side (column_part column y u) y u (λ ps. refl)
    (low_parts (suc column) ys us) (high_parts (suc column) ys us) (lt_test zeroℚ y) (lt_test y zeroℚ) refl refl
    ∙ ap (λ t. y *ℚ u +ℚ t) (columns_side (suc column) ys us (omega (arith, e)))

activity_append : (ps qs : List Part) (point : List ℚ) → total_activity (ps ++ qs) point ≡ total_activity ps point +ℚ total_activity qs point
activity_append [] qs point = sym (zero-+ℚ (total_activity qs point))
activity_append (p ∷ ps) qs point = ap (λ t. p.factor *ℚ activity p.terms point +ℚ t) (activity_append ps qs point) ∙ sym (+ℚ_assoc _ (total_activity ps point) (total_activity qs point))

side_append : (ps qs : List Part) → total_side (ps ++ qs) ≡ total_side ps +ℚ total_side qs
side_append [] qs = sym (zero-+ℚ (total_side qs))
side_append (p ∷ ps) qs = ap (λ t. p.factor *ℚ p.side +ℚ t) (side_append ps qs) ∙ sym (+ℚ_assoc _ (total_side ps) (total_side qs))

-- ---- lengths

used_long : (ys : List ℚ) (ss : List Sides) (us : List ℚ) → AllUsed ys ss us → (length ys ≡ length us) × (length ss ≡ length ys)
used_long [] [] [] h = (refl, refl)
used_long [] [] (u ∷ us) h = absurd h
used_long [] (s ∷ ss) us h = absurd h
used_long (y ∷ ys) [] us h = absurd h
used_long (y ∷ ys) (s ∷ ss) [] h = absurd h
used_long (y ∷ ys) (s ∷ ss) (u ∷ us) h = let l = used_long ys ss us h.1 in (ap suc l.0, ap suc l.1)

length-sides : (rows : List Row) → length (map row_sides rows) ≡ length rows
length-sides [] = refl
length-sides (r ∷ rs) = ap suc (length-sides rs)

module _ (program : LinearProgram) (y u : OnVariables) (uses : UsesSides program y u) where
  columns_long : (length y.columns ≡ length u.columns) × (length program.bounds ≡ length y.columns)
  columns_long = used_long y.columns program.bounds u.columns uses.columns

  rows_long : (length y.rows ≡ length u.rows) × (length program.rows ≡ length y.rows)
  rows_long =
      let l = used_long y.rows (map row_sides program.rows) u.rows uses.rows in
      (l.0, sym (length-sides program.rows) ∙ l.1)

  -- the left side of the combination
  combination_activity : (point : List ℚ) → length point ≡ length program.bounds → total_activity (combination program y u) point ≡ paired y (extended program point)
  combination_activity point l =
      let rows = row_parts program.rows y.rows u.rows in
      let lows = low_parts 0 y.columns u.columns in
      let highs = high_parts 0 y.columns u.columns in
      let a = activity_append rows (lows ++ highs) point in
      let b = activity_append lows highs point in
      let r = rows_activity program.rows y.rows u.rows point rows_long.0 in
      let c : total_activity lows point +ℚ total_activity highs point ≡ dot y.columns point = columns_activity 0 y.columns u.columns point columns_long.0 (omega (arith, l, columns_long.1)) in
      linear_same
      (total_activity (rows ++ (lows ++ highs)) point ∷ total_activity rows point ∷ total_activity (lows ++ highs) point ∷ total_activity lows point ∷ total_activity highs point ∷ dot y.columns point ∷ dot y.rows (activities program.rows point) ∷ [])
      (λ s w. omega (arith, s.same_out))

  -- the right side of the combination
  combination_side : total_side (combination program y u) ≡ paired y u
  combination_side =
      let rows = row_parts program.rows y.rows u.rows in
      let lows = low_parts 0 y.columns u.columns in
      let highs = high_parts 0 y.columns u.columns in
      let a = side_append rows (lows ++ highs) in
      let b = side_append lows highs in
      let r = rows_side program.rows y.rows u.rows rows_long.0 rows_long.1 in
      let c = columns_side 0 y.columns u.columns columns_long.0 in
      linear_same
      (total_side (rows ++ (lows ++ highs)) ∷ total_side rows ∷ total_side (lows ++ highs) ∷ total_side lows ∷ total_side highs ∷ dot y.columns u.columns ∷ dot y.rows u.rows ∷ [])
      (λ s w. omega (arith, s.same_out))

-- ---- the parts are parts of the program

uses_side : (y u : ℚ) (sides : Sides) (s t : Bool) → lt_test zeroℚ y ≡ s → lt_test y zeroℚ ≡ t → s || t ≡ true → IsUsed y sides u → used_side y sides.low sides.high ≡ Some u
uses_side y u sides true t h k e i = used_low y sides.low sides.high (lt_of_test h) ∙ i.low (lt_of_test h)
uses_side y u sides false true h k e i = used_high y sides.low sides.high (lt_of_test k) ∙ i.high (lt_of_test k)
uses_side y u sides false false h k e i = absurd (cc)

when_taken : (P : Part → Type 0) (p : Part) (ps : List Part) (t : Bool) → (t ≡ true → P p) → AllByRecursion P ps → AllByRecursion P (cond t (p ∷ ps) ps)
when_taken P p ps true h k = (h refl, k)
when_taken P p ps false h k = k

all_append : (P : Part → Type 0) (ps qs : List Part) → AllByRecursion P ps → AllByRecursion P qs → AllByRecursion P (ps ++ qs)
all_append P [] qs h k = k
all_append P (p ∷ ps) qs h k = (h.0, all_append P ps qs h.1 k)

rows_are_parts : (P : Part → Type 0) (rows : List Row) (ys us : List ℚ) → AllUsed ys (map row_sides rows) us → ((number : ℕ) (row : Row) (part : Part) → slice_get rows number ≡ Some row → IsPartOf row part → P part) → AllByRecursion P (row_parts rows ys us)
rows_are_parts P [] ys us h f = tt
rows_are_parts P (r ∷ rs) [] us h f = absurd h
rows_are_parts P (r ∷ rs) (y ∷ ys) [] h f = absurd h
rows_are_parts P (r ∷ rs) (y ∷ ys) (u ∷ us) h f =
    when_taken P (record { factor = y; terms = r.terms; side = u }) (row_parts rs ys us) (lt_test zeroℚ y || lt_test y zeroℚ)
    (λ e. f 0 r _ refl (record { terms = refl; side = uses_side y u (row_sides r) (lt_test zeroℚ y) (lt_test y zeroℚ) refl refl e h.0 }))
    (rows_are_parts P rs ys us h.1 (λ number row part e k. f (suc number) row part e k))

lows_are_parts : (P : Part → Type 0) (first : ℕ) (ys : List ℚ) (ss : List Sides) (us : List ℚ) → AllUsed ys ss us → ((k column : ℕ) (part : Part) → column ≡ first + k → k < length ss → IsPartOf (bound_row column (sides_at ss k)) part → P part) → AllByRecursion P (low_parts first ys us)
lows_are_parts P first [] ss us h f = tt
lows_are_parts P first (y ∷ ys) [] us h f = absurd h
lows_are_parts P first (y ∷ ys) (s ∷ ss) [] h f = absurd h
lows_are_parts P first (y ∷ ys) (s ∷ ss) (u ∷ us) h f =
    when_taken P (column_part first y u) (low_parts (suc first) ys us) (lt_test zeroℚ y)
    (λ e. f 0 first _ (omega arith) (omega arith) (record { terms = refl; side = used_low y s.low s.high (lt_of_test e) ∙ h.0.low (lt_of_test e) }))
    (lows_are_parts P (suc first) ys ss us h.1 (λ k column part e l. f (suc k) column part (omega (arith, e)) (omega (arith, l))))

highs_are_parts : (P : Part → Type 0) (first : ℕ) (ys : List ℚ) (ss : List Sides) (us : List ℚ) → AllUsed ys ss us → ((k column : ℕ) (part : Part) → column ≡ first + k → k < length ss → IsPartOf (bound_row column (sides_at ss k)) part → P part) → AllByRecursion P (high_parts first ys us)
highs_are_parts P first [] ss us h f = tt
highs_are_parts P first (y ∷ ys) [] us h f = absurd h
highs_are_parts P first (y ∷ ys) (s ∷ ss) [] h f = absurd h
highs_are_parts P first (y ∷ ys) (s ∷ ss) (u ∷ us) h f =
    when_taken P (column_part first y u) (high_parts (suc first) ys us) (lt_test y zeroℚ)
    (λ e. f 0 first _ (omega arith) (omega arith) (record { terms = refl; side = used_high y s.low s.high (lt_of_test e) ∙ h.0.high (lt_of_test e) }))
    (highs_are_parts P (suc first) ys ss us h.1 (λ k column part e l. f (suc k) column part (omega (arith, e)) (omega (arith, l))))

of_column : (program : LinearProgram) (k column : ℕ) (part : Part) → column ≡ 0 + k → k < length program.bounds → IsPartOf (bound_row column (sides_at program.bounds k)) part → IsPartOfProgram program part
of_column program k column part e l h =
    let same : column ≡ k = omega (arith, e) in
    Of_column column (omega (arith, l)) (subst (λ n. IsPartOf (bound_row column (sides_at program.bounds n)) part) (sym same) h)

pub combination_parts : (program : LinearProgram) (y u : OnVariables) → UsesSides program y u → ArePartsOf program (combination program y u)
combination_parts program y u uses =
    all_append (IsPartOfProgram program) (row_parts program.rows y.rows u.rows) _
    (rows_are_parts (IsPartOfProgram program) program.rows y.rows u.rows uses.rows (λ number row part e h. Of_row number row e h))
    (
    all_append (IsPartOfProgram program) (low_parts 0 y.columns u.columns) (high_parts 0 y.columns u.columns)
    (lows_are_parts (IsPartOfProgram program) 0 y.columns program.bounds u.columns uses.columns (of_column program))
    (highs_are_parts (IsPartOfProgram program) 0 y.columns program.bounds u.columns uses.columns (of_column program))
    )

-- ---- they stand on columns of the program

row_stands : (n : ℕ) (rows : List Row) (number : ℕ) (row : Row) → AllByRecursion (λ (row : Row). StandsBelow n row.terms) rows → slice_get rows number ≡ Some row → StandsBelow n row.terms
row_stands n [] number row h e = absurd (none-some row e)
row_stands n (r ∷ rs) zero row h e = subst (λ (r : Row). StandsBelow n r.terms) (same_Some r row e) h.0
row_stands n (r ∷ rs) (suc number) row h e = row_stands n rs number row h.1 e

part_stands : (program : LinearProgram) (part : Part) → IsProper program → IsPartOfProgram program part → StandsBelow (length program.bounds) part.terms
part_stands program part proper (Of_row number row e k) =
    subst (StandsBelow (length program.bounds)) (sym k.terms) (row_stands (length program.bounds) program.rows number row (recursion_from_All _ program.rows proper.rows) e)
part_stands program part proper (Of_column column l k) =
    subst (StandsBelow (length program.bounds)) (sym k.terms) (All-from_recursion (λ (t : Term). t.column < length program.bounds) (record { column = column; coefficient = oneℚ } ∷ []) (l, tt))

parts_stand : (program : LinearProgram) (parts : List Part) → IsProper program → ArePartsOf program parts → AllByRecursion (λ (part : Part). StandsBelow (length program.bounds) part.terms) parts
parts_stand program [] proper h = tt
parts_stand program (p ∷ ps) proper h = (part_stands program p proper h.0, parts_stand program ps proper h.1)

-- ---- the bound

pub no_cost : (sides : Sides) → least_cost zeroℚ sides ≡ Some zeroℚ
no_cost sides = rw (lt_test_of_le (≤ℚ_refl zeroℚ)) refl

pub no_difference : (costs : List ℚ) (box : List Sides) → least_costs (differences costs costs) box ≡ Some zeroℚ
no_difference [] box = refl
no_difference (c ∷ cs) [] = refl
no_difference (c ∷ cs) (s ∷ ss) = rw (sub_self c, no_cost s, no_difference cs ss) (ap Some (+ℚ-zero zeroℚ))

-- where the costs are the coefficients, the bound is the right side
pub bound_of_same : (costs : List ℚ) (least : ℚ) (box : List Sides) → bound_of (record { coefficients = costs; least = least }) costs box ≡ Some least
bound_of_same costs least box = rw (no_difference costs box) (ap Some (+ℚ-zero least))

pub combination_bound : (program : LinearProgram) (y u : OnVariables) (costs : List ℚ) → IsProper program → UsesSides program y u → length costs ≡ length program.bounds → SumsTo program y costs → bound_of (aggregate (length program.bounds) (combination program y u)) costs program.bounds ≡ Some (paired y u)
combination_bound program y u costs proper uses l comes =
    let n = length program.bounds in
    let parts = combination program y u in
    let stand = parts_stand program parts proper (combination_parts program y u uses) in
    let same : table n (combined parts) ≡ costs = same_form (table n (combined parts)) costs (length-table n (combined parts) ∙ sym l) (λ xs e. parts_form n parts xs stand ∙ combination_activity program y u uses xs (e ∙ length-table n (combined parts)) ∙ comes xs (e ∙ length-table n (combined parts))) in
    let side : total_side parts ≡ paired y u = combination_side program y u uses in
    ap (λ cs. bound_of (record { coefficients = cs; least = total_side parts }) costs program.bounds) same
    ∙ bound_of_same costs (total_side parts) program.bounds ∙ ap Some side

-- ---- certificates

pub certified : (program : LinearProgram) (y u : OnVariables) (costs : List ℚ) (point : List ℚ) → UsesSides program y u → SumsTo program y costs → IsPoint program point → paired y u ≤ℚ dot costs point
certified program y u costs point uses comes h =
    let parts = combination program y u in
    let l = IsInBox-long program.bounds point h.within in
    let k : total_side parts ≤ℚ total_activity parts point = total_holds parts point (program_parts_hold program parts point (combination_parts program y u uses) h) in
    subst (λ t. t ≤ℚ dot costs point) (combination_side program y u uses) (subst (λ t. total_side parts ≤ℚ t) (combination_activity program y u uses point l ∙ comes point l) k)

pub certified_optimal : (program : LinearProgram) (y u : OnVariables) (point : List ℚ) → IsProper program → UsesSides program y u → SumsTo program y program.costs → IsPoint program point → dot program.costs point ≡ paired y u → IsOptimal program point (paired y u)
certified_optimal program y u point proper uses comes h e =
    record { is_point = h; cost_is = e; least = λ other k. certified program y u program.costs other uses comes k }

pub certified_empty : (program : LinearProgram) (y u : OnVariables) → IsProper program → UsesSides program y u → SumsTo program y [] → zeroℚ <ℚ paired y u → HasNoPoint program
certified_empty program y u proper uses comes positive point h = not_le_of_lt positive (certified program y u [] point uses comes h)
