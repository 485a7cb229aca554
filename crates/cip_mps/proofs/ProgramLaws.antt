-- The objective, the names of the rows that are kept, and that the program is well-formed.
use Rattle.std.proofs.Common.{◌≡◌, ℕ, zero, suc, ◌+◌, ◌<◌, ◌≤◌, Bool, true, false, not, cond, ◌||◌, List, [], ◌∷◌, ◌++◌, length, map, take, Option, Some, refl, sym, ap, subst, ◌∙◌, arith, All, drop}
use Rattle.std.specs.Prelude.{slice_get, slice_index_or, nat_lt, unwrap_or}
use Rattle.std.specs.List.{AllByRecursion, filter, list_all, list_any}
use Rattle.std.specs.Str.{bytes_eq}
use Rattle.std.proofs.lemmas.List.{length-map}
use Rattle.std.proofs.lemmas.List.Elements.{All-from_recursion}
use Rattle.std.proofs.lemmas.Bool.{and_parts, ltb-true, or_from}
use Rattle.cip_rational.specs.Rational.{ℚ, negate}
use Rattle.cip_problem.specs.Limits.{most_rows, most_columns}
use Rattle.cip_problem.specs.Program.{Term, Sides, Row, Choice, Program}
use Rattle.cip_problem.specs.Activity.{StandsBelow}
use Rattle.cip_problem.specs.WellFormed.{IsWellFormed}
use Rattle.cip_text_rules.specs.MpsWords.{next, number_in, is_in}
use Rattle.cip_text_rules.specs.MpsBounds.{Bounded, settled, is_semi, column_sides, choice_of, choices_of}
use Rattle.cip_text_rules.specs.MpsProgram.{is_free}
use Rattle.cip_text_rules.proofs.Quiet.{left_false, right_false}
use Rattle.cip_text_rules.specs.MpsState.{Held, RowRead, State, no_row, is_zero_value, is_kept, kept_names, objective_row, right_side_of, minimized_by, costs_from, terms_from, finished_row, program_from}
use Rattle.cip_text_rules.specs.MpsSoundState.{held_below}
use Rattle.cip_text_rules.proofs.SemiColumns.{choices_formed}
use Rattle.cip_text_rules.proofs.LookUps.{is_in-cons}
use Rattle.cip_text_rules.proofs.MpsNames.{next_some}
use Rattle.cip_mps.proofs.ListLaws.{list_any_map}

-- ---- names of rows

pub kept_absent : (names : List (List ℕ)) (rows : List RowRead) (name : List ℕ) → is_in names name ≡ false → is_in (kept_names names rows) name ≡ false
kept_absent [] rows name e = refl
kept_absent (x ∷ xs) [] name e = refl
kept_absent (x ∷ xs) (r ∷ rs) name e =
    let both : (bytes_eq name x || is_in xs name) ≡ false = sym (is_in-cons x xs name) ∙ e in
    let rest : is_in (kept_names xs rs) name ≡ false = kept_absent xs rs name (right_false _ _ both) in
    go (is_kept r) (is_in-cons x (kept_names xs rs) name ∙ or_from _ _ (left_false _ _ both) rest) rest
  where
    go : (b : Bool) → is_in (x ∷ kept_names xs rs) name ≡ false → is_in (kept_names xs rs) name ≡ false → is_in (cond b (x ∷ kept_names xs rs) (kept_names xs rs)) name ≡ false
    go true h k = h
    go false h k = k

pub take_absent : (names : List (List ℕ)) (name : List ℕ) (k : ℕ) → number_in names name ≡ Some k → is_in (take k names) name ≡ false
take_absent [] name k e = absurd (cc)
take_absent (x ∷ xs) name zero e = refl
take_absent (x ∷ xs) name (suc k) e = go (bytes_eq name x) refl e (take_absent xs name k)
  where
    go : (b : Bool) → bytes_eq name x ≡ b → cond b (Some 0) (next (number_in xs name)) ≡ Some (suc k) → (number_in xs name ≡ Some k → is_in (take k xs) name ≡ false) → is_in (x ∷ take k xs) name ≡ false
    go true p q h = let z : ◌≡◌ {A = ℕ} 0 (suc k) = cc in absurd (cc)
    go false p q h = is_in-cons x (take k xs) name ∙ or_from _ _ p (h (next_some _ k q))

-- one row more
pub kept_more : (names : List (List ℕ)) (rows : List RowRead) (k : ℕ) (name : List ℕ) (row : RowRead) → slice_get names k ≡ Some name → k < length rows → row ≡ slice_index_or rows k no_row
    → kept_names (take (suc k) names) (take (suc k) rows) ≡ cond (is_kept row) (kept_names (take k names) (take k rows) ++ name ∷ []) (kept_names (take k names) (take k rows))
kept_more [] rows k name row e l r = absurd (cc)
kept_more (x ∷ xs) [] k name row e l r = absurd (omega (arith, l))
kept_more (x ∷ xs) (y ∷ ys) zero name row e l r =
    let q : x ≡ name = cc in
    ap (λ (w : RowRead). cond (is_kept w) (x ∷ []) []) (sym r) ∙ ap (λ (n : List ℕ). cond (is_kept row) (n ∷ []) []) q
kept_more (x ∷ xs) (y ∷ ys) (suc k) name row e l r = go (is_kept y) (is_kept row) (kept_more xs ys k name row e (omega (arith, l)) r)
  where
    go : (a b : Bool) → kept_names (take (suc k) xs) (take (suc k) ys) ≡ cond b (kept_names (take k xs) (take k ys) ++ name ∷ []) (kept_names (take k xs) (take k ys))
        → cond a (x ∷ kept_names (take (suc k) xs) (take (suc k) ys)) (kept_names (take (suc k) xs) (take (suc k) ys))
        ≡ cond b (cond a (x ∷ kept_names (take k xs) (take k ys)) (kept_names (take k xs) (take k ys)) ++ name ∷ []) (cond a (x ∷ kept_names (take k xs) (take k ys)) (kept_names (take k xs) (take k ys)))
    go true true h = ap (λ ns. x ∷ ns) h
    go true false h = ap (λ ns. x ∷ ns) h
    go false true h = h
    go false false h = h

-- the name of a row that isn't of type N
pub kept_unless : (free : Bool) (row : RowRead) (names : List (List ℕ)) (name : List ℕ) → free ≡ is_free row.kind → cond free names (names ++ name ∷ []) ≡ cond (is_kept row) (names ++ name ∷ []) names
kept_unless free row names name e = ap (λ b. cond b names (names ++ name ∷ [])) e ∙ go (is_free row.kind)
  where
    go : (b : Bool) → cond b names (names ++ name ∷ []) ≡ cond (not b) (names ++ name ∷ []) names
    go true = refl
    go false = refl

-- ---- a well-formed program

costs_length : (sense : Option Bool) (held : List Held) (at n : ℕ) → length (costs_from sense held at n) ≡ n
costs_length sense held at zero = refl
costs_length sense held at (suc n) = ap suc (costs_length sense held (at + 1) n)

names_length : (names : List (List ℕ)) (rows : List RowRead) → length rows ≡ length names → length (kept_names names rows) ≡ length (filter is_kept rows)
names_length [] [] e = refl
names_length [] (r ∷ rs) e = absurd (omega (arith, e))
names_length (n ∷ ns) [] e = absurd (omega (arith, e))
names_length (n ∷ ns) (r ∷ rs) e = go (is_kept r) (names_length ns rs (omega (arith, e)))
  where
    go : (b : Bool) → length (kept_names ns rs) ≡ length (filter is_kept rs) → length (cond b (n ∷ kept_names ns rs) (kept_names ns rs)) ≡ length (cond b (r ∷ filter is_kept rs) (filter is_kept rs))
    go true h = ap suc h
    go false h = h

terms_stand : (n : ℕ) (held : List Held) → held_below n held ≡ true → AllByRecursion (λ t. t.column < n) (terms_from held)
terms_stand n [] e = tt
terms_stand n (h ∷ hs) e =
    let a = and_parts (nat_lt h.column n) (held_below n hs) e in
    go (is_zero_value h.value) (ltb-true h.column n a.0) (terms_stand n hs a.1)
  where
    go : (b : Bool) → h.column < n → AllByRecursion (λ (t : Term). t.column < n) (terms_from hs) → AllByRecursion (λ (t : Term). t.column < n) (cond b [] (record { column = h.column; coefficient = h.value } ∷ []) ++ terms_from hs)
    go true l r = r
    go false l r = (l, r)

rows_stand : (n : ℕ) (rows : List RowRead) → list_all (λ row. held_below n row.held) rows ≡ true → AllByRecursion (λ row. StandsBelow n row.terms) (map finished_row (filter is_kept rows))
rows_stand n [] e = tt
rows_stand n (r ∷ rs) e =
    let a = and_parts (held_below n r.held) (list_all (λ row. held_below n row.held) rs) e in
    go (is_kept r) (All-from_recursion (λ t. t.column < n) (terms_from r.held) (terms_stand n r.held a.0)) (rows_stand n rs a.1)
  where
    go : (b : Bool) → StandsBelow n (terms_from r.held) → AllByRecursion (λ row. StandsBelow n row.terms) (map finished_row (filter is_kept rs)) → AllByRecursion (λ row. StandsBelow n row.terms) (map finished_row (cond b (r ∷ filter is_kept rs) (filter is_kept rs)))
    go true s h = (s, h)
    go false s h = h

pub formed : (s : State) → length s.rows ≡ length s.row_names → length s.columns ≡ length s.column_names → s.row_count ≡ length (filter is_kept s.rows) → s.row_count ≤ most_rows → length s.columns ≤ most_columns
    → list_all (λ row. held_below (length s.column_names) row.held) s.rows ≡ true → IsWellFormed (program_from s)
formed s rows_named columns_named counted few_rows few_columns below =
    let n = length s.column_names in
    let count : length (costs_from s.sense (objective_row s.rows).held 0 n) ≡ n = costs_length s.sense (objective_row s.rows).held 0 n in
    let rows : length (map finished_row (filter is_kept s.rows)) ≡ length (filter is_kept s.rows) = length-map (filter is_kept s.rows) finished_row in
    record {
      column_names = sym count;
      integral = length-map (map settled s.columns) (λ b. b.whole) ∙ length-map s.columns settled ∙ columns_named ∙ sym count;
      bounds = length-map (map settled s.columns) column_sides ∙ length-map s.columns settled ∙ columns_named ∙ sym count;
      row_names = names_length s.row_names s.rows rows_named ∙ sym rows;
      few_columns = subst (λ (m : ℕ). m ≤ most_columns) (columns_named ∙ sym count) few_columns;
      few_rows = subst (λ (m : ℕ). m ≤ most_rows) (counted ∙ sym rows) few_rows;
      rows = subst (λ (m : ℕ). All (λ row. StandsBelow m row.terms) (map finished_row (filter is_kept s.rows))) (sym count)
          (All-from_recursion (λ row. StandsBelow n row.terms) (map finished_row (filter is_kept s.rows)) (rows_stand n s.rows below));
      choices = choices_formed (map settled s.columns);
    }

-- ---- the program of its parts

map_twice : {X Y Z : Type 0} (f : Y → Z) (g : X → Y) (xs : List X) → map (λ x. f (g x)) xs ≡ map f (map g xs)
map_twice f g [] = refl
map_twice f g (x ∷ xs) = ap (λ ys. f (g x) ∷ ys) (map_twice f g xs)

choices_made : (columns : List Bounded) → cond (list_any (λ (b : Bounded). is_semi (settled b)) columns) (map (λ (b : Bounded). choice_of (settled b)) columns) [] ≡ choices_of (map settled columns)
choices_made columns =
    let any = sym (list_any_map is_semi settled columns) in
    let each = map_twice choice_of settled columns in
    λ i. cond (any i) (each i) []

pub same_program : (s : State) (column_names row_names : List (List ℕ)) (rows : List Row) (costs : List ℚ) (constant : ℚ) (maximized : Bool) (integral : List Bool) (bounds : List Sides) (choices : List Choice)
    → column_names ≡ s.column_names → row_names ≡ kept_names s.row_names s.rows → rows ≡ map finished_row (filter is_kept s.rows)
    → costs ≡ costs_from s.sense (objective_row s.rows).held 0 (length s.column_names)
    → constant ≡ minimized_by s.sense (negate (right_side_of (objective_row s.rows))) → maximized ≡ unwrap_or s.sense false
    → integral ≡ map (λ (b : Bounded). (settled b).whole) s.columns → bounds ≡ map (λ (b : Bounded). column_sides (settled b)) s.columns
    → choices ≡ cond (list_any (λ (b : Bounded). is_semi (settled b)) s.columns) (map (λ (b : Bounded). choice_of (settled b)) s.columns) []
    → ◌≡◌ {A = Program} (record { column_names = column_names; row_names = row_names; rows = rows; costs = costs; constant = constant; maximized = maximized; integral = integral; bounds = bounds; choices = choices }) (program_from s)
same_program s column_names row_names rows costs constant maximized integral bounds choices a b c d e f g h k =
    let whole : integral ≡ map (λ (b : Bounded). b.whole) (map settled s.columns) = g ∙ map_twice (λ (b : Bounded). b.whole) settled s.columns in
    let sides : bounds ≡ map column_sides (map settled s.columns) = h ∙ map_twice column_sides settled s.columns in
    let open_ : choices ≡ choices_of (map settled s.columns) = k ∙ choices_made s.columns in
    λ i. record { column_names = a i; row_names = b i; rows = c i; costs = d i; constant = e i; maximized = f i; integral = whole i; bounds = sides i; choices = open_ i }

-- the first row of type N
pub first_free : (rows : List RowRead) (k : ℕ) → k < length rows → is_free (slice_index_or rows k no_row).kind ≡ true → objective_row (drop k rows) ≡ slice_index_or rows k no_row
first_free [] k l e = absurd (omega (arith, l))
first_free (r ∷ rs) zero l e = ap (λ b. cond b r (objective_row rs)) e
first_free (r ∷ rs) (suc k) l e = first_free rs k (omega (arith, l)) e
