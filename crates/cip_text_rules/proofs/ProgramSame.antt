-- The program of a state is the program of the facts.
use Rattle.std.proofs.Common.{◌≡◌, ℕ, ◌+◌, ◌==◌, Bool, true, false, not, cond, ◌&&◌, ◌||◌, List, [], ◌∷◌, ◌++◌, length, map, Option, None, Some, refl, sym, ap, subst, ◌∙◌}
use Rattle.std.specs.Prelude.{unwrap_or}
use Rattle.std.specs.Str.{bytes_eq}
use Rattle.std.specs.Option.{option_map}
use Rattle.std.specs.List.{AllByRecursion, filter, list_any}
use Rattle.std.proofs.lemmas.List.{append-nil, append_assoc, map-append, length-append}
use Rattle.std.proofs.lemmas.Bool.{eq-eqb, eqb-true, false_from_ne_true, cond-true, cond-false}
use Rattle.cip_rational.specs.Rational.{ℚ, negate}
use Rattle.cip_problem.specs.Program.{Term, Program}
use Rattle.cip_rational.specs.Numeral.{Numeral}
use Rattle.cip_text_rules.specs.MpsWords.{RowKind, next, is_in, number_in}
use Rattle.cip_text_rules.specs.MpsSayings.{LinePlace}
use Rattle.cip_text_rules.specs.MpsFacts.{GivenRow, GivenColumn, Coefficient, Facts, row_names, names_of, column_names}
use Rattle.cip_text_rules.specs.MpsBounds.{settled, bounds_so_far, all_bounds, column_sides, choices_of}
use Rattle.cip_text_rules.specs.MpsProgram.{number, number_or_zero, first_value, number_at, coefficient, is_free, has_sides, term_on, terms_of, ranged, sides_of, right_side, row_sides, row_with, row_of, first_or, objective, minimized, cost_of_column, program_of}
use Rattle.cip_text_rules.specs.MpsRules.{kinds_of}
use Rattle.cip_text_rules.proofs.Quiet.{left_false, right_false}
use Rattle.cip_text_rules.proofs.MpsNames.{bytes_same, bytes_other, bytes_flip, bytes_self, number_same}
use Rattle.cip_text_rules.specs.MpsState.{Held, held_on, held_of, value_for, row_read, first_of, state_of, is_zero_value, sides_with, right_side_of, terms_from, finished_row, is_kept, kept_names, objective_row, held_value, minimized_by, costs_from, program_from}
use Rattle.cip_text_rules.proofs.Told.{IsTold, is_zero_is, absolute_is}
use Rattle.cip_text_rules.proofs.LookUps.{AreApart, is_in-cons, is_in-append, none_number}
use Rattle.cip_text_rules.proofs.Good.{Good, IsKnown}
use Rattle.cip_text_rules.proofs.TestsSame.{number_or_zero_is, moves_low_is, told_is_near, map_twice, first_holds}

-- ---- terms

pub terms_from-append : (xs ys : List Held) → terms_from (xs ++ ys) ≡ terms_from xs ++ terms_from ys
terms_from-append [] ys = refl
terms_from-append (x ∷ xs) ys =
    ap (λ ts. cond (is_zero_value x.value) [] (record { column = x.column; coefficient = x.value } ∷ []) ++ ts) (terms_from-append xs ys)
    ∙ sym (append_assoc (cond (is_zero_value x.value) [] (record { column = x.column; coefficient = x.value } ∷ [])) (terms_from xs) (terms_from ys))

term_same : (o : Option ℕ) (numeral : Numeral) → IsTold numeral → terms_from (held_on o (number numeral)) ≡ term_on o numeral
term_same None numeral t = refl
term_same (Some k) numeral t =
    append-nil (cond (is_zero_value (number numeral)) [] (record { column = k; coefficient = number numeral } ∷ []))
    ∙ ap (λ b. cond b [] (record { column = k; coefficient = number numeral } ∷ [])) (sym (is_zero_is numeral t))

terms_same : (columns : List (List ℕ)) (entries : List Coefficient) (row : List ℕ) → AllByRecursion (λ entry. IsTold entry.number) entries → terms_from (held_of columns entries row) ≡ terms_of columns entries row
terms_same columns [] row h = refl
terms_same columns (x ∷ xs) row h =
    terms_from-append (cond (bytes_eq row x.row) (held_on (number_in columns x.column) (number x.number)) []) (held_of columns xs row)
    ∙ both (go (bytes_eq row x.row)) (terms_same columns xs row h.1)
  where
    both : {a b c d : List Term} → a ≡ b → c ≡ d → a ++ c ≡ b ++ d
    both p q = λ i. p i ++ q i

    go : (b : Bool) → terms_from (cond b (held_on (number_in columns x.column) (number x.number)) []) ≡ cond b (term_on (number_in columns x.column) x.number) []
    go true = term_same (number_in columns x.column) x.number h.0
    go false = refl

-- ---- sides

range_same : (kind : RowKind) (r : ℚ) (range : Option Numeral) → ((numeral : Numeral) → range ≡ Some numeral → IsTold numeral) → sides_with kind r (option_map number range) ≡ sides_of kind r range
range_same kind r None n = refl
range_same kind r (Some range) n =
    let near = told_is_near range (n range refl) in
    let e = moves_low_is kind range near in
    let d = absolute_is range near.0 near.1 in
    λ i. ranged ((sym e) i) r ((sym d) i)

sides_same : (facts : Facts) (row : GivenRow) → Good facts → sides_with row.kind (right_side_of (row_read facts row)) (value_for facts.ranges row.name) ≡ row_sides facts row
sides_same facts row g =
    ap (λ r. sides_with row.kind r (value_for facts.ranges row.name)) (sym (number_or_zero_is (first_value facts.right_sides row.name)))
    ∙ range_same row.kind (right_side facts.right_sides row.name) (first_value facts.ranges row.name)
    (λ numeral e. first_holds IsTold facts.ranges row.name numeral g.ranges_told e)

row_same : (facts : Facts) (row : GivenRow) → Good facts → finished_row (row_read facts row) ≡ row_of facts row
row_same facts row g =
    let t = terms_same (column_names facts) facts.coefficients row.name g.entries_told in
    let s = sides_same facts row g in
    λ i. row_with (t i) (s i)

rows_same : (facts : Facts) (rows : List GivenRow) → Good facts → map finished_row (filter is_kept (map (row_read facts) rows)) ≡ map (row_of facts) (filter has_sides rows)
rows_same facts [] g = refl
rows_same facts (r ∷ rs) g = go (is_free r.kind) (rows_same facts rs g)
  where
    go : (b : Bool) → map finished_row (filter is_kept (map (row_read facts) rs)) ≡ map (row_of facts) (filter has_sides rs)
        → map finished_row (cond (not b) (row_read facts r ∷ filter is_kept (map (row_read facts) rs)) (filter is_kept (map (row_read facts) rs))) ≡ map (row_of facts) (cond (not b) (r ∷ filter has_sides rs) (filter has_sides rs))
    go true h = h
    go false h = let e = row_same facts r g in λ i. e i ∷ h i

names_same : (facts : Facts) (rows : List GivenRow) → kept_names (map (λ row. row.name) rows) (map (row_read facts) rows) ≡ map (λ row. row.name) (filter has_sides rows)
names_same facts [] = refl
names_same facts (r ∷ rs) = go (is_free r.kind) (names_same facts rs)
  where
    go : (b : Bool) → kept_names (map (λ row. row.name) rs) (map (row_read facts) rs) ≡ map (λ row. row.name) (filter has_sides rs)
        → cond (not b) (r.name ∷ kept_names (map (λ row. row.name) rs) (map (row_read facts) rs)) (kept_names (map (λ row. row.name) rs) (map (row_read facts) rs)) ≡ map (λ row. row.name) (cond (not b) (r ∷ filter has_sides rs) (filter has_sides rs))
    go true h = h
    go false h = ap (λ ns. r.name ∷ ns) h

-- ---- the objective

record HasObjective (facts : Facts) (rows : List GivenRow) : Type 0 where
  row : GivenRow
  is_row : objective_row (map (row_read facts) rows) ≡ row_read facts row
  is_name : first_or [] (map (λ r. r.name) (filter (λ r. is_free r.kind) rows)) ≡ row.name

has_objective : (facts : Facts) (rows : List GivenRow) → list_any is_free (map (λ row. row.kind) rows) ≡ true → HasObjective facts rows
has_objective facts [] e = absurd (cc)
has_objective facts (r ∷ rs) e = go (is_free r.kind) refl e (has_objective facts rs)
  where
    go : (b : Bool) → is_free r.kind ≡ b → (b || list_any is_free (map (λ row. row.kind) rs)) ≡ true → (list_any is_free (map (λ row. row.kind) rs) ≡ true → HasObjective facts rs) → HasObjective facts (r ∷ rs)
    go true p e h = record {
      row = r;
      is_row = cond-true (is_free r.kind) (row_read facts r) (objective_row (map (row_read facts) rs)) p;
      is_name = ap (λ b. first_or [] (map (λ x. x.name) (cond b (r ∷ filter (λ x. is_free x.kind) rs) (filter (λ x. is_free x.kind) rs)))) p;
    }
    go false p e h =
        let o = h e in
        record {
          row = o.row;
          is_row = cond-false (is_free r.kind) (row_read facts r) (objective_row (map (row_read facts) rs)) p ∙ o.is_row;
          is_name = ap (λ b. first_or [] (map (λ x. x.name) (cond b (r ∷ filter (λ x. is_free x.kind) rs) (filter (λ x. is_free x.kind) rs)))) p ∙ o.is_name;
        }

-- ---- costs

value_at : (rows columns : List (List ℕ)) (entries : List Coefficient) (row column : List ℕ) (k : ℕ) → AllByRecursion (IsKnown rows columns) entries → number_in columns column ≡ Some k → held_value (held_of columns entries row) k ≡ number_or_zero (number_at entries row column)
value_at rows columns [] row column k h e = refl
value_at rows columns (x ∷ xs) row column k h e = go (bytes_eq row x.row) (number_in columns x.column) refl (bytes_eq column x.column) refl (value_at rows columns xs row column k h.1 e)
  where
    go : (a : Bool) (o : Option ℕ) → number_in columns x.column ≡ o → (b : Bool) → bytes_eq column x.column ≡ b → held_value (held_of columns xs row) k ≡ number_or_zero (number_at xs row column)
        → held_value (cond a (held_on o (number x.number)) [] ++ held_of columns xs row) k ≡ number_or_zero (cond (a && b) (Some x.number) (number_at xs row column))
    go false o p b q r = r
    go true None p b q r = let u : is_in columns x.column ≡ false = none_number columns x.column p in let v : is_in columns x.column ≡ true = h.0.column in absurd (cc)
    go true (Some j) p true q r =
        let d : Some j ≡ Some k = sym p ∙ ap (number_in columns) (sym (bytes_same column x.column q)) ∙ e in
        let m : j ≡ k = cc in
        cond-true (j == k) (number x.number) (held_value (held_of columns xs row) k) (eq-eqb j k m)
    go true (Some j) p false q r =
        cond-false (j == k) (number x.number) (held_value (held_of columns xs row) k)
        (false_from_ne_true (j == k) (λ t. bytes_other column x.column q (number_same columns column x.column k e (p ∙ ap Some (eqb-true j k t))))) ∙ r

-- the name at a place of names that are apart has that number
number_at_place : (done : List (List ℕ)) (name : List ℕ) (rest : List (List ℕ)) → AreApart (done ++ name ∷ rest) → number_in (done ++ name ∷ rest) name ≡ Some (length done)
number_at_place [] name rest h = ap (λ b. cond b (Some 0) (next (number_in rest name))) (bytes_self name)
number_at_place (x ∷ xs) name rest h =
    ap (λ b. cond b (Some 0) (next (number_in (xs ++ name ∷ rest) name))) (bytes_flip name x ∙ not_here)
    ∙ ap next (number_at_place xs name rest h.1)
  where
    split : (ys zs : List (List ℕ)) → is_in (ys ++ name ∷ zs) x ≡ false → bytes_eq x name ≡ false
    split ys zs e = left_false _ (is_in zs x) (sym (is_in-cons name zs x) ∙ right_false (is_in ys x) _ (sym (is_in-append ys (name ∷ zs) x) ∙ e))

    not_here : bytes_eq x name ≡ false
    not_here = split xs rest h.0

sense_same : (senses : List Bool) → unwrap_or (first_of senses) false ≡ first_or false senses
sense_same [] = refl
sense_same (x ∷ xs) = refl

minimized_same : (facts : Facts) (cost : ℚ) → minimized_by (first_of facts.senses) cost ≡ minimized facts cost
minimized_same facts cost = ap (λ b. cond b (negate cost) cost) (sense_same facts.senses)

costs_same : (facts : Facts) (row : GivenRow) → objective facts ≡ row.name → Good facts → (done rest : List GivenColumn) → facts.columns ≡ done ++ rest
    → costs_from (first_of facts.senses) (held_of (column_names facts) facts.coefficients row.name) (length (names_of done)) (length (names_of rest)) ≡ map (cost_of_column facts) rest
costs_same facts row o g done [] e = refl
costs_same facts row o g done (c ∷ rest) e =
    let names : column_names facts ≡ names_of done ++ c.name ∷ names_of rest = ap names_of e ∙ map-append (λ x. x.name) done (c ∷ rest) in
    let at : number_in (column_names facts) c.name ≡ Some (length (names_of done)) =
    ap (λ ns. number_in ns c.name) names ∙ number_at_place (names_of done) c.name (names_of rest) (subst AreApart names g.columns_apart) in
    let here : minimized_by (first_of facts.senses) (held_value (held_of (column_names facts) facts.coefficients row.name) (length (names_of done))) ≡ cost_of_column facts c =
    ap (minimized_by (first_of facts.senses)) (value_at (row_names facts) (column_names facts) facts.coefficients row.name c.name (length (names_of done)) g.entries_known at ∙ ap (λ n. coefficient facts n c.name) (sym o))
    ∙ minimized_same facts (coefficient facts (objective facts) c.name) in
    let l : length (names_of (done ++ c ∷ [])) ≡ length (names_of done) + 1 = ap length (map-append (λ x. x.name) done (c ∷ [])) ∙ length-append (names_of done) (c.name ∷ []) in
    let later : costs_from (first_of facts.senses) (held_of (column_names facts) facts.coefficients row.name) (length (names_of done) + 1) (length (names_of rest)) ≡ map (cost_of_column facts) rest =
    ap (λ n. costs_from (first_of facts.senses) (held_of (column_names facts) facts.coefficients row.name) n (length (names_of rest))) (sym l)
    ∙ costs_same facts row o g (done ++ c ∷ []) rest (e ∙ sym (append_assoc done (c ∷ []) rest)) in
    λ i. here i ∷ later i

-- ---- the program

same_program : (p q : Program) → p.column_names ≡ q.column_names → p.row_names ≡ q.row_names → p.rows ≡ q.rows → p.costs ≡ q.costs → p.constant ≡ q.constant → p.maximized ≡ q.maximized → p.integral ≡ q.integral → p.bounds ≡ q.bounds → p.choices ≡ q.choices → p ≡ q
same_program p q a b c d e f g h k = λ i. record {
  column_names = a i;
  row_names = b i;
  rows = c i;
  costs = d i;
  constant = e i;
  maximized = f i;
  integral = g i;
  bounds = h i;
  choices = k i;
}

pub program_is : (place : LinePlace) (facts : Facts) → Good facts → list_any is_free (kinds_of facts) ≡ true → program_from (state_of place facts) ≡ program_of facts
program_is place facts g free =
    let o = has_objective facts facts.rows free in
    let held = ap (λ r. r.held) o.is_row in
    let right = ap right_side_of o.is_row ∙ sym (number_or_zero_is (first_value facts.right_sides o.row.name)) ∙ ap (right_side facts.right_sides) (sym o.is_name) in
    let bounds : map settled (map (bounds_so_far facts) facts.columns) ≡ all_bounds facts = map_twice settled (bounds_so_far facts) facts.columns in
    same_program (program_from (state_of place facts)) (program_of facts) refl (names_same facts facts.rows) (rows_same facts facts.rows g)
    (ap (λ hs. costs_from (first_of facts.senses) hs 0 (length (column_names facts))) held ∙ costs_same facts o.row o.is_name g [] facts.columns refl)
    (ap (λ r. minimized_by (first_of facts.senses) (negate r)) right ∙ minimized_same facts (negate (right_side facts.right_sides (objective facts))))
    (sense_same facts.senses) (ap (map (λ b. b.whole)) bounds) (ap (map column_sides) bounds) (ap choices_of bounds)
