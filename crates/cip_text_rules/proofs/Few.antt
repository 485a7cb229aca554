-- The program of lines that break no rule is well-formed.
use Rattle.std.proofs.Common.{◌≡◌, ℕ, suc, ◌+◌, ◌<◌, ◌≤◌, Bool, true, false, cond, not, ◌&&◌, List, [], ◌∷◌, ◌++◌, length, Option, None, Some, refl, sym, ap, subst, ◌∙◌, arith, lit≤}
use Rattle.std.specs.Prelude.{nat_le}
use Rattle.std.specs.Str.{bytes_eq}
use Rattle.std.proofs.Common.{get_or}
use Rattle.std.specs.List.{filter}
use Rattle.std.proofs.lemmas.List.{length-map, length-append, append-nil}
use Rattle.std.proofs.lemmas.List.Elements.{All-nil, All-cons, All-append, All-map}
use Rattle.std.proofs.lemmas.Bool.{leb-false}
use Rattle.cip_text_rules.specs.Limits.{most_rows, most_columns}
use Rattle.cip_text_rules.specs.Activity.{StandsBelow}
use Rattle.cip_text_rules.specs.Program.{Program}
use Rattle.cip_text_rules.specs.WellFormed.{columns, IsWellFormed}
use Rattle.cip_text_rules.specs.Lines.{Record}
use Rattle.cip_rational.specs.Numeral.{Numeral}
use Rattle.cip_text_rules.specs.MpsWords.{is_in, number_in, is_zero}
use Rattle.cip_text_rules.specs.MpsSayings.{Saying, RowLine, ColumnLine}
use Rattle.cip_text_rules.specs.MpsFacts.{GivenRow, Coefficient, Facts, facts_with, column_names, names_of}
use Rattle.cip_text_rules.specs.MpsBounds.{bounds_of, all_bounds, column_sides}
use Rattle.cip_text_rules.specs.MpsProgram.{number, is_free, has_sides, constraints, term_on, terms_of, row_of, cost_of_column, program_of}
use Rattle.cip_text_rules.specs.MpsRules.{is_row_too_many, is_entry_too_many, entry_count}
use Rattle.cip_text_rules.specs.MpsOutcome.{Context, said_in, HasProgram}
use Rattle.cip_text_rules.proofs.Quiet.{Keeps, left_false, right_false}
use Rattle.cip_text_rules.proofs.Outcomes.{of_program}
use Rattle.cip_text_rules.proofs.MpsNames.{number_below}
use Rattle.cip_text_rules.proofs.SemiColumns.{choices_formed}

-- ---- the limits

pub one_more : (b : Bool) (n most : ℕ) → n ≤ most → (b && nat_le most n) ≡ false → cond b (n + 1) n ≤ most
one_more true n most h e = let k : n < most = leb-false most n e in omega arith
one_more false n most h e = h

count_push : {X : Type 0} (p : X → Bool) (xs : List X) (y : X) → length (filter p (xs ++ y ∷ [])) ≡ cond (p y) (length (filter p xs) + 1) (length (filter p xs))
count_push p [] y = go (p y)
  where
    go : (b : Bool) → length (cond b (y ∷ []) []) ≡ cond b (0 + 1) 0
    go true = refl
    go false = refl
count_push p (x ∷ xs) y = go (p x) (p y) (count_push p xs y)
  where
    go : (a b : Bool) → length (filter p (xs ++ y ∷ [])) ≡ cond b (length (filter p xs) + 1) (length (filter p xs)) → length (cond a (x ∷ filter p (xs ++ y ∷ [])) (filter p (xs ++ y ∷ []))) ≡ cond b (length (cond a (x ∷ filter p xs) (filter p xs)) + 1) (length (cond a (x ∷ filter p xs) (filter p xs)))
    go false b h = h
    go true true h = omega (arith, h)
    go true false h = ap suc h

few_rows : (facts : Facts) (now : Saying) → Keeps facts now → length (constraints facts) ≤ most_rows → length (constraints (facts_with facts now)) ≤ most_rows
few_rows facts (RowLine (Some kind) name) k h =
    subst (λ (n : ℕ). n ≤ most_rows) (sym (count_push has_sides facts.rows (record { kind = kind; name = name })))
    (one_more (not (is_free kind)) (length (constraints facts)) most_rows h (left_false _ _ k.not_many))
few_rows facts other k h = subst (λ (rows : List GivenRow). length (filter has_sides rows) ≤ most_rows) (sym (append-nil facts.rows)) h

few_columns : (facts : Facts) (now : Saying) → Keeps facts now → length (column_names facts) ≤ most_columns → length (column_names (facts_with facts now)) ≤ most_columns
few_columns facts (ColumnLine column whole values) k h =
    go (is_in (column_names facts) column)
    (left_false _ (is_entry_too_many (entry_count facts.coefficients) now)
    (right_false (is_row_too_many (length (constraints facts)) now) _ k.not_many))
  where
    now : Saying
    now = ColumnLine column whole values

    go : (b : Bool) → (not b && nat_le most_columns (length (column_names facts))) ≡ false → length (names_of (cond b facts.columns (facts.columns ++ record { name = column; whole = whole } ∷ []))) ≤ most_columns
    go true e = h
    go false e =
        let m : length (column_names facts) < most_columns = leb-false most_columns (length (column_names facts)) e in
        let l = length-append facts.columns (record { name = column; whole = whole } ∷ []) in
        let n = length-map (facts.columns ++ record { name = column; whole = whole } ∷ []) (λ c. c.name) in
        let o = length-map facts.columns (λ c. c.name) in
        omega (arith, l, n, o)
few_columns facts other k h = h

-- ---- the rows

term_below : (o : Option ℕ) (n : ℕ) → ((k : ℕ) → o ≡ Some k → k < n) → (numeral : Numeral) → StandsBelow n (term_on o numeral)
term_below None n h numeral = All-nil (λ t. t.column < n)
term_below (Some column) n h numeral = go (is_zero numeral)
  where
    go : (b : Bool) → StandsBelow n (cond b [] (record { column = column; coefficient = number numeral } ∷ []))
    go true = All-nil (λ t. t.column < n)
    go false = All-cons (λ t. t.column < n) _ [] (h column refl) (All-nil (λ t. t.column < n))

pub terms_below : (names : List (List ℕ)) (n : ℕ) → length names ≡ n → (entries : List Coefficient) (row : List ℕ) → StandsBelow n (terms_of names entries row)
terms_below names n e [] row = All-nil (λ t. t.column < n)
terms_below names n e (entry ∷ entries) row =
    All-append (λ t. t.column < n) _ (terms_of names entries row) (go (bytes_eq row entry.row)) (terms_below names n e entries row)
  where
    go : (b : Bool) → StandsBelow n (cond b (term_on (number_in names entry.column) entry.number) [])
    go true =
        term_below (number_in names entry.column) n
        (λ k f. subst (λ (m : ℕ). k < m) e (number_below names entry.column k f)) entry.number
    go false = All-nil (λ t. t.column < n)

-- ---- the program

-- there are few rows and columns
record IsFew (facts : Facts) : Type 0 where
  rows : length (constraints facts) ≤ most_rows
  columns : length (column_names facts) ≤ most_columns

few_with : (context : Context) (content : Record) → Keeps context.facts (said_in context content) → IsFew context.facts → IsFew (facts_with context.facts (said_in context content))
few_with context content k h = record {
  rows = few_rows context.facts (said_in context content) k h.rows;
  columns = few_columns context.facts (said_in context content) k h.columns;
}

pub well_formed : (facts : Facts) → length (constraints facts) ≤ most_rows → length (column_names facts) ≤ most_columns → IsWellFormed (program_of facts)
well_formed facts rows cols =
    let costs = length-map facts.columns (cost_of_column facts) in
    let names = length-map facts.columns (λ column. column.name) in
    let all = length-map facts.columns (bounds_of facts) in
    let wholes = length-map (all_bounds facts) (λ b. b.whole) ∙ all in
    let sides = length-map (all_bounds facts) column_sides ∙ all in
    let row_names = length-map (constraints facts) (λ row. row.name) in
    let made = length-map (constraints facts) (row_of facts) in
    record {
      column_names = names ∙ sym costs;
      integral = wholes ∙ sym costs;
      bounds = sides ∙ sym costs;
      row_names = row_names ∙ sym made;
      few_columns = subst (λ (n : ℕ). n ≤ most_columns) (names ∙ sym costs) cols;
      few_rows = subst (λ (n : ℕ). n ≤ most_rows) (sym made) rows;
      rows = All-map (λ row. StandsBelow (columns (program_of facts)) row.terms) (row_of facts) (constraints facts)
          (λ i d l. terms_below (column_names facts) (columns (program_of facts)) (names ∙ sym costs) facts.coefficients (get_or (constraints facts) i d).name);
      choices = choices_formed (all_bounds facts);
    }

pub texts_fit : (text : List ℕ) (program : Program) → HasProgram text program → IsWellFormed program
texts_fit = of_program IsFew few_with (record { rows = lit≤ tt; columns = lit≤ tt }) IsWellFormed (λ facts few. well_formed facts few.rows few.columns)
