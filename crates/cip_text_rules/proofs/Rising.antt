-- The numbers of a row stand by rising column, and so do its terms.
use Rattle.std.proofs.Common.{◌≡◌, ◌≢◌, ℕ, zero, suc, ◌+◌, ◌<◌, ◌≤◌, Bool, true, false, cond, ◌&&◌, List, [], ◌∷◌, ◌++◌, length, map, Option, None, Some, refl, sym, ap, subst, ◌∙◌, arith}
use Rattle.std.specs.Prelude.{All, ⊤, slice_index_or}
use Rattle.std.specs.Str.{bytes_eq}
use Rattle.std.specs.List.{AllByRecursion}
use Rattle.std.proofs.lemmas.List.{append-nil}
use Rattle.std.proofs.lemmas.List.Elements.{All-map}
use Rattle.std.proofs.lemmas.Bool.{ltb-false}
use Rattle.cip_rational.specs.Rational.{zeroℚ}
use Rattle.cip_problem.specs.Program.{Term, Program}
use Rattle.cip_problem.specs.RowTerms.{AreTerms, no_term, column_at}
use Rattle.cip_text_rules.specs.Lines.{Record}
use Rattle.cip_rational.specs.Numeral.{Numeral}
use Rattle.cip_text_rules.specs.MpsWords.{is_in, number_in, is_zero}
use Rattle.cip_text_rules.specs.MpsSayings.{Value, Saying, ColumnLine}
use Rattle.cip_text_rules.specs.MpsFacts.{GivenColumn, Coefficient, Facts, facts_with, names_of, column_names, with_columns}
use Rattle.cip_text_rules.specs.MpsProgram.{number, term_on, terms_of, row_of, constraints, program_of}
use Rattle.cip_text_rules.specs.MpsRules.{has_coefficient, is_before_last}
use Rattle.cip_text_rules.specs.MpsOutcome.{Context, said_in, HasProgram}
use Rattle.cip_text_rules.specs.MpsStatements.{NameOnce}
use Rattle.cip_text_rules.proofs.Quiet.{Keeps, left_false, right_false}
use Rattle.cip_text_rules.proofs.Outcomes.{of_program}
use Rattle.cip_text_rules.proofs.Coefficients.{once_with}
use Rattle.cip_text_rules.proofs.MpsNames.{bytes_same, same_bytes, number_below, number_same}
use Rattle.cip_text_rules.specs.MpsState.{is_zero_value}
use Rattle.cip_text_rules.proofs.Told.{IsTold, is_zero_is, zero_is_zero, said_sound}
use Rattle.cip_text_rules.proofs.LookUps.{number_in-left, number_in-push}
use Rattle.cip_text_rules.proofs.LineBytes.{all_append}
use Rattle.cip_text_rules.proofs.Good.{Good, IsKnown, good_first, good_with, column_names_push}

-- ---- numbers of columns that don't fall

-- the column of one number isn't behind that of another
abbrev NotBehind : List (List ℕ) → Coefficient → Coefficient → Type 0
NotBehind columns x y = (j k : ℕ) → number_in columns x.column ≡ Some j → number_in columns y.column ≡ Some k → j ≤ k

abbrev Rise : List (List ℕ) → List Coefficient → Type 0
Rise columns [] = ⊤
Rise columns (x ∷ xs) = AllByRecursion (NotBehind columns x) xs × Rise columns xs

rise_append : (columns : List (List ℕ)) (xs ys : List Coefficient) → Rise columns xs → Rise columns ys → AllByRecursion (λ x. AllByRecursion (NotBehind columns x) ys) xs → Rise columns (xs ++ ys)
rise_append columns [] ys h k a = k
rise_append columns (x ∷ xs) ys h k a = (all_append (NotBehind columns x) xs ys h.0 a.0, rise_append columns xs ys h.1 k a.1)

-- numbers of one line
abbrev pub entry_of : List ℕ → Value → Coefficient
entry_of column value = record { column = column; row = value.row; number = value.number }

same_column : (columns : List (List ℕ)) (x : Coefficient) (column : List ℕ) (values : List Value) → ((k : ℕ) → number_in columns column ≡ Some k → (j : ℕ) → number_in columns x.column ≡ Some j → j ≤ k) → AllByRecursion (NotBehind columns x) (map (entry_of column) values)
same_column columns x column [] h = tt
same_column columns x column (v ∷ vs) h = (λ j k e d. h k d j e, same_column columns x column vs h)

line_rise : (columns : List (List ℕ)) (column : List ℕ) (values : List Value) → Rise columns (map (entry_of column) values)
line_rise columns column [] = tt
line_rise columns column (v ∷ vs) = (
  same_column columns (entry_of column v) column vs (λ k d j e. let p : Some k ≡ Some j = sym d ∙ e in let q : k ≡ j = cc in omega (arith, q)),
  line_rise columns column vs,
)

-- the numbers of columns that were given stay
known_stays : (columns : List GivenColumn) (c : GivenColumn) (name : List ℕ) → is_in (names_of columns) name ≡ true → number_in (names_of (with_columns columns (c ∷ []))) name ≡ number_in (names_of columns) name
known_stays columns c name h = go (is_in (names_of columns) c.name)
  where
    go : (b : Bool) → number_in (names_of (cond b columns (columns ++ c ∷ []))) name ≡ number_in (names_of columns) name
    go true = refl
    go false = ap (λ names. number_in names name) (column_names_push columns c) ∙ number_in-left (names_of columns) (c.name ∷ []) name h

rise_stays : (rows : List (List ℕ)) (columns : List GivenColumn) (c : GivenColumn) (xs : List Coefficient) → AllByRecursion (IsKnown rows (names_of columns)) xs → Rise (names_of columns) xs → Rise (names_of (with_columns columns (c ∷ []))) xs
rise_stays rows columns c [] known h = tt
rise_stays rows columns c (x ∷ xs) known h = (others xs known.1 h.0, rise_stays rows columns c xs known.1 h.1)
  where
    others : (ys : List Coefficient) → AllByRecursion (IsKnown rows (names_of columns)) ys → AllByRecursion (NotBehind (names_of columns) x) ys → AllByRecursion (NotBehind (names_of (with_columns columns (c ∷ []))) x) ys
    others [] k a = tt
    others (y ∷ ys) k a = (λ i j e d. a.0 i j (sym (known_stays columns c x.column known.0.column) ∙ e) (sym (known_stays columns c y.column k.0.column) ∙ d), others ys k.1 a.1)

-- the column of a line without fault is the last one
last_column : (columns : List GivenColumn) (c : GivenColumn) → is_before_last (number_in (names_of columns) c.name) (length (names_of columns)) ≡ false → (k : ℕ) → number_in (names_of (with_columns columns (c ∷ []))) c.name ≡ Some k → (j : ℕ) → j < length (names_of columns) → j ≤ k
last_column columns c h k e j l = go (is_in (names_of columns) c.name) refl e
  where
    old : (o : Option ℕ) → number_in (names_of columns) c.name ≡ o → o ≡ Some k → is_before_last o (length (names_of columns)) ≡ false → j ≤ k
    old None p q r = absurd (cc)
    old (Some i) p q r = let s : i ≡ k = cc in let t : length (names_of columns) ≤ i + 1 = ltb-false (i + 1) (length (names_of columns)) r in omega (arith, s, t, l)

    go : (b : Bool) → is_in (names_of columns) c.name ≡ b → number_in (names_of (cond b columns (columns ++ c ∷ []))) c.name ≡ Some k → j ≤ k
    go true p q = old (number_in (names_of columns) c.name) refl q h
    go false p q =
        let t : Some (length (names_of columns)) ≡ Some k = sym (ap (λ names. number_in names c.name) (column_names_push columns c) ∙ number_in-push (names_of columns) c.name p) ∙ q in
        let s : length (names_of columns) ≡ k = cc in omega (arith, s, l)

before_new : (rows : List (List ℕ)) (columns : List GivenColumn) (c : GivenColumn) (values : List Value) (xs : List Coefficient) → is_before_last (number_in (names_of columns) c.name) (length (names_of columns)) ≡ false → AllByRecursion (IsKnown rows (names_of columns)) xs → AllByRecursion (λ x. AllByRecursion (NotBehind (names_of (with_columns columns (c ∷ []))) x) (map (entry_of c.name) values)) xs
before_new rows columns c values [] h known = tt
before_new rows columns c values (x ∷ xs) h known = (
  same_column (names_of (with_columns columns (c ∷ []))) x c.name values
      (λ k d j e. last_column columns c h k d j (number_below (names_of columns) x.column j (sym (known_stays columns c x.column known.0.column) ∙ e))),
  before_new rows columns c values xs h known.1,
)

pub rise_with : (facts : Facts) (now : Saying) → Keeps facts now → Good facts → Rise (column_names facts) facts.coefficients → Rise (column_names (facts_with facts now)) (facts_with facts now).coefficients
rise_with facts (ColumnLine column whole values) k g h =
    rise_append (names_of (with_columns facts.columns (c ∷ []))) facts.coefficients (map (entry_of column) values)
    (rise_stays _ facts.columns c facts.coefficients g.entries_known h)
    (line_rise (names_of (with_columns facts.columns (c ∷ []))) column values)
    (before_new _ facts.columns c values facts.coefficients k.together g.entries_known)
  where
    c : GivenColumn
    c = record { name = column; whole = whole }
rise_with facts other k g h = subst (Rise (column_names facts)) (sym (append-nil facts.coefficients)) h

-- ---- terms

abbrev Above : ℕ → List Term → Type 0
Above j terms = AllByRecursion (λ t. j < t.column) terms

abbrev RisingTerms : List Term → Type 0
RisingTerms [] = ⊤
RisingTerms (t ∷ ts) = Above t.column ts × RisingTerms ts

term_above : (j : ℕ) (o : Option ℕ) (numeral : Numeral) → ((k : ℕ) → o ≡ Some k → j < k) → Above j (term_on o numeral)
term_above j None numeral h = tt
term_above j (Some k) numeral h = go (is_zero numeral)
  where
    go : (b : Bool) → Above j (cond b [] (record { column = k; coefficient = number numeral } ∷ []))
    go true = tt
    go false = (h k refl, tt)

pub all_above : (columns : List (List ℕ)) (x : Coefficient) (j : ℕ) (row : List ℕ) (xs : List Coefficient) → number_in columns x.column ≡ Some j → row ≡ x.row → AllByRecursion (NotBehind columns x) xs → has_coefficient xs x.column x.row ≡ false → Above j (terms_of columns xs row)
all_above columns x j row [] e d a n = tt
all_above columns x j row (y ∷ ys) e d a n =
    all_append (λ t. j < t.column) (cond (bytes_eq row y.row) (term_on (number_in columns y.column) y.number) []) (terms_of columns ys row)
    (go (bytes_eq row y.row) refl) (all_above columns x j row ys e d a.1 (right_false _ _ n))
  where
    apart : bytes_eq row y.row ≡ true → (k : ℕ) → number_in columns y.column ≡ Some k → j < k
    apart p k f =
        let le : j ≤ k = a.0 j k e f in
        let ne : ¬ (j ≡ k) = λ q.
        let same : x.column ≡ y.column = number_same columns x.column y.column j e (f ∙ ap Some (sym q)) in
        let here : bytes_eq x.row y.row ≡ true = ap (λ r. bytes_eq r y.row) (sym d) ∙ p in
        let there : bytes_eq x.column y.column ≡ true = same_bytes x.column y.column same in
        let both : (bytes_eq x.row y.row && bytes_eq x.column y.column) ≡ true = (λ i. here i && there i) in
        let none : (bytes_eq x.row y.row && bytes_eq x.column y.column) ≡ false = left_false _ (has_coefficient ys x.column x.row) n in cc in
        omega (arith, le, ne)

    go : (b : Bool) → bytes_eq row y.row ≡ b → Above j (cond b (term_on (number_in columns y.column) y.number) [])
    go true p = term_above j (number_in columns y.column) y.number (apart p)
    go false p = tt

terms_rise : (columns : List (List ℕ)) (row : List ℕ) (xs : List Coefficient) → Rise columns xs → NameOnce xs → RisingTerms (terms_of columns xs row)
terms_rise columns row [] h n = tt
terms_rise columns row (x ∷ xs) h n = go (bytes_eq row x.row) refl (terms_rise columns row xs h.1 n.1)
  where
    put : (o : Option ℕ) → number_in columns x.column ≡ o → bytes_eq row x.row ≡ true → RisingTerms (terms_of columns xs row) → RisingTerms (term_on o x.number ++ terms_of columns xs row)
    put None e p r = r
    put (Some j) e p r = zero_or (is_zero x.number)
      where
        zero_or : (b : Bool) → RisingTerms (cond b [] (record { column = j; coefficient = number x.number } ∷ []) ++ terms_of columns xs row)
        zero_or true = r
        zero_or false = (all_above columns x j row xs e (bytes_same row x.row p) h.0 n.0, r)

    go : (b : Bool) → bytes_eq row x.row ≡ b → RisingTerms (terms_of columns xs row) → RisingTerms (cond b (term_on (number_in columns x.column) x.number) [] ++ terms_of columns xs row)
    go true p r = put (number_in columns x.column) refl p r
    go false p r = r

abbrev AreNonzero : List Term → Type 0
AreNonzero terms = AllByRecursion (λ t. t.coefficient ≢ zeroℚ) terms

term_nonzero : (o : Option ℕ) (numeral : Numeral) → IsTold numeral → AreNonzero (term_on o numeral)
term_nonzero None numeral t = tt
term_nonzero (Some k) numeral t = go (is_zero numeral) refl
  where
    go : (b : Bool) → is_zero numeral ≡ b → AreNonzero (cond b [] (record { column = k; coefficient = number numeral } ∷ []))
    go true e = tt
    go false e = (
      (λ z. let d : is_zero numeral ≡ true = is_zero_is numeral t ∙ ap is_zero_value z ∙ zero_is_zero in cc),
      tt,
    )

terms_nonzero : (columns : List (List ℕ)) (row : List ℕ) (xs : List Coefficient) → AllByRecursion (λ entry. IsTold entry.number) xs → AreNonzero (terms_of columns xs row)
terms_nonzero columns row [] h = tt
terms_nonzero columns row (x ∷ xs) h =
    all_append (λ t. t.coefficient ≢ zeroℚ) (cond (bytes_eq row x.row) (term_on (number_in columns x.column) x.number) []) (terms_of columns xs row)
    (go (bytes_eq row x.row)) (terms_nonzero columns row xs h.1)
  where
    go : (b : Bool) → AreNonzero (cond b (term_on (number_in columns x.column) x.number) [])
    go true = term_nonzero (number_in columns x.column) x.number h.0
    go false = tt

-- ---- by places

at_place : (P : Term → Type 0) (terms : List Term) (k : ℕ) → AllByRecursion P terms → k < length terms → P (slice_index_or terms k no_term)
at_place P [] k h l = absurd (omega arith)
at_place P (t ∷ ts) zero h l = h.0
at_place P (t ∷ ts) (suc k) h l = at_place P ts k h.1 (omega arith)

next_above : (terms : List Term) (k : ℕ) → RisingTerms terms → suc k < length terms → column_at terms k < column_at terms (suc k)
next_above [] k h l = absurd (omega arith)
next_above (t ∷ ts) zero h l = at_place (λ u. t.column < u.column) ts zero h.0 (omega arith)
next_above (t ∷ ts) (suc k) h l = next_above ts k h.1 (omega arith)

are_terms : (terms : List Term) → RisingTerms terms → AreNonzero terms → AreTerms terms
are_terms terms r n = record {
  rising = λ k l. let e : k + 1 ≡ suc k = omega arith in subst (λ (m : ℕ). column_at terms k < column_at terms m) (sym e) (next_above terms k r (omega (arith, l)));
  nonzero = λ k l. at_place (λ t. t.coefficient ≢ zeroℚ) terms k n l;
}

-- ---- a text

-- numbers stand by rising column, and each row and column has one
record Ordered (facts : Facts) : Type 0 where
  good : Good facts
  rise : Rise (column_names facts) facts.coefficients
  once : NameOnce facts.coefficients

ordered_with : (context : Context) (content : Record) → Keeps context.facts (said_in context content) → Ordered context.facts → Ordered (facts_with context.facts (said_in context content))
ordered_with context content k o = record {
  good = good_with context.facts (said_in context content) k (said_sound context.place content) o.good;
  rise = rise_with context.facts (said_in context content) k o.good o.rise;
  once = once_with context.facts (said_in context content) k o.once;
}

rows_terms : (facts : Facts) → Ordered facts → All (λ row. AreTerms row.terms) (program_of facts).rows
rows_terms facts o =
    All-map (λ row. AreTerms row.terms) (row_of facts) (constraints facts)
    (λ i r l. are_terms _ (terms_rise (column_names facts) _ facts.coefficients o.rise o.once) (terms_nonzero (column_names facts) _ facts.coefficients o.good.entries_told))

pub rows_are_terms : (text : List ℕ) (program : Program) → HasProgram text program → All (λ row. AreTerms row.terms) program.rows
rows_are_terms =
    of_program Ordered ordered_with (record { good = good_first; rise = tt; once = tt })
    (λ (program : Program). All (λ row. AreTerms row.terms) program.rows) rows_terms
