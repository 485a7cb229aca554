-- The coefficient of a row and a column is the number of the one record that names both.
use Rattle.std.proofs.Common.{◌≡◌, ℕ, suc, ◌≤◌, ◌==◌, Bool, true, false, cond, ◌&&◌, List, [], ◌∷◌, ◌++◌, map, Option, None, Some, refl, sym, ap, subst, ◌∙◌, arith, pos, zero, zero-lt-suc, lit<}
use Rattle.cip_rational.proofs.Rational.Ratio.{ratio_same, integer_ratio}
use Rattle.cip_rational.proofs.Rational.Rounding.{integer-zero}
use Rattle.std.specs.Str.{bytes_eq}
use Rattle.std.specs.List.{AllByRecursion, list_any}
use Rattle.std.proofs.lemmas.List.{append-nil}
use Rattle.std.proofs.lemmas.List.Folds.{list_any-append}
use Rattle.std.proofs.lemmas.Int.{ints}
use Rattle.std.proofs.lemmas.Bool.{eq-eqb, eqb-true, cond-true, cond-false, leb-true, false_from_ne_true, and_left, or_from}
use Rattle.cip_rational.specs.Rational.{zeroℚ, ratio}
use Rattle.cip_text_rules.specs.Program.{Term}
use Rattle.cip_text_rules.specs.Lines.{Record}
use Rattle.cip_text_rules.specs.LineTexts.{Numbered}
use Rattle.cip_text_rules.specs.LineStatements.{known_after, AreOpen}
use Rattle.cip_rational.specs.Numeral.{Numeral, Exact, NotANumber, Huge, TooFine, signed}
use Rattle.cip_text_rules.specs.MpsWords.{number_in, is_zero}
use Rattle.cip_text_rules.specs.MpsSayings.{Value, Saying, ColumnLine}
use Rattle.cip_text_rules.specs.MpsFacts.{Coefficient, Facts, facts_with, column_names}
use Rattle.cip_text_rules.specs.MpsProgram.{number, number_or_zero, number_at, term_on, terms_of}
use Rattle.cip_text_rules.specs.MpsRules.{has_twins, has_coefficient}
use Rattle.cip_text_rules.specs.MpsOutcome.{no_context, said_in, is_last, mps_records}
use Rattle.cip_text_rules.specs.MpsStatements.{coefficient_in, NameOnce, AreCoefficients}
use Rattle.cip_text_rules.proofs.Quiet.{Keeps, left_false, right_false}
use Rattle.cip_text_rules.proofs.Outcomes.{invariant}
use Rattle.cip_text_rules.proofs.MpsNames.{bytes_flip, bytes_same, bytes_other, number_same}

-- ---- no two numbers name one row and column

both_flip : (a b c d : Bool) → a ≡ c → b ≡ d → (a && b) ≡ (c && d)
both_flip a b c d e f = rw (e, f)

once_append : (xs ys : List Coefficient) → NameOnce xs → NameOnce ys → AllByRecursion (λ y. has_coefficient xs y.column y.row ≡ false) ys → NameOnce (xs ++ ys)
once_append [] ys h k a = k
once_append (x ∷ xs) ys h k a =
    (list_any-append (λ entry. bytes_eq x.row entry.row && bytes_eq x.column entry.column) xs ys ∙ or_from _ _ h.0 (behind ys a), once_append xs ys h.1 k (tails ys a))
  where
    behind : (zs : List Coefficient) → AllByRecursion (λ y. has_coefficient (x ∷ xs) y.column y.row ≡ false) zs → has_coefficient zs x.column x.row ≡ false
    behind [] a = refl
    behind (z ∷ zs) a =
        or_from _ _
        (both_flip (bytes_eq x.row z.row) (bytes_eq x.column z.column) (bytes_eq z.row x.row) (bytes_eq z.column x.column) (bytes_flip x.row z.row) (bytes_flip x.column z.column)
        ∙ left_false _ _ a.0) (behind zs a.1)

    tails : (zs : List Coefficient) → AllByRecursion (λ y. has_coefficient (x ∷ xs) y.column y.row ≡ false) zs → AllByRecursion (λ y. has_coefficient xs y.column y.row ≡ false) zs
    tails [] a = tt
    tails (z ∷ zs) a = (right_false _ _ a.0, tails zs a.1)

-- the numbers of one line
abbrev numbers_of : List ℕ → List Value → List Coefficient
numbers_of column values = map (λ value. record { column = column; row = value.row; number = value.number }) values

line_once : (column : List ℕ) (values : List Value) → has_twins values ≡ false → NameOnce (numbers_of column values)
line_once column [] e = tt
line_once column (v ∷ vs) e = (others vs (left_false _ _ e), line_once column vs (right_false _ _ e))
  where
    others : (ws : List Value) → list_any (λ other. bytes_eq v.row other.row) ws ≡ false → has_coefficient (numbers_of column ws) column v.row ≡ false
    others [] e = refl
    others (w ∷ ws) e = or_from _ _ (and_left (bytes_eq v.row w.row) (bytes_eq column column) (left_false _ _ e)) (others ws (right_false _ _ e))

line_new : (entries : List Coefficient) (column : List ℕ) (values : List Value) → list_any (λ value. has_coefficient entries column value.row) values ≡ false → AllByRecursion (λ y. has_coefficient entries y.column y.row ≡ false) (numbers_of column values)
line_new entries column [] e = tt
line_new entries column (v ∷ vs) e = (left_false _ _ e, line_new entries column vs (right_false _ _ e))

pub once_with : (facts : Facts) (now : Saying) → Keeps facts now → NameOnce facts.coefficients → NameOnce (facts_with facts now).coefficients
once_with facts (ColumnLine column whole values) k h =
    once_append facts.coefficients (numbers_of column values) h
    (line_once column values (right_false _ _ k.new_value)) (line_new facts.coefficients column values (left_false _ _ k.new_value))
once_with facts other k h = subst NameOnce (sym (append-nil facts.coefficients)) h

pub names_once : (records : List (Numbered Record)) → AreOpen is_last mps_records no_context records → NameOnce (known_after mps_records no_context records).facts.coefficients
names_once = invariant (λ facts. NameOnce facts.coefficients) (λ context content. once_with context.facts (said_in context content)) tt

-- ---- terms

zero_over : (d : ℕ) → ratio (pos 0) d ≡ zeroℚ
unfolding ratio zeroℚ
zero_over zero = refl
zero_over (suc n) = ratio_same (pos 0) (pos 0) (suc n) 1 (zero-lt-suc n) (lit< tt) (omega (arith, ints)) ∙ integer_ratio (pos 0) ∙ integer-zero

zero_size : (negative : Bool) (size below : ℕ) → size ≤ 0 → ratio (signed negative size) below ≡ zeroℚ
zero_size false zero below h = zero_over below
zero_size true zero below h = zero_over below
zero_size negative (suc n) below h = absurd (omega arith)

pub zero_number : (numeral : Numeral) → is_zero numeral ≡ true → number numeral ≡ zeroℚ
zero_number (Exact negative size below) e = zero_size negative size below (leb-true size 0 e)
zero_number NotANumber e = refl
zero_number (Huge negative) e = refl
zero_number TooFine e = refl

at_same : (k : ℕ) (numeral : Numeral) (rest : List Term) → coefficient_in (term_on (Some k) numeral ++ rest) k ≡ cond (is_zero numeral) (coefficient_in rest k) (number numeral)
at_same k numeral rest = go (is_zero numeral)
  where
    go : (b : Bool) → coefficient_in (cond b [] (record { column = k; coefficient = number numeral } ∷ []) ++ rest) k ≡ cond b (coefficient_in rest k) (number numeral)
    go true = refl
    go false = cond-true (k == k) (number numeral) (coefficient_in rest k) (eq-eqb k k refl)

at_other : (k : ℕ) (o : Option ℕ) (numeral : Numeral) (rest : List Term) → ¬ (o ≡ Some k) → coefficient_in (term_on o numeral ++ rest) k ≡ coefficient_in rest k
at_other k None numeral rest n = refl
at_other k (Some j) numeral rest n = go (is_zero numeral)
  where
    go : (b : Bool) → coefficient_in (cond b [] (record { column = j; coefficient = number numeral } ∷ []) ++ rest) k ≡ coefficient_in rest k
    go true = refl
    go false = cond-false (j == k) (number numeral) (coefficient_in rest k) (false_from_ne_true (j == k) (λ e. n (ap Some (eqb-true j k e))))

none_at : (entries : List Coefficient) (row column : List ℕ) → has_coefficient entries column row ≡ false → number_at entries row column ≡ None
none_at [] row column e = refl
none_at (x ∷ xs) row column e =
    cond-false (bytes_eq row x.row && bytes_eq column x.column) (Some x.number) (number_at xs row column) (left_false _ _ e)
    ∙ none_at xs row column (right_false _ _ e)

pub in_row : (names : List (List ℕ)) (entries : List Coefficient) (row column : List ℕ) (k : ℕ) → NameOnce entries → number_in names column ≡ Some k → coefficient_in (terms_of names entries row) k ≡ number_or_zero (number_at entries row column)
in_row names [] row column k once e = refl
in_row names (x ∷ xs) row column k once e = go (bytes_eq row x.row) refl (bytes_eq column x.column) refl (in_row names xs row column k once.1 e)
  where
    rest : List Term
    rest = terms_of names xs row

    go : (a : Bool) → bytes_eq row x.row ≡ a → (b : Bool) → bytes_eq column x.column ≡ b → coefficient_in (terms_of names xs row) k ≡ number_or_zero (number_at xs row column)
        → coefficient_in (cond a (term_on (number_in names x.column) x.number) [] ++ terms_of names xs row) k ≡ number_or_zero (cond (a && b) (Some x.number) (number_at xs row column))
    go false p b q h = h
    go true p true q h =
        let same_row : x.row ≡ row = sym (bytes_same row x.row p) in
        let same_column : x.column ≡ column = sym (bytes_same column x.column q) in
        let gone : has_coefficient xs column row ≡ false = subst (λ r. has_coefficient xs column r ≡ false) same_row (subst (λ c. has_coefficient xs c x.row ≡ false) same_column once.0) in
        let nothing : coefficient_in (terms_of names xs row) k ≡ zeroℚ = h ∙ ap number_or_zero (none_at xs row column gone) in
        ap (λ o. coefficient_in (term_on o x.number ++ terms_of names xs row) k) (ap (number_in names) same_column ∙ e)
        ∙ at_same k x.number (terms_of names xs row) ∙ last (is_zero x.number) refl nothing
      where
        last : (z : Bool) → is_zero x.number ≡ z → coefficient_in (terms_of names xs row) k ≡ zeroℚ → cond z (coefficient_in (terms_of names xs row) k) (number x.number) ≡ number x.number
        last true z n = n ∙ sym (zero_number x.number z)
        last false z n = refl
    go true p false q h =
        at_other k (number_in names x.column) x.number (terms_of names xs row)
        (λ f. bytes_other column x.column q (number_same names column x.column k e f)) ∙ h

pub coefficients_are : (records : List (Numbered Record)) → AreOpen is_last mps_records no_context records → AreCoefficients (known_after mps_records no_context records).facts
coefficients_are records o =
    let once = names_once records o in
    record {
      once = once;
      in_row = λ row column k e. in_row (column_names (known_after mps_records no_context records).facts) (known_after mps_records no_context records).facts.coefficients row column k once e;
    }
