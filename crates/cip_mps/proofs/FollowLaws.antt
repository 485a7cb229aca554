-- The numbers of a group stand behind the terms of its rows.
use Rattle.std.proofs.Common.{◌≡◌, ℕ, zero, suc, ◌==◌, ◌&&◌, Bool, true, false, cond, List, [], ◌∷◌, ◌++◌, map, refl, sym, ap, subst, ◌∙◌}
use Rattle.std.specs.Prelude.{nat_lt, slice_index_or, slice_set}
use Rattle.std.specs.List.{list_all}
use Rattle.std.proofs.lemmas.List.{get_or-set_other}
use Rattle.std.proofs.lemmas.List.Folds.{list_all-append}
use Rattle.std.proofs.lemmas.Bool.{and_from, and_parts, eq-eqb, eqb-true, eqb-false}
use Rattle.cip_problem.specs.Program.{Term, Row}
use Rattle.cip_problem.specs.Program as problem
use Rattle.cip_text_rules.specs.MpsState.{Held, RowRead, is_zero_value, terms_from}
use Rattle.cip_text_rules.specs.MpsSoundState.{rises}
use Rattle.cip_mps.specs.Entries.{Entry, numbers_of, AreRising}
use Rattle.cip_mps.specs.GroupedRows.{with_terms, put_number, put_numbers, follow, empty_row}

-- these terms stand on columns before those of numbers
abbrev pub are_before : List Term → List Held → Bool
are_before terms [] = true
are_before terms (h ∷ hs) = list_all (λ t. nat_lt t.column h.column) terms && are_before terms hs

none_before : (hs : List Held) → are_before [] hs ≡ true
none_before [] = refl
none_before (h ∷ hs) = none_before hs

more_before : (ts us : List Term) (hs : List Held) → are_before ts hs ≡ true → are_before us hs ≡ true → are_before (ts ++ us) hs ≡ true
more_before ts us [] a b = refl
more_before ts us (h ∷ hs) a b =
    let p : Term → Bool = λ t. nat_lt t.column h.column in
    let l = and_parts (list_all p ts) (are_before ts hs) a in
    let r = and_parts (list_all p us) (are_before us hs) b in
    and_from (list_all p (ts ++ us)) (are_before (ts ++ us) hs) (list_all-append p ts us ∙ and_from (list_all p ts) (list_all p us) l.0 r.0) (more_before ts us hs l.1 r.1)

term_before : (t : Term) (hs : List Held) → list_all (λ o. nat_lt t.column o.column) hs ≡ true → are_before (t ∷ []) hs ≡ true
term_before t [] e = refl
term_before t (h ∷ hs) e =
    let both = and_parts (nat_lt t.column h.column) (list_all (λ o. nat_lt t.column o.column) hs) e in
    and_from (nat_lt t.column h.column && true) (are_before (t ∷ []) hs) (and_from (nat_lt t.column h.column) true both.0 refl) (term_before t hs both.1)

one_before : (n : Held) (hs : List Held) → list_all (λ o. nat_lt n.column o.column) hs ≡ true → are_before (terms_from (n ∷ [])) hs ≡ true
one_before n hs e = go (is_zero_value n.value)
  where
    go : (b : Bool) → are_before (cond b [] (record { column = n.column; coefficient = n.value } ∷ []) ++ []) hs ≡ true
    go true = none_before hs
    go false = term_before (record { column = n.column; coefficient = n.value }) hs e

-- a row that was put at a place, if there is such a place
before_put : (rows : List Row) (k : ℕ) (x : Row) (hs : List Held) → are_before x.terms hs ≡ true → are_before (slice_index_or (slice_set rows k x) k problem.no_row).terms hs ≡ true
before_put [] k x hs b = none_before hs
before_put (r ∷ rs) zero x hs b = b
before_put (r ∷ rs) (suc k) x hs b = before_put rs k x hs b

-- the numbers of each row rise, behind its terms
record AreReady (rows : List Row) (entries : List Entry) : Type 0 where
  rising : (row : ℕ) → rises (numbers_of row entries) ≡ true
  before : (row : ℕ) → are_before (slice_index_or rows row problem.no_row).terms (numbers_of row entries) ≡ true

ready_follow : (rows : List Row) (entries : List Entry) → AreReady rows entries → follow rows entries ≡ true
ready_follow rows [] r = refl
ready_follow rows (e ∷ es) r =
    and_from (list_all (λ t. nat_lt t.column e.held.column) own.terms) (follow (put_number rows e) es) here.0 (ready_follow (put_number rows e) es next)
  where
    own : Row
    own = slice_index_or rows e.row problem.no_row

    rest : List Held
    rest = numbers_of e.row es

    same : numbers_of e.row (e ∷ es) ≡ e.held ∷ rest
    same = ap (λ b. cond b (e.held ∷ rest) rest) (eq-eqb e.row e.row refl)

    here : (list_all (λ (t : Term). nat_lt t.column e.held.column) own.terms ≡ true) × (are_before own.terms rest ≡ true)
    here = and_parts (list_all (λ (t : Term). nat_lt t.column e.held.column) own.terms) (are_before own.terms rest) (ap (are_before own.terms) (sym same) ∙ r.before e.row)

    up : (list_all (λ (o : Held). nat_lt e.held.column o.column) rest ≡ true) × (rises rest ≡ true)
    up = and_parts (list_all (λ (o : Held). nat_lt e.held.column o.column) rest) (rises rest) (ap rises (sym same) ∙ r.rising e.row)

    other : (row : ℕ) → (e.row == row) ≡ false → numbers_of row (e ∷ es) ≡ numbers_of row es
    other row q = ap (λ b. cond b (e.held ∷ numbers_of row es) (numbers_of row es)) q

    rises_on : (row : ℕ) (b : Bool) → (e.row == row) ≡ b → rises (numbers_of row es) ≡ true
    rises_on row true q = subst (λ (n : ℕ). rises (numbers_of n es) ≡ true) (eqb-true e.row row q) up.1
    rises_on row false q = ap rises (sym (other row q)) ∙ r.rising row

    before_on : (row : ℕ) (b : Bool) → (e.row == row) ≡ b → are_before (slice_index_or (put_number rows e) row problem.no_row).terms (numbers_of row es) ≡ true
    before_on row true q =
        subst (λ (n : ℕ). are_before (slice_index_or (put_number rows e) n problem.no_row).terms (numbers_of n es) ≡ true) (eqb-true e.row row q)
        (before_put rows e.row (with_terms (terms_from (e.held ∷ [])) own) rest (more_before own.terms (terms_from (e.held ∷ [])) rest here.1 (one_before e.held rest up.0)))
    before_on row false q =
        ap (λ (x : Row). are_before x.terms (numbers_of row es)) (get_or-set_other rows e.row row (with_terms (terms_from (e.held ∷ [])) own) problem.no_row (λ p. eqb-false e.row row q (sym p)))
        ∙ ap (are_before (slice_index_or rows row problem.no_row).terms) (sym (other row q)) ∙ r.before row

    next : AreReady (put_number rows e) es
    next = record { rising = λ row. rises_on row (e.row == row) refl; before = λ row. before_on row (e.row == row) refl }

empty_terms : (heads : List RowRead) (k : ℕ) → (slice_index_or (map empty_row heads) k problem.no_row).terms ≡ []
empty_terms [] k = refl
empty_terms (h ∷ hs) zero = refl
empty_terms (h ∷ hs) (suc k) = empty_terms hs k

pub empty_follow : (heads : List RowRead) (entries : List Entry) → AreRising entries → follow (map empty_row heads) entries ≡ true
empty_follow heads entries r =
    ready_follow (map empty_row heads) entries
    (record { rising = r.rising; before = λ row. ap (λ ts. are_before ts (numbers_of row entries)) (empty_terms heads row) ∙ none_before (numbers_of row entries) })

pub follow_parts : (rows : List Row) (es fs : List Entry) → follow rows (es ++ fs) ≡ true → (follow rows es ≡ true) × (follow (put_numbers rows es) fs ≡ true)
follow_parts rows [] fs f = (refl, f)
follow_parts rows (e ∷ es) fs f =
    let first : Bool = list_all (λ (t : Term). nat_lt t.column e.held.column) (slice_index_or rows e.row problem.no_row).terms in
    let both = and_parts first (follow (put_number rows e) (es ++ fs)) f in
    let rest = follow_parts (put_number rows e) es fs both.1 in
    (and_from first (follow (put_number rows e) es) both.0 rest.0, rest.1)
