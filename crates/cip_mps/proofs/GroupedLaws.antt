-- The rows that a group gives, and those of all groups.
use Rattle.std.proofs.Common.{◌≡◌, ℕ, zero, suc, ◌+◌, ◌*◌, ◌/◌, ◌%◌, ◌<◌, ◌≤◌, ◌==◌, Bool, true, false, cond, not, None, List, [], ◌∷◌, ◌++◌, length, map, refl, sym, ap, ◌∙◌, arith, append_assoc, min}
use Rattle.std.specs.Prelude.{slice_index_or, slice_set}
use Rattle.std.specs.List.{filter}
use Rattle.std.proofs.lemmas.List.{append-nil}
use Rattle.std.proofs.lemmas.Bool.{ne_eqb, eq-eqb, eqb-false}
use Rattle.cip_problem.specs.Program.{Term, Row}
use Rattle.cip_problem.specs.Program as problem
use Rattle.cip_text_rules.specs.MpsProgram.{is_free, row_with}
use Rattle.cip_text_rules.specs.MpsState.{Held, RowRead, is_kept, terms_from, finished_row, sides_with, right_side_of}
use Rattle.cip_text_rules.proofs.ProgramSame.{terms_from-append}
use Rattle.cip_mps.specs.Entries.{Entry, numbers_of}
use Rattle.cip_mps.specs.Tables.{map_at, numbers_at, with_numbers, rows_of}
use Rattle.cip_mps.specs.GroupedRows.{with_terms, put_number, put_numbers, empty_row, kept_rows}
use Rattle.cip_mps.proofs.Places.{at_same, at_append}

-- ---- terms

twice : (a b : List Term) (row : Row) → with_terms b (with_terms a row) ≡ with_terms (a ++ b) row
twice a b row = ap (λ ts. let r : Row = record { terms = ts; low = row.low; high = row.high } in r) (append_assoc row.terms a b)

nothing : (row : Row) → with_terms [] row ≡ row
nothing row = ap (λ ts. let r : Row = record { terms = ts; low = row.low; high = row.high } in r) (append-nil row.terms)

-- each row gets the terms of its numbers
abbrev pub more_terms : List Entry → List Row → List Row
more_terms entries rows = map_at (λ place. with_terms (terms_from (numbers_of place entries))) rows

more_none : {f : ℕ → List Term} (rows : List Row) → ((k : ℕ) → f k ≡ []) → map_at (λ place. with_terms (f place)) rows ≡ rows
more_none {f} [] h = refl
more_none {f} (r ∷ rs) h =
    let p : with_terms (f 0) r ≡ r = ap (λ ts. with_terms ts r) (h 0) ∙ nothing r in
    let q : map_at (λ place. with_terms (f (suc place))) rs ≡ rs = more_none {f = λ place. f (suc place)} rs (λ k. h (suc k)) in
    λ i. p i ∷ q i

-- one number, and then functions of the place
one_more : (f g : ℕ → List Term) (ts : List Term) (rows : List Row) (at : ℕ) → g at ≡ ts ++ f at → ((k : ℕ) → (at == k) ≡ false → g k ≡ f k)
    → map_at (λ place. with_terms (f place)) (slice_set rows at (with_terms ts (slice_index_or rows at problem.no_row))) ≡ map_at (λ place. with_terms (g place)) rows
one_more f g ts [] at own else_ = refl
one_more f g ts (r ∷ rs) zero own else_ =
    let p : with_terms (f 0) (with_terms ts r) ≡ with_terms (g 0) r = twice ts (f 0) r ∙ ap (λ xs. with_terms xs r) (sym own) in
    let q : map_at (λ place. with_terms (f (suc place))) rs ≡ map_at (λ place. with_terms (g (suc place))) rs =
    at_same (λ place. with_terms (f (suc place))) (λ place. with_terms (g (suc place))) rs (λ k x _. ap (λ xs. with_terms xs x) (sym (else_ (suc k) (ne_eqb 0 (suc k) (λ e. omega (arith, e)))))) in
    λ i. p i ∷ q i
one_more f g ts (r ∷ rs) (suc at) own else_ =
    let p : with_terms (f 0) r ≡ with_terms (g 0) r = ap (λ xs. with_terms xs r) (sym (else_ 0 (ne_eqb (suc at) 0 (λ e. omega (arith, e))))) in
    let q : map_at (λ place. with_terms (f (suc place))) (slice_set rs at (with_terms ts (slice_index_or rs at problem.no_row))) ≡ map_at (λ place. with_terms (g (suc place))) rs =
    one_more (λ k. f (suc k)) (λ k. g (suc k)) ts rs at own (λ k n. else_ (suc k) (ne_eqb (suc at) (suc k) (λ e. (eqb-false at k n) (omega (arith, e))))) in
    λ i. p i ∷ q i

pub put_all : (entries : List Entry) (rows : List Row) → put_numbers rows entries ≡ more_terms entries rows
put_all [] rows = sym (more_none {f = λ place. []} rows (λ k. refl))
put_all (e ∷ es) rows =
    put_all es (put_number rows e)
    ∙ one_more (λ place. terms_from (numbers_of place es)) (λ place. terms_from (numbers_of place (e ∷ es))) (terms_from (e.held ∷ [])) rows e.row own else_
  where
    own : terms_from (numbers_of e.row (e ∷ es)) ≡ terms_from (e.held ∷ []) ++ terms_from (numbers_of e.row es)
    own =
        let same : (e.row == e.row) ≡ true = eq-eqb e.row e.row refl in
        ap (λ b. terms_from (cond b (e.held ∷ numbers_of e.row es) (numbers_of e.row es))) same
        ∙ terms_from-append (e.held ∷ []) (numbers_of e.row es)

    else_ : (k : ℕ) → (e.row == k) ≡ false → terms_from (numbers_of k (e ∷ es)) ≡ terms_from (numbers_of k es)
    else_ k n = ap (λ b. terms_from (cond b (e.held ∷ numbers_of k es) (numbers_of k es))) n

pub put_both : (rows : List Row) (es fs : List Entry) → put_numbers (put_numbers rows es) fs ≡ put_numbers rows (es ++ fs)
put_both rows [] fs = refl
put_both rows (e ∷ es) fs = put_both (put_number rows e) es fs

-- ---- the rows that are kept

-- the row of a head with numbers
kept_one : (f : ℕ → List Held) (heads : List RowRead)
    → kept_rows heads (map_at (λ place. with_terms (terms_from (f place))) (map empty_row heads)) ≡ map finished_row (filter is_kept (map_at (λ place. with_numbers (f place)) heads))
kept_one f [] = refl
kept_one f (h ∷ hs) = go (is_free h.kind) refl (kept_one (λ place. f (suc place)) hs)
  where
    rest : List Row
    rest = kept_rows hs (map_at (λ place. with_terms (terms_from (f (suc place)))) (map empty_row hs))

    others : List RowRead
    others = filter is_kept (map_at (λ place. with_numbers (f (suc place))) hs)

    go : (b : Bool) → is_free h.kind ≡ b → rest ≡ map finished_row others
        → cond (not b) (with_terms (terms_from (f 0)) (empty_row h) ∷ rest) rest ≡ map finished_row (cond (not b) (with_numbers (f 0) h ∷ others) others)
    go true e q = q
    go false e q =
        let p : with_terms (terms_from (f 0)) (empty_row h) ≡ finished_row (with_numbers (f 0) h) =
        ap (λ b. with_terms (terms_from (f 0)) (row_with [] (cond b (record { low = None; high = None }) (sides_with h.kind (right_side_of h) h.range)))) e in
        λ i. p i ∷ q i

pub kept_group : (group : List Entry) (heads : List RowRead)
    → kept_rows heads (put_numbers (map empty_row heads) group) ≡ map finished_row (filter is_kept (map_at (λ place. with_numbers (numbers_of place group)) heads))
kept_group group heads = ap (kept_rows heads) (put_all group (map empty_row heads)) ∙ kept_one (λ place. numbers_of place group) heads

-- ---- all groups

filter_append : {X : Type 0} (p : X → Bool) (xs ys : List X) → filter p (xs ++ ys) ≡ filter p xs ++ filter p ys
filter_append p [] ys = refl
filter_append p (x ∷ xs) ys = go (p x) (filter_append p xs ys)
  where
    go : (b : Bool) → filter p (xs ++ ys) ≡ filter p xs ++ filter p ys → cond b (x ∷ filter p (xs ++ ys)) (filter p (xs ++ ys)) ≡ cond b (x ∷ filter p xs) (filter p xs) ++ filter p ys
    go true h = ap (λ zs. x ∷ zs) h
    go false h = h

map_append : {X Y : Type 0} (f : X → Y) (xs ys : List X) → map f (xs ++ ys) ≡ map f xs ++ map f ys
map_append f [] ys = refl
map_append f (x ∷ xs) ys = ap (λ zs. f x ∷ zs) (map_append f xs ys)

-- the rows of the program
abbrev pub finished : List RowRead → List (List Entry) → List Row
finished heads groups = map finished_row (filter is_kept (rows_of heads groups))

-- the rows of the first group, and those of the others
first_rows : (here behind : List RowRead) (group : List Entry) (groups : List (List Entry)) → length here ≤ 64 → ((k : ℕ) → k < length behind → length here ≡ 64)
    → rows_of (here ++ behind) (group ∷ groups) ≡ map_at (λ place. with_numbers (numbers_of place group)) here ++ rows_of behind groups
first_rows here behind group groups few full =
    let f : ℕ → RowRead → RowRead = λ number. with_numbers (numbers_at (group ∷ groups) number) in
    let p : map_at f here ≡ map_at (λ place. with_numbers (numbers_of place group)) here =
    at_same f (λ place. with_numbers (numbers_of place group)) here (λ k x l. ap (λ held. with_numbers held x) (low k (omega (arith, l, few)))) in
    let q : map_at (λ k. f (length here + k)) behind ≡ rows_of behind groups =
    at_same (λ k. f (length here + k)) (λ number. with_numbers (numbers_at groups number)) behind (λ k x l. ap (λ held. with_numbers held x) (high (length here + k) k (omega (arith, full k l)))) in
    at_append f here behind ∙ (λ i. p i ++ q i)
  where
    low : (k : ℕ) → k < 64 → numbers_at (group ∷ groups) k ≡ numbers_of k group
    low k l =
        let a : k / 64 ≡ 0 = omega (arith, l) in
        let b : k % 64 ≡ k = omega (arith, l) in
        λ i. numbers_of (b i) (slice_index_or (group ∷ groups) (a i) [])

    high : (n k : ℕ) → n ≡ 64 + k → numbers_at (group ∷ groups) n ≡ numbers_at groups k
    high n k e =
        let a : n / 64 ≡ suc (k / 64) = omega (arith, e) in
        let b : n % 64 ≡ k % 64 = omega (arith, e) in
        λ i. numbers_of (b i) (slice_index_or (group ∷ groups) (a i) [])

-- how many rows the next group has, and those behind it
pub group_parts : (left here behind groups : ℕ) → here ≡ min left 64 → behind + here ≡ left → left ≤ 64 * suc groups → (here ≤ 64) × (((k : ℕ) → k < behind → here ≡ 64) × (behind ≤ 64 * groups))
group_parts left here behind groups e s l = (omega (arith, e), (λ k h. omega (arith, e, s, h), omega (arith, e, s, l)))

-- one group more
pub one_group : (here behind : List RowRead) (group : List Entry) (groups : List (List Entry)) (before all : List Row) → length here ≤ 64 → ((k : ℕ) → k < length behind → length here ≡ 64)
    → before ++ finished (here ++ behind) (group ∷ groups) ≡ all
    → (before ++ kept_rows here (put_numbers (map empty_row here) group)) ++ finished behind groups ≡ all
one_group here behind group groups before all few full h =
    let first : List RowRead = map_at (λ place. with_numbers (numbers_of place group)) here in
    append_assoc before (kept_rows here (put_numbers (map empty_row here) group)) (finished behind groups)
    ∙ ap (λ rows. before ++ (rows ++ finished behind groups)) (kept_group group here)
    ∙ ap (λ rows. before ++ rows) (sym (map_append finished_row (filter is_kept first) (filter is_kept (rows_of behind groups)))
    ∙ ap (map finished_row) (sym (filter_append is_kept first (rows_of behind groups))) ∙ ap (λ rows. map finished_row (filter is_kept rows)) (sym (first_rows here behind group groups few full)))
    ∙ h

-- ---- one row of a group

pub kept_taken : (finished more : List Row) (heads behind : List RowRead) (head : RowRead) (rows others : List Row) (row : Row) (all : List Row) → heads ≡ head ∷ behind → rows ≡ row ∷ others → is_kept head ≡ true → more ≡ finished ++ row ∷ []
    → finished ++ kept_rows heads rows ≡ all → more ++ kept_rows behind others ≡ all
kept_taken finished more heads behind head rows others row all h r k m e =
    ap (λ (xs : List Row). xs ++ kept_rows behind others) m ∙ append_assoc finished (row ∷ []) (kept_rows behind others)
    ∙ ap (λ (b : Bool). finished ++ cond b (row ∷ kept_rows behind others) (kept_rows behind others)) (sym k)
    ∙ (λ i. finished ++ kept_rows (sym h i) (sym r i)) ∙ e

pub kept_dropped : (finished : List Row) (heads behind : List RowRead) (head : RowRead) (rows others : List Row) (row : Row) (all : List Row) → heads ≡ head ∷ behind → rows ≡ row ∷ others → is_kept head ≡ false
    → finished ++ kept_rows heads rows ≡ all → finished ++ kept_rows behind others ≡ all
kept_dropped finished heads behind head rows others row all h r k e =
    ap (λ (b : Bool). finished ++ cond b (row ∷ kept_rows behind others) (kept_rows behind others)) (sym k)
    ∙ (λ i. finished ++ kept_rows (sym h i) (sym r i)) ∙ e
