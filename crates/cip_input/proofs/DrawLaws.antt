-- Draws one after another, and the lists that are made of them.
use Rattle.std.proofs.Common.{◌≡◌, ◌≢◌, ℕ, zero, suc, ◌+◌, ◌*◌, ◌<◌, ◌≤◌, Bool, true, false, cond, List, [], ◌∷◌, ◌++◌, map, length, get_or, None, Some, refl, sym, ap, ◌∙◌, arith, add-one, zero-add}
use Rattle.std.specs.Prelude.{filter, nat_lt, if◌then◌else◌}
use Rattle.std.specs.Str.{bytes_eq}
use Rattle.std.specs.List.{position_from, range_with_len}
use Rattle.std.proofs.lemmas.List.{map-append, map-id}
use Rattle.std.proofs.lemmas.List.Elements.{filter-append, All-map, All-filter, All-from_get_or}
use Rattle.std.proofs.lemmas.List.FromFn.{map-range_with_len_more, sum_by-map-range_with_len_more, length-range_with_len, get_or-range_with_len}
use Rattle.std.proofs.lemmas.Slice.Eq.{bytes_eq-Decides}
use Rattle.cip_rational.proofs.NumberText.{natural_text_injective}
use Rattle.cip_problem.specs.Program.{Term}
use Rattle.cip_problem.specs.Activity.{StandsBelow}
use Rattle.cip_problem.specs.Names.{number_of}
use Rattle.cip_input.specs.Generated.{next_state, state_after, coefficient_from, has_term, term_on, term_from, terms_from, total_from, name_of}

-- ---- states

-- one draw more
pub state_after_next : (n state : ℕ) → state_after (n + 1) state ≡ next_state (state_after n state)
state_after_next n state = ap (λ k. state_after k state) (add-one n)

-- draws behind others
pub state_after-add : (m n state : ℕ) → state_after m (state_after n state) ≡ state_after (m + n) state
state_after-add zero n state = ap (λ k. state_after k state) (sym (zero-add n))
state_after-add (suc m) n state =
    let more : suc (m + n) ≡ suc m + n = omega arith in
    ap next_state (state_after-add m n state) ∙ ap (λ k. state_after k state) more

-- the draws of a row behind those of the rows before it
pub state_after_row : (columns row state : ℕ) → state_after columns (state_after (row * columns) state) ≡ state_after ((row + 1) * columns) state
state_after_row columns row state =
    let more : columns + row * columns ≡ (row + 1) * columns = omega arith in
    state_after-add columns (row * columns) state ∙ ap (λ k. state_after k state) more

-- ---- the terms of a row

range_more : (n : ℕ) → range_with_len 0 (n + 1) ≡ range_with_len 0 n ++ n ∷ []
range_more n =
    sym (map-id (range_with_len 0 (n + 1))) ∙ map-range_with_len_more (λ (k : ℕ). k) 0 n n (zero-add n)
    ∙ ap (λ ks. ks ++ n ∷ []) (map-id (range_with_len 0 n))

-- the term of a column, if it has one
abbrev pub entry_on : ℕ → ℕ → List Term
entry_on column coefficient = if nat_lt 0 coefficient then term_on column coefficient ∷ [] else []

one_entry : (f : ℕ → Term) (column : ℕ) (b : Bool) → map f (cond b (column ∷ []) []) ≡ cond b (f column ∷ []) []
one_entry f column true = refl
one_entry f column false = refl

-- one column more
pub terms_more : (n state : ℕ) → terms_from n state ++ entry_on n (coefficient_from state n) ≡ terms_from (n + 1) state
terms_more n state =
    let kept : filter (has_term state) (range_with_len 0 (n + 1)) ≡ filter (has_term state) (range_with_len 0 n) ++ filter (has_term state) (n ∷ []) =
    ap (filter (has_term state)) (range_more n) ∙ filter-append (has_term state) (range_with_len 0 n) (n ∷ []) in
    sym
    (ap (map (term_from state)) kept ∙ map-append (term_from state) (filter (has_term state) (range_with_len 0 n)) (filter (has_term state) (n ∷ []))
    ∙ ap (λ ts. terms_from n state ++ ts) (one_entry (term_from state) n (has_term state n)))

pub total_more : (n state : ℕ) → total_from n state + coefficient_from state n ≡ total_from (n + 1) state
total_more n state = sym (sum_by-map-range_with_len_more (λ (k : ℕ). k) (coefficient_from state) 0 n n (zero-add n))

-- the terms stand on those columns
pub terms_below : (n most state : ℕ) → n ≤ most → StandsBelow most (terms_from n state)
terms_below n most state h =
    All-map (λ (t : Term). t.column < most) (term_from state) (filter (has_term state) (range_with_len 0 n))
    (All-filter (has_term state) (λ k. k < most) (range_with_len 0 n) (All-from_get_or (λ k. k < most) (range_with_len 0 n) 0 each))
  where
    each : (i : ℕ) → i < length (range_with_len 0 n) → get_or (range_with_len 0 n) i 0 < most
    each i l =
        let small : i < n = omega (arith, l, length-range_with_len 0 n) in
        omega (arith, get_or-range_with_len 0 n i 0 small, h)

-- ---- names

names_apart : (letter m n : ℕ) → m ≢ n → bytes_eq (name_of letter m) (name_of letter n) ≡ false
names_apart letter m n ne = go (bytes_eq (name_of letter m) (name_of letter n)) refl
  where
    go : (b : Bool) → bytes_eq (name_of letter m) (name_of letter n) ≡ b → b ≡ false
    go true e =
        let same : name_of letter m ≡ name_of letter n = (bytes_eq-Decides (name_of letter m) (name_of letter n)).0 e in
        absurd (ne (natural_text_injective m n (cc)))
    go false e = refl

fresh_from : (letter number a n i : ℕ) → a + n ≤ number → position_from (bytes_eq (name_of letter number)) i (map (name_of letter) (range_with_len a n)) ≡ None
fresh_from letter number a zero i h = refl
fresh_from letter number a (suc n) i h =
    ap (λ b. cond b (Some i) (position_from (bytes_eq (name_of letter number)) (i + 1) (map (name_of letter) (range_with_len (a + 1) n)))) (names_apart letter number a (λ e. absurd (omega (arith, e, h))))
    ∙ fresh_from letter number (a + 1) n (i + 1) (omega arith)

-- a name isn't one of those with lesser numbers
pub fresh : (letter number : ℕ) → number_of (map (name_of letter) (range_with_len 0 number)) (name_of letter number) ≡ None
fresh letter number = fresh_from letter number 0 number 0 (omega arith)
