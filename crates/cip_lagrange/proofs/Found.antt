-- What stands at the numbers of an owner's columns or rows is what the owner picks.
use Rattle.std.proofs.Common.{◌≡◌, ◌⊎◌, inl, inr, ℕ, ◌+◌, ◌<◌, ◌≤◌, Bool, true, false, cond, List, [], ◌∷◌, ◌++◌, length, map, take, drop, None, Some, refl, sym, ap, ◌∙◌, arith, slice_get, get_or}
use Rattle.std.specs.Prelude.{is_none}
use Rattle.std.proofs.lemmas.List.{drop_more, drop_all, take_more, append-nil, map-append}
use Rattle.std.proofs.lemmas.List.Elements.{filter_map-append}
use Rattle.std.proofs.lemmas.Option.{slice_get_cases, slice_get-get_or, slice_get_past}
use Rattle.cip_problem.specs.Program.{Sides, Choice, Plain, Row}
use Rattle.cip_problem.specs.Box.{sides_at, no_sides}
use Rattle.cip_problem.specs.Choices.{choice_at}
use Rattle.cip_problem.specs.BlockParts.{is_block, rows_where}
use Rattle.cip_pricing.specs.Decomposition.{Owner, same_owner, picked}
use Rattle.cip_pricing.proofs.Picked.{picked-nil}
use Rattle.cip_lagrange.specs.Numbers.{found}
use Rattle.cip_lagrange.specs.Places.{placed_row}

-- ---- the tests of owners

pub block_test : (block : ℕ) (o : Owner) → is_block block o ≡ same_owner o (Some block)
block_test block None = refl
block_test block (Some other) = refl

pub none_test : (o : Owner) → is_none o ≡ same_owner o None
none_test None = refl
none_test (Some block) = refl

-- ---- one number

some_step : {X : Type 0} (xs : List X) (first : ℕ) (numbers : List ℕ) (x : X) (rest : List X) (t : Bool)
    → slice_get xs first ≡ Some x → found xs numbers ≡ rest
    → found xs (cond t (first ∷ numbers) numbers) ≡ cond t (x ∷ rest) rest
some_step xs first numbers x rest true e f = rw e (ap (λ ys. x ∷ ys) f)
some_step xs first numbers x rest false e f = f

none_step : {X : Type 0} (xs : List X) (first : ℕ) (numbers : List ℕ) (t : Bool) → slice_get xs first ≡ None
    → found xs numbers ≡ [] → found xs (cond t (first ∷ numbers) numbers) ≡ []
none_step xs first numbers true e f = rw e f
none_step xs first numbers false e f = f

-- ---- all numbers

pub found_picked : {X : Type 0} (who : Owner) (test : Owner → Bool) (first : ℕ) (owners : List Owner) (xs : List X)
    → ((o : Owner) → test o ≡ same_owner o who)
    → found xs (rows_where test first owners) ≡ picked who owners (drop first xs)
found_picked {X = X} who test first [] xs e = refl
found_picked {X = X} who test first (o ∷ os) xs e =
    cases (slice_get_cases xs first).1 (found_picked who test (first + 1) os xs e)
  where
    cases : ((x : X) × (first < length xs) × (slice_get xs first ≡ Some x) × (get_or xs first x ≡ x))
        ⊎ ((length xs ≤ first) × (slice_get xs first ≡ None))
        → found xs (rows_where test (first + 1) os) ≡ picked who os (drop (first + 1) xs)
        → found xs (rows_where test first (o ∷ os)) ≡ picked who (o ∷ os) (drop first xs)
    cases (inl h) later =
        some_step xs first (rows_where test (first + 1) os) h.0 (picked who os (drop (first + 1) xs)) (test o) h.2
        later
        ∙ ap (λ t. cond t (h.0 ∷ picked who os (drop (first + 1) xs)) (picked who os (drop (first + 1) xs))) (e o)
        ∙ sym (ap (picked who (o ∷ os)) (drop_more xs first h.0 h.1 ∙ ap (λ y. y ∷ drop (first + 1) xs) h.3))
    cases (inr h) later =
        let past : drop (first + 1) xs ≡ [] = drop_all (first + 1) xs (omega (arith, h.0)) in
        none_step xs first (rows_where test (first + 1) os) (test o) h.1
        (later ∙ ap (picked who os) past ∙ picked-nil who os)
        ∙ sym (ap (picked who (o ∷ os)) (drop_all first xs h.0))

-- those of a block, and those of no block
pub found_block : {X : Type 0} (block : ℕ) (owners : List Owner) (xs : List X)
    → found xs (rows_where (is_block block) 0 owners) ≡ picked (Some block) owners xs
found_block block owners xs = found_picked (Some block) (is_block block) 0 owners xs (block_test block)

pub found_free : {X : Type 0} (owners : List Owner) (xs : List X)
    → found xs (rows_where is_none 0 owners) ≡ picked None owners xs
found_free owners xs = found_picked None is_none 0 owners xs none_test

-- ---- one number more

found_next : {X : Type 0} (xs : List X) (numbers : List ℕ) (i : ℕ) → i < length numbers
    → found xs (take (i + 1) numbers) ≡ found xs (take i numbers) ++ found xs (get_or numbers i 0 ∷ [])
found_next xs numbers i h =
    ap (found xs) (take_more numbers i 0 h)
    ∙ filter_map-append (λ n. slice_get xs n) (take i numbers) (get_or numbers i 0 ∷ [])

one_found : {X : Type 0} (xs : List X) (n : ℕ) (x d : X) → n < length xs → x ≡ get_or xs n d
    → found xs (n ∷ []) ≡ x ∷ []
one_found xs n x d h e = rw (slice_get-get_or xs n d h) (ap (λ y. y ∷ []) (sym e))

-- something stands at the number, or it is past the end
pub found_in : {X : Type 0} (xs : List X) (numbers : List ℕ) (i : ℕ) (x : X) → i < length numbers
    → get_or numbers i 0 < length xs → x ≡ get_or xs (get_or numbers i 0) x
    → found xs (take (i + 1) numbers) ≡ found xs (take i numbers) ++ x ∷ []
found_in xs numbers i x h l e =
    found_next xs numbers i h ∙ ap (λ ys. found xs (take i numbers) ++ ys) (one_found xs (get_or numbers i 0) x x l e)

pub found_flag : (flags : List Bool) (numbers : List ℕ) (i : ℕ) → i < length numbers
    → get_or numbers i 0 < length flags
    → found flags (take (i + 1) numbers) ≡ found flags (take i numbers) ++ get_or flags (get_or numbers i 0) false ∷ []
found_flag flags numbers i h l =
    found_next flags numbers i h
    ∙ ap (λ ys. found flags (take i numbers) ++ ys)
    (one_found flags (get_or numbers i 0) (get_or flags (get_or numbers i 0) false) false l refl)

pub found_past : {X : Type 0} (xs : List X) (numbers : List ℕ) (i : ℕ) → i < length numbers
    → length xs ≤ get_or numbers i 0 → found xs (take (i + 1) numbers) ≡ found xs (take i numbers)
found_past xs numbers i h l =
    found_next xs numbers i h
    ∙ ap (λ ys. found xs (take i numbers) ++ ys) (rw (slice_get_past xs (get_or numbers i 0) l) refl)
    ∙ append-nil (found xs (take i numbers))

pub found_sides : (box : List Sides) (numbers : List ℕ) (i : ℕ) (x : Sides) → i < length numbers
    → get_or numbers i 0 < length box → x ≡ sides_at box (get_or numbers i 0)
    → found box (take (i + 1) numbers) ≡ found box (take i numbers) ++ x ∷ []
found_sides box numbers i x h l e =
    found_next box numbers i h
    ∙ ap (λ ys. found box (take i numbers) ++ ys) (one_found box (get_or numbers i 0) x no_sides l e)

pub found_choice : (choices : List Choice) (numbers : List ℕ) (i : ℕ) (x : Choice) → i < length numbers
    → get_or numbers i 0 < length choices → x ≡ choice_at choices (get_or numbers i 0)
    → found choices (take (i + 1) numbers) ≡ found choices (take i numbers) ++ x ∷ []
found_choice choices numbers i x h l e =
    found_next choices numbers i h
    ∙ ap (λ ys. found choices (take i numbers) ++ ys) (one_found choices (get_or numbers i 0) x Plain l e)

pub found_row : (places : List ℕ) (rows : List Row) (numbers : List ℕ) (i : ℕ) (x p : Row) → i < length numbers
    → get_or numbers i 0 < length rows → x ≡ get_or rows (get_or numbers i 0) x → p ≡ placed_row places x
    → map (placed_row places) (found rows (take (i + 1) numbers))
    ≡ map (placed_row places) (found rows (take i numbers)) ++ p ∷ []
found_row places rows numbers i x p h l e f =
    ap (map (placed_row places)) (found_in rows numbers i x h l e)
    ∙ map-append (placed_row places) (found rows (take i numbers)) (x ∷ [])
    ∙ ap (λ q. map (placed_row places) (found rows (take i numbers)) ++ q ∷ []) (sym f)
