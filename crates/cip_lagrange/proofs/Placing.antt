-- Places of columns among those of their blocks.
use Rattle.std.proofs.Common.{◌≡◌, ◌≢◌, ℕ, zero, suc, ◌+◌, ◌<◌, ◌≤◌, ◌==◌, Bool, true, false, cond, List, [], ◌∷◌, ◌++◌, length, map, take, drop, None, Some, IfSome, refl, sym, ap, ap₂, ◌∙◌, subst, arith, true≢false, add-one, slice_get}
use Rattle.std.specs.Prelude.{slice_index}
use Rattle.std.specs.List.{AllByRecursion}
use Rattle.std.proofs.lemmas.Bool.{eqb-true, eqb-false}
use Rattle.std.proofs.lemmas.Option.{none-some, same_Some, slice_get_within}
use Rattle.std.proofs.lemmas.List.{append-nil, drop_all, take_all, length-set, length_push, get_or-set_same, get_or-set_other, get_or_push, get_or_append_left}
use Rattle.std.proofs.lemmas.List.Elements.{All-from_recursion}
use Rattle.cip_problem.specs.Program.{Term, Row}
use Rattle.cip_problem.specs.Activity.{StandsBelow}
use Rattle.cip_pricing.specs.Decomposition.{Owner, same_owner, picked, place, renumbered, StandsOn}
use Rattle.cip_pricing.proofs.Picked.{same_owner-refl, same_owner-true}
use Rattle.cip_lagrange.specs.Places.{ArePlaces, placed_row, slot, next_counts}

-- ---- places

place-zero : (who : Owner) (os : List Owner) → place who os zero ≡ zero
place-zero who [] = refl
place-zero who (o ∷ os) = refl

more_step : (q s : Bool) (a x : ℕ) → a ≡ cond s (suc x) x
    → cond q (suc a) a ≡ cond s (suc (cond q (suc x) x)) (cond q (suc x) x)
more_step true true a x e = ap suc e
more_step true false a x e = ap suc e
more_step false true a x e = e
more_step false false a x e = e

-- behind a column of the owner the places go up by one
pub place_more : (who : Owner) (os : List Owner) (n : ℕ) (o : Owner) → slice_get os n ≡ Some o
    → place who os (suc n) ≡ cond (same_owner o who) (suc (place who os n)) (place who os n)
place_more who [] n o e = absurd (none-some o e)
place_more who (p ∷ os) zero o e =
    ap (λ m. cond (same_owner p who) (suc m) m) (place-zero who os)
    ∙ ap (λ (x : Owner). cond (same_owner x who) (suc zero) zero) (same_Some p o e)
place_more who (p ∷ os) (suc n) o e =
    more_step (same_owner p who) (same_owner o who) (place who os (suc n)) (place who os n) (place_more who os n o e)

low_step : (t : Bool) (p n : ℕ) → p ≤ n → cond t (suc p) p ≤ suc n
low_step true p n h = omega (arith, h)
low_step false p n h = omega (arith, h)

pub place_low : (who : Owner) (os : List Owner) (n : ℕ) → place who os n ≤ n
place_low who [] n = omega arith
place_low who (o ∷ os) zero = omega arith
place_low who (o ∷ os) (suc n) = low_step (same_owner o who) (place who os n) n (place_low who os n)

-- ---- places as they are given out

-- the places of the first so many columns, and how many columns each owner has among them
pub record ArePlacesTo (count : ℕ) (owners : List Owner) (n : ℕ) (counts places : List ℕ) : Type 0 where
  pub long : length places ≡ n
  pub at : (column : ℕ) (who : Owner) → column < n → slice_get owners column ≡ Some who
      → slice_index places column ≡ place who owners column
  pub each : length counts ≡ count + 1
  pub counted : (who : Owner) → slot who < count + 1 → slice_index counts (slot who) ≡ place who owners n

-- owners whose counts stand at one place are one
same_slot : (o who : Owner) → slot o ≡ slot who → o ≡ who
same_slot None None e = refl
same_slot None (Some k) e = absurd (omega (arith, e))
same_slot (Some j) None e = absurd (omega (arith, e))
same_slot (Some j) (Some k) e = let same : j ≡ k = omega (arith, e) in ap (λ m. Some m) same

counts_step : (count : ℕ) (owners : List Owner) (n : ℕ) (o who : Owner) (counts : List ℕ) (t : Bool)
    → same_owner o who ≡ t → slice_get owners n ≡ Some o → length counts ≡ count + 1 → slot who < count + 1
    → slice_index counts (slot who) ≡ place who owners n
    → slice_index (next_counts (slot o) counts) (slot who)
    ≡ cond t (suc (place who owners n)) (place who owners n)
counts_step count owners n o who counts true q e l h f =
    let same : o ≡ who = same_owner-true o who q in
    ap (λ (w : Owner). slice_index (next_counts (slot w) counts) (slot who)) same
    ∙ get_or-set_same counts (slot who) (slice_index counts (slot who) + 1) 0 (omega (arith, h, l))
    ∙ add-one (slice_index counts (slot who)) ∙ ap suc f
counts_step count owners n o who counts false q e l h f =
    let other : slot who ≢ slot o =
    λ (same : slot who ≡ slot o).
    true≢false (sym (ap (λ (w : Owner). same_owner w who) (sym (same_slot who o same)) ∙ same_owner-refl who) ∙ q) in
    get_or-set_other counts (slot o) (slot who) (slice_index counts (slot o) + 1) 0 other ∙ f

-- a count is in range
pub count_inside : (count : ℕ) (owners : List Owner) (n : ℕ) (o : Owner) (counts places : List ℕ)
    → ArePlacesTo count owners n counts places → IfSome o (λ b. b < count)
    → (slot o < length counts) × (slice_index counts (slot o) ≤ n)
count_inside count owners n o counts places a h =
    let each : length counts ≡ count + 1 = a.each in
    let under : slot o < count + 1 = below o h in
    let same : slice_index counts (slot o) ≡ place o owners n = a.counted o under in
    let low : place o owners n ≤ n = place_low o owners n in
    (omega (arith, under, each), omega (arith, same, low))
  where
    below : (o : Owner) → IfSome o (λ b. b < count) → slot o < count + 1
    below None h = omega arith
    below (Some b) h = omega (arith, h)

placed_step : (owners : List Owner) (n : ℕ) (value : ℕ) (places : List ℕ) (column : ℕ) (who : Owner) (t : Bool)
    → (n == column) ≡ t → length places ≡ n → column < n + 1
    → (n ≡ column → value ≡ place who owners column)
    → (column < n → slice_index places column ≡ place who owners column)
    → slice_index (places ++ value ∷ []) column ≡ place who owners column
placed_step owners n value places column who true q long l here before =
    let same : n ≡ column = eqb-true n column q in
    get_or_push places value 0 column (long ∙ same) ∙ here same
placed_step owners n value places column who false q long l here before =
    let other : n ≡ column → ⊥ = eqb-false n column q in
    let under : column < n = omega (arith, l, other) in
    get_or_append_left places (value ∷ []) 0 column (omega (arith, under, long)) ∙ before under

pub places_more : (count : ℕ) (owners : List Owner) (n : ℕ) (o : Owner) (counts places : List ℕ)
    → slice_get owners n ≡ Some o → IfSome o (λ b. b < count) → ArePlacesTo count owners n counts places
    → ArePlacesTo count owners (n + 1) (next_counts (slot o) counts) (places ++ slice_index counts (slot o) ∷ [])
places_more count owners n o counts places e below a = record {
  long = length_push places (slice_index counts (slot o)) ∙ ap (λ m. m + 1) a.long;
  at = λ column who l h.
      placed_step owners n (slice_index counts (slot o)) places column who (n == column) refl a.long l
      (given column who h) (λ under. a.at column who under h);
  each = length-set counts (slot o) (slice_index counts (slot o) + 1) ∙ a.each;
  counted = λ who h.
      counts_step count owners n o who counts (same_owner o who) refl e a.each h (a.counted who h)
      ∙ sym (ap (place who owners) (add-one n) ∙ place_more who owners n o e);
}
  where
    under : (o : Owner) → IfSome o (λ b. b < count) → slot o < count + 1
    under None h = omega arith
    under (Some b) h = omega (arith, h)

    given : (column : ℕ) (who : Owner) → slice_get owners column ≡ Some who → n ≡ column
        → slice_index counts (slot o) ≡ place who owners column
    given column who h same =
        let is : o ≡ who = same_Some o who (sym e ∙ ap (λ m. slice_get owners m) same ∙ h) in
        a.counted o (under o below) ∙ ap (λ (w : Owner). place w owners n) is ∙ ap (place who owners) same

pub places_done : (count : ℕ) (owners : List Owner) (n : ℕ) (counts places : List ℕ)
    → ArePlacesTo count owners n counts places → n ≡ length owners → ArePlaces owners places
places_done count owners n counts places a e = record {
  long = a.long ∙ e;
  at = λ column who h.
      a.at column who (let l = slice_get_within owners column who h in omega (arith, l, e)) h;
}

-- a slice that was written back
pub written : (n : ℕ) (xs ys : List ℕ) → n ≡ length ys → length xs ≡ length ys
    → take n (xs ++ drop (length xs) ys) ≡ xs
written n xs ys e f =
    ap (λ zs. take n (xs ++ zs)) (drop_all (length xs) ys (omega (arith, f)))
    ∙ ap (take n) (append-nil xs) ∙ take_all n xs (omega (arith, e, f))

-- ---- rows

placed_terms : (places : List ℕ) (owners : List Owner) (block : ℕ) (terms : List Term) → ArePlaces owners places
    → AllByRecursion (λ (t : Term). slice_get owners t.column ≡ Some (Some block)) terms
    → map (λ (t : Term). record t { column = slice_index places t.column }) terms
    ≡ map (λ (t : Term). record t { column = place (Some block) owners t.column }) terms
placed_terms places owners block [] a h = refl
placed_terms places owners block (t ∷ ts) a h =
    ap₂ (λ (c : ℕ) (us : List Term). record t { column = c } ∷ us) (a.at t.column (Some block) h.0)
    (placed_terms places owners block ts a h.1)

-- rows of a block name columns by their places among the block's
pub placed_rows : (places : List ℕ) (owners : List Owner) (block : ℕ) (rows : List Row) → ArePlaces owners places
    → AllByRecursion (StandsOn owners block) rows
    → map (placed_row places) rows ≡ map (renumbered (Some block) owners) rows
placed_rows places owners block [] a h = refl
placed_rows places owners block (r ∷ rs) a h =
    ap₂ (λ (ts : List Term) (us : List Row). record r { terms = ts } ∷ us)
    (placed_terms places owners block r.terms a h.0) (placed_rows places owners block rs a h.1)

-- ---- places are in range

inside_step : {X : Type 0} (t : Bool) (p : ℕ) (x : X) (xs : List X) → p < length xs
    → cond t (suc p) p < length (cond t (x ∷ xs) xs)
inside_step true p x xs h = omega (arith, h)
inside_step false p x xs h = h

-- a column's place is below the number of its owner's columns
pub place_inside : {X : Type 0} (who : Owner) (owners : List Owner) (xs : List X) (column : ℕ)
    → slice_get owners column ≡ Some who → length xs ≡ length owners
    → place who owners column < length (picked who owners xs)
place_inside who [] xs column e l = absurd (none-some who e)
place_inside who (o ∷ os) [] column e l = absurd (omega (arith, l))
place_inside who (o ∷ os) (x ∷ xs) zero e l =
    let own : same_owner o who ≡ true =
    ap (λ (w : Owner). same_owner w who) (same_Some o who e) ∙ same_owner-refl who in
    let first : 0 < length (cond true (x ∷ picked who os xs) (picked who os xs)) = omega arith in
    subst (λ t. 0 < length (cond t (x ∷ picked who os xs) (picked who os xs))) (sym own) first
place_inside who (o ∷ os) (x ∷ xs) (suc column) e l =
    inside_step (same_owner o who) (place who os column) x (picked who os xs)
    (place_inside who os xs column e (omega (arith, l)))

renumbered_terms : {X : Type 0} (owners : List Owner) (block : ℕ) (xs : List X) (terms : List Term)
    → length xs ≡ length owners → AllByRecursion (λ (t : Term). slice_get owners t.column ≡ Some (Some block)) terms
    → AllByRecursion (λ (t : Term). t.column < length (picked (Some block) owners xs))
    (map (λ (t : Term). record t { column = place (Some block) owners t.column }) terms)
renumbered_terms owners block xs [] l h = tt
renumbered_terms owners block xs (t ∷ ts) l h =
    (place_inside (Some block) owners xs t.column h.0 l, renumbered_terms owners block xs ts l h.1)

-- the rows of a block, renumbered, stand on its columns
pub renumbered_rows : {X : Type 0} (owners : List Owner) (block : ℕ) (xs : List X) (rows : List Row)
    → length xs ≡ length owners → AllByRecursion (StandsOn owners block) rows
    → AllByRecursion (λ (row : Row). StandsBelow (length (picked (Some block) owners xs)) row.terms)
    (map (renumbered (Some block) owners) rows)
renumbered_rows owners block xs [] l h = tt
renumbered_rows owners block xs (r ∷ rs) l h = (
  All-from_recursion (λ (t : Term). t.column < length (picked (Some block) owners xs))
      (map (λ (t : Term). record t { column = place (Some block) owners t.column }) r.terms)
      (renumbered_terms owners block xs r.terms l h.0),
  renumbered_rows owners block xs rs l h.1,
)
