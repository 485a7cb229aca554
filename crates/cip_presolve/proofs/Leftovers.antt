-- One more column that is gone, or that stays.
use Rattle.std.proofs.Common.{◌≡◌, ℕ, zero, suc, ◌+◌, Bool, true, false, List, [], ◌∷◌, ◌++◌, drop, refl, sym, ap, ◌∙◌, true≢false, add-one, append-nil, append_assoc, subst, length, ◌<◌, ◌≤◌, min, arith}
use Rattle.std.proofs.Math.ListN.{get_or}
use Rattle.std.specs.Prelude.{map}
use Rattle.cip_presolve.specs.EntriesLeft.{entries_left, old_numbers, new_numbers}
use Rattle.cip_presolve.proofs.CopiedParts.{past}

skip : {X : Type 0} (k : ℕ) (gone : List Bool) (xs : List X) → get_or gone k false ≡ true → entries_left (drop k gone) (drop k xs) ≡ entries_left (drop (suc k) gone) (drop (suc k) xs)
skip k [] xs h = absurd (true≢false (sym h))
skip zero (g ∷ gone) [] h = sym (past gone)
skip zero (true ∷ gone) (x ∷ xs) h = refl
skip zero (false ∷ gone) (x ∷ xs) h = absurd (true≢false (sym h))
skip (suc k) (g ∷ gone) [] h = past (drop k gone) ∙ sym (past (drop (suc k) gone))
skip (suc k) (g ∷ gone) (x ∷ xs) h = skip k gone xs h

nothing : {X : Type 0} (k : ℕ) (gone : List Bool) (xs : List X) → min (length gone) (length xs) ≤ k → entries_left (drop k gone) (drop k xs) ≡ []
nothing zero [] xs h = refl
nothing (suc k) [] xs h = refl
nothing zero (g ∷ gone) [] h = refl
nothing (suc k) (g ∷ gone) [] h = past (drop k gone)
nothing zero (g ∷ gone) (x ∷ xs) h = absurd (omega (arith, h))
nothing (suc k) (g ∷ gone) (x ∷ xs) h = nothing k gone xs (omega (arith, h))

-- past the shorter list nothing is left
pub left_end : {X : Type 0} (k : ℕ) (gone : List Bool) (xs left all : List X) → min (length gone) (length xs) ≤ k → left ++ entries_left (drop k gone) (drop k xs) ≡ all → left ≡ all
left_end k gone xs left all h e = rw (nothing k gone xs h, append-nil) at e

-- a column that is gone leaves nothing
pub skipped : {X : Type 0} (k : ℕ) (gone : List Bool) (xs left all : List X) → get_or gone k false ≡ true → left ++ entries_left (drop k gone) (drop k xs) ≡ all → left ++ entries_left (drop (k + 1) gone) (drop (k + 1) xs) ≡ all
skipped k gone xs left all h f = rw add-one (ap (λ t. left ++ t) (sym (skip k gone xs h)) ∙ f)

-- ---- an entry goes over from what is left to what is made

moved_over : {X : Type 0} (made more rest behind all : List X) (x : X) → more ≡ made ++ x ∷ [] → rest ≡ x ∷ behind → made ++ rest ≡ all → more ++ behind ≡ all
moved_over made more rest behind all x p e f =
    ap (λ t. t ++ behind) p ∙ append_assoc made (x ∷ []) behind ∙ ap (λ t. made ++ t) (sym e) ∙ f

take_one : {X : Type 0} (k : ℕ) (gone : List Bool) (xs : List X) (d : X) → k < length gone → k < length xs → get_or gone k false ≡ false → entries_left (drop k gone) (drop k xs) ≡ get_or xs k d ∷ entries_left (drop (suc k) gone) (drop (suc k) xs)
take_one k [] xs d l m h = absurd (omega (arith, l))
take_one k (g ∷ gone) [] d l m h = absurd (omega (arith, m))
take_one zero (true ∷ gone) (x ∷ xs) d l m h = absurd (true≢false h)
take_one zero (false ∷ gone) (x ∷ xs) d l m h = refl
take_one (suc k) (g ∷ gone) (x ∷ xs) d l m h = take_one k gone xs d (omega (arith, l)) (omega (arith, m)) h

-- a column that stays leaves its entry
pub taken : {X : Type 0} (k : ℕ) (gone : List Bool) (xs : List X) (d : X) (left more all : List X) → k < length gone → k < length xs → get_or gone k false ≡ false → more ≡ left ++ get_or xs k d ∷ [] → left ++ entries_left (drop k gone) (drop k xs) ≡ all → more ++ entries_left (drop (k + 1) gone) (drop (k + 1) xs) ≡ all
taken k gone xs d left more all l m h p f =
    rw add-one (moved_over left more (entries_left (drop k gone) (drop k xs)) (entries_left (drop (suc k) gone) (drop (suc k) xs)) all (get_or xs k d) p (take_one k gone xs d l m h) f)

-- the same where the entry is read as a value of its own
pub taken_item : {X : Type 0} (k : ℕ) (gone : List Bool) (xs : List X) (x : X) (left more all : List X) → k < length gone → k < length xs → get_or gone k false ≡ false → x ≡ get_or xs k x → more ≡ left ++ x ∷ [] → left ++ entries_left (drop k gone) (drop k xs) ≡ all → more ++ entries_left (drop (k + 1) gone) (drop (k + 1) xs) ≡ all
taken_item k gone xs x left more all l m h is p f =
    taken k gone xs x left more all l m h (p ∙ ap (λ t. left ++ t ∷ []) is) f

-- what a function makes of each entry
map_one : {X Y : Type 0} (f : X → Y) (k : ℕ) (xs : List X) (d : X) → k < length xs → map f (drop k xs) ≡ f (get_or xs k d) ∷ map f (drop (suc k) xs)
map_one f k [] d l = absurd (omega (arith, l))
map_one f zero (x ∷ xs) d l = refl
map_one f (suc k) (x ∷ xs) d l = map_one f k xs d (omega (arith, l))

pub map_more : {X Y : Type 0} (f : X → Y) (k : ℕ) (xs : List X) (d : X) (made more all : List Y) (y : Y) → k < length xs → y ≡ f (get_or xs k d) → more ≡ made ++ y ∷ [] → made ++ map f (drop k xs) ≡ all → more ++ map f (drop (k + 1) xs) ≡ all
map_more f k xs d made more all y l e p g =
    rw add-one (moved_over made more (map f (drop k xs)) (map f (drop (suc k) xs)) all (f (get_or xs k d)) (p ∙ ap (λ t. made ++ t ∷ []) e) (map_one f k xs d l) g)

pub length_map : {X Y : Type 0} (f : X → Y) (xs : List X) → length (map f xs) ≡ length xs
length_map f [] = refl
length_map f (x ∷ xs) = ap (λ n. suc n) (length_map f xs)

map_none : {X Y : Type 0} (f : X → Y) (k : ℕ) (xs : List X) → length xs ≤ k → map f (drop k xs) ≡ []
map_none f zero [] l = refl
map_none f (suc k) [] l = refl
map_none f zero (x ∷ xs) l = absurd (omega (arith, l))
map_none f (suc k) (x ∷ xs) l = map_none f k xs (omega (arith, l))

pub map_end : {X Y : Type 0} (f : X → Y) (k : ℕ) (xs : List X) (made all : List Y) → length xs ≤ k → made ++ map f (drop k xs) ≡ all → made ≡ all
map_end f k xs made all l g = rw (map_none f k xs l, append-nil) at g

-- ---- old numbers

old_gone : (n k : ℕ) (gone : List Bool) → k < length gone → get_or gone k false ≡ true → old_numbers n (drop k gone) ≡ old_numbers (n + 1) (drop (suc k) gone)
old_gone n k [] l h = absurd (omega (arith, l))
old_gone n zero (true ∷ gone) l h = refl
old_gone n zero (false ∷ gone) l h = absurd (true≢false (sym h))
old_gone n (suc k) (g ∷ gone) l h = old_gone n k gone (omega (arith, l)) h

old_kept : (n k : ℕ) (gone : List Bool) → k < length gone → get_or gone k false ≡ false → old_numbers n (drop k gone) ≡ n ∷ old_numbers (n + 1) (drop (suc k) gone)
old_kept n k [] l h = absurd (omega (arith, l))
old_kept n zero (true ∷ gone) l h = absurd (true≢false h)
old_kept n zero (false ∷ gone) l h = refl
old_kept n (suc k) (g ∷ gone) l h = old_kept n k gone (omega (arith, l)) h

pub old_skipped : (n k : ℕ) (gone : List Bool) (left all : List ℕ) → k < length gone → get_or gone k false ≡ true → left ++ old_numbers n (drop k gone) ≡ all → left ++ old_numbers (n + 1) (drop (k + 1) gone) ≡ all
old_skipped n k gone left all l h f =
    subst (λ j. left ++ old_numbers (n + 1) (drop j gone) ≡ all) (sym (add-one k)) (ap (λ t. left ++ t) (sym (old_gone n k gone l h)) ∙ f)

pub old_taken : (n k : ℕ) (gone : List Bool) (left more all : List ℕ) → k < length gone → get_or gone k false ≡ false → more ≡ left ++ n ∷ [] → left ++ old_numbers n (drop k gone) ≡ all → more ++ old_numbers (n + 1) (drop (k + 1) gone) ≡ all
old_taken n k gone left more all l h p f =
    subst (λ j. more ++ old_numbers (n + 1) (drop j gone) ≡ all) (sym (add-one k))
    (moved_over left more (old_numbers n (drop k gone)) (old_numbers (n + 1) (drop (suc k) gone)) all n p (old_kept n k gone l h) f)

old_none : (n k : ℕ) (gone : List Bool) → length gone ≤ k → old_numbers n (drop k gone) ≡ []
old_none n zero [] l = refl
old_none n (suc k) [] l = refl
old_none n zero (g ∷ gone) l = absurd (omega (arith, l))
old_none n (suc k) (g ∷ gone) l = old_none n k gone (omega (arith, l))

pub old_end : (n k : ℕ) (gone : List Bool) (left all : List ℕ) → length gone ≤ k → left ++ old_numbers n (drop k gone) ≡ all → left ≡ all
old_end n k gone left all l f = rw (old_none n k gone l, append-nil) at f

-- ---- new numbers

new_gone : (n k : ℕ) (gone : List Bool) → k < length gone → get_or gone k false ≡ true → new_numbers n (drop k gone) ≡ n ∷ new_numbers n (drop (suc k) gone)
new_gone n k [] l h = absurd (omega (arith, l))
new_gone n zero (true ∷ gone) l h = refl
new_gone n zero (false ∷ gone) l h = absurd (true≢false (sym h))
new_gone n (suc k) (g ∷ gone) l h = new_gone n k gone (omega (arith, l)) h

new_kept : (n k : ℕ) (gone : List Bool) → k < length gone → get_or gone k false ≡ false → new_numbers n (drop k gone) ≡ n ∷ new_numbers (n + 1) (drop (suc k) gone)
new_kept n k [] l h = absurd (omega (arith, l))
new_kept n zero (true ∷ gone) l h = absurd (true≢false h)
new_kept n zero (false ∷ gone) l h = refl
new_kept n (suc k) (g ∷ gone) l h = new_kept n k gone (omega (arith, l)) h

pub new_skipped : (n k : ℕ) (gone : List Bool) (made more all : List ℕ) → k < length gone → get_or gone k false ≡ true → more ≡ made ++ n ∷ [] → made ++ new_numbers n (drop k gone) ≡ all → more ++ new_numbers n (drop (k + 1) gone) ≡ all
new_skipped n k gone made more all l h p f =
    rw add-one (moved_over made more (new_numbers n (drop k gone)) (new_numbers n (drop (suc k) gone)) all n p (new_gone n k gone l h) f)

pub new_taken : (n k : ℕ) (gone : List Bool) (made more all : List ℕ) → k < length gone → get_or gone k false ≡ false → more ≡ made ++ n ∷ [] → made ++ new_numbers n (drop k gone) ≡ all → more ++ new_numbers (n + 1) (drop (k + 1) gone) ≡ all
new_taken n k gone made more all l h p f =
    subst (λ j. more ++ new_numbers (n + 1) (drop j gone) ≡ all) (sym (add-one k))
    (moved_over made more (new_numbers n (drop k gone)) (new_numbers (n + 1) (drop (suc k) gone)) all n p (new_kept n k gone l h) f)

new_none : (n k : ℕ) (gone : List Bool) → length gone ≤ k → new_numbers n (drop k gone) ≡ []
new_none n zero [] l = refl
new_none n (suc k) [] l = refl
new_none n zero (g ∷ gone) l = absurd (omega (arith, l))
new_none n (suc k) (g ∷ gone) l = new_none n k gone (omega (arith, l))

pub new_end : (n k : ℕ) (gone : List Bool) (made all : List ℕ) → length gone ≤ k → made ++ new_numbers n (drop k gone) ≡ all → made ≡ all
new_end n k gone made all l f = rw (new_none n k gone l, append-nil) at f
