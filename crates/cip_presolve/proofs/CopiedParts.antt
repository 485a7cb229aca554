-- Names that stand once.
use Rattle.std.proofs.Common.{◌≡◌, ℕ, zero, suc, ◌+◌, ◌<◌, ◌≤◌, true, false, Bool, List, [], ◌∷◌, ◌++◌, length, Option, None, Some, cond, take, slice_get, refl, sym, ap, ◌∙◌, subst, arith, true≢false, add-one}
use Rattle.std.specs.List.{list_any, position_from}
use Rattle.std.specs.Str.{bytes_eq}
use Rattle.std.specs.Cmp.Lexicographic.{bytes_decides}
use Rattle.std.proofs.lemmas.Option.{none-some, same_Some}
use Rattle.cip_problem.specs.Names.{number_of}
use Rattle.cip_problem.specs.NamesOnce.{StandOnce}
use Rattle.std.proofs.Math.ListN.{get_or}
use Rattle.std.proofs.lemmas.Bool.{or_parts}
use Rattle.cip_presolve.specs.EntriesLeft.{entries_left}
use Rattle.cip_presolve.proofs.Free.{take_whole}

-- a name that stands in a list is another than one that doesn't
not_among : (x : List ℕ) (names : List (List ℕ)) (n : ℕ) (name : List ℕ) → list_any (bytes_eq x) names ≡ false → slice_get names n ≡ Some name → bytes_eq x name ≡ false
not_among x [] n name h e = absurd (none-some name e)
not_among x (y ∷ names) zero name h e = subst (λ t. bytes_eq x t ≡ false) (same_Some y name e) (or_parts (bytes_eq x y) (list_any (bytes_eq x) names) h).0
not_among x (y ∷ names) (suc n) name h e = not_among x names n name (or_parts (bytes_eq x y) (list_any (bytes_eq x) names) h).1 e

turned : (x y : List ℕ) (t : Bool) → bytes_eq y x ≡ t → bytes_eq x y ≡ false → bytes_eq y x ≡ false
turned x y true e h = absurd (true≢false (sym ((bytes_decides x y).1 (sym ((bytes_decides y x).0 e))) ∙ h))
turned x y false e h = e

none_before : (names : List (List ℕ)) (n k : ℕ) (name : List ℕ) → StandOnce names → slice_get names n ≡ Some name → position_from (bytes_eq name) k (take n names) ≡ None
none_before [] n k name h e = absurd (none-some name e)
none_before (x ∷ names) zero k name h e = refl
none_before (x ∷ names) (suc n) k name h e =
    let f : bytes_eq name x ≡ false = turned x name (bytes_eq name x) refl (not_among x names n name h.0 e) in
    rw f (none_before names n (k + 1) name h.1 e)

-- so the names before it don't have it
pub once_none : (names : List (List ℕ)) (n : ℕ) (name : List ℕ) → StandOnce names → slice_get names n ≡ Some name → number_of (take n names) name ≡ None
once_none names n name h e = none_before names n 0 name h e

-- ---- names of what is left

none_parts : (t : Bool) (k : ℕ) (o : Option ℕ) → cond t (Some k) o ≡ None → (t ≡ false) × (o ≡ None)
none_parts true k o h = absurd (none-some k (sym h))
none_parts false k o h = (refl, h)

none_left : (gone : List Bool) (names : List (List ℕ)) (name : List ℕ) (k j : ℕ) → position_from (bytes_eq name) k names ≡ None → position_from (bytes_eq name) j (entries_left gone names) ≡ None
none_left [] names name k j h = refl
none_left (g ∷ gone) [] name k j h = refl
none_left (true ∷ gone) (n ∷ ns) name k j h = none_left gone ns name (k + 1) j (none_parts (bytes_eq name n) k (position_from (bytes_eq name) (k + 1) ns) h).1
none_left (false ∷ gone) (n ∷ ns) name k j h =
    let p = none_parts (bytes_eq name n) k (position_from (bytes_eq name) (k + 1) ns) h in
    rw p.0 (none_left gone ns name (k + 1) (j + 1) p.1)

pub left_none : (gone : List Bool) (names : List (List ℕ)) (n : ℕ) (name : List ℕ) → StandOnce names → slice_get names n ≡ Some name → number_of (entries_left (take n gone) (take n names)) name ≡ None
left_none gone names n name h e = none_left (take n gone) (take n names) name 0 0 (none_before names n 0 name h e)

-- one entry more
pub past : {X : Type 0} (gone : List Bool) → entries_left {X = X} gone [] ≡ []
past [] = refl
past (g ∷ gone) = refl

skip_next : {X : Type 0} (gone : List Bool) (xs : List X) (k : ℕ) → get_or gone k false ≡ true → entries_left (take (suc k) gone) (take (suc k) xs) ≡ entries_left (take k gone) (take k xs)
skip_next [] xs k h = absurd (true≢false (sym h))
skip_next (true ∷ gone) [] zero h = refl
skip_next (true ∷ gone) (x ∷ xs) zero h = refl
skip_next (false ∷ gone) xs zero h = absurd (true≢false (sym h))
skip_next (g ∷ gone) [] (suc k) h = refl
skip_next (true ∷ gone) (x ∷ xs) (suc k) h = skip_next gone xs k h
skip_next (false ∷ gone) (x ∷ xs) (suc k) h = ap (λ t. x ∷ t) (skip_next gone xs k h)

take_next : {X : Type 0} (gone : List Bool) (xs : List X) (k : ℕ) (x : X) → k < length gone → get_or gone k false ≡ false → slice_get xs k ≡ Some x → entries_left (take (suc k) gone) (take (suc k) xs) ≡ entries_left (take k gone) (take k xs) ++ x ∷ []
take_next [] xs k x i h e = absurd (omega (arith, i))
take_next (g ∷ gone) [] k x i h e = absurd (none-some x e)
take_next (true ∷ gone) (y ∷ xs) zero x i h e = absurd (true≢false h)
take_next (false ∷ gone) (y ∷ xs) zero x i h e = ap (λ t. t ∷ []) (same_Some y x e)
take_next (true ∷ gone) (y ∷ xs) (suc k) x i h e = take_next gone xs k x (omega (arith, i)) h e
take_next (false ∷ gone) (y ∷ xs) (suc k) x i h e = ap (λ t. y ∷ t) (take_next gone xs k x (omega (arith, i)) h e)

-- the names that are left of the first ones
pub record NamesTo (gone : List Bool) (names left : List (List ℕ)) (n : ℕ) : Type 0 where
  pub is : left ≡ entries_left (take n gone) (take n names)

pub no_names : (gone : List Bool) (names : List (List ℕ)) → NamesTo gone names [] 0
no_names gone names = record { is = refl }

pub names_skip : (gone : List Bool) (names left : List (List ℕ)) (n : ℕ) → NamesTo gone names left n → get_or gone n false ≡ true → NamesTo gone names left (n + 1)
names_skip gone names left n m h = record { is = m.is ∙ rw add-one (sym (skip_next gone names n h)) }

pub names_take : (gone : List Bool) (names left new : List (List ℕ)) (n : ℕ) (name : List ℕ) → NamesTo gone names left n → n < length gone → get_or gone n false ≡ false → slice_get names n ≡ Some name → new ≡ left ++ name ∷ [] → NamesTo gone names new (n + 1)
names_take gone names left new n name m i h e k = record { is = k ∙ ap (λ t. t ++ name ∷ []) m.is ∙ rw add-one (sym (take_next gone names n name i h e)) }

pub new_name : (gone : List Bool) (names left : List (List ℕ)) (n : ℕ) (name : List ℕ) → NamesTo gone names left n → StandOnce names → slice_get names n ≡ Some name → number_of left name ≡ None
new_name gone names left n name m h e = ap (λ ns. number_of ns name) m.is ∙ left_none gone names n name h e

pub all_names : (gone : List Bool) (names left : List (List ℕ)) (n : ℕ) → NamesTo gone names left n → length gone ≤ n → length gone ≡ length names → left ≡ entries_left gone names
all_names gone names left n m e l = m.is ∙ ap (λ t. entries_left t (take n names)) (take_whole gone n e) ∙ ap (λ t. entries_left gone t) (take_whole names n (omega (arith, e, l)))

-- ---- all names

pub record CopiedTo (names copy : List (List ℕ)) (n : ℕ) : Type 0 where
  pub is : copy ≡ take n names

pub none_copied : (names : List (List ℕ)) → CopiedTo names [] 0
none_copied names = record { is = refl }

pub copied_new : (names copy : List (List ℕ)) (n : ℕ) (name : List ℕ) → CopiedTo names copy n → StandOnce names → slice_get names n ≡ Some name → number_of copy name ≡ None
copied_new names copy n name c h e = ap (λ ns. number_of ns name) c.is ∙ once_none names n name h e

take_one : (names : List (List ℕ)) (n : ℕ) (name : List ℕ) → slice_get names n ≡ Some name → take n names ++ name ∷ [] ≡ take (suc n) names
take_one [] n name e = absurd (none-some name e)
take_one (x ∷ names) zero name e = ap (λ t. t ∷ []) (sym (same_Some x name e))
take_one (x ∷ names) (suc n) name e = ap (λ t. x ∷ t) (take_one names n name e)

pub one_copied : (names copy new : List (List ℕ)) (n : ℕ) (name : List ℕ) → CopiedTo names copy n → slice_get names n ≡ Some name → new ≡ copy ++ name ∷ [] → CopiedTo names new (n + 1)
one_copied names copy new n name c e k = record { is = k ∙ ap (λ t. t ++ name ∷ []) c.is ∙ take_one names n name e ∙ rw add-one refl }

pub all_copied : (names copy : List (List ℕ)) (n : ℕ) → CopiedTo names copy n → length names ≤ n → copy ≡ names
all_copied names copy n c e = c.is ∙ take_whole names n e

pub ruleset names_stand = (no_names, names_skip, names_take, new_name, all_names)

pub ruleset copying = (none_copied, copied_new, one_copied, all_copied)
