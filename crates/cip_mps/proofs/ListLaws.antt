-- Tests of lists, and lists that are made one value after another.
use Rattle.std.proofs.Common.{◌≡◌, ℕ, ◌+◌, ◌<◌, ◌≤◌, Bool, false, ◌||◌, List, [], ◌∷◌, ◌++◌, length, map, take, refl, sym, ap, ◌∙◌, subst}
use Rattle.std.specs.Prelude.{slice_index_or}
use Rattle.std.specs.List.{list_any}
use Rattle.std.proofs.lemmas.Bool.{or_from}
use Rattle.std.proofs.lemmas.List.Folds.{list_any_more}
use Rattle.std.proofs.lemmas.List.{map_more, take_all}

pub list_any_map : {X Y : Type 0} (p : X → Bool) (h : Y → X) (ys : List Y) → list_any p (map h ys) ≡ list_any (λ y. p (h y)) ys
list_any_map p h [] = refl
list_any_map p h (y ∷ ys) = ap (λ b. p (h y) || b) (list_any_map p h ys)

-- there is none
pub none_any : {X : Type 0} (p : X → Bool) (xs : List X) (k : ℕ) → length xs ≤ k → list_any p (take k xs) ≡ false → false ≡ list_any p xs
none_any p xs k l e = sym e ∙ ap (list_any p) (take_all k xs l)

-- one value more of a list that is made of another
pub mapped_more : {X Y : Type 0} (f : X → Y) (xs : List X) (k : ℕ) (x : X) (y : Y) (made new : List Y) → k < length xs → x ≡ slice_index_or xs k x → made ≡ map f (take k xs) → y ≡ f x → new ≡ made ++ y ∷ [] → new ≡ map f (take (k + 1) xs)
mapped_more f xs k x y made new within is so_far here more =
    more ∙ ap (λ ys. ys ++ y ∷ []) so_far ∙ ap (λ z. map f (take k xs) ++ z ∷ []) (here ∙ ap f is) ∙ sym (map_more f xs k x within)

-- all of them
pub mapped_all : {X Y : Type 0} (f : X → Y) (xs : List X) (k : ℕ) (made : List Y) → length xs ≤ k → made ≡ map f (take k xs) → made ≡ map f xs
mapped_all f xs k made end so_far = so_far ∙ ap (map f) (take_all k xs end)

-- one item more of which the test doesn't hold, of a list that is the same as another
pub none_at : {X : Type 0} (p : X → Bool) (xs ys : List X) (k : ℕ) (d : X) → ys ≡ xs → k < length ys → list_any p (take k xs) ≡ false → p (slice_index_or ys k d) ≡ false → list_any p (take (k + 1) xs) ≡ false
none_at p xs ys k d s l e h =
    subst (λ (zs : List _). list_any p (take (k + 1) zs) ≡ false) s
    (list_any_more p ys k d l ∙ or_from _ _ (subst (λ (zs : List _). list_any p (take k zs) ≡ false) (sym s) e) h)
