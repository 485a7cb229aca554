-- What is set aside of a kit.
use Rattle.std.proofs.Common.{◌≡◌, ℕ, Bool, true, false, List, [], ◌∷◌, ◌++◌, length, map, cond, refl, sym, ap, ap₂, ◌∙◌, subst, arith, append_assoc, append-nil, Bor}
use Rattle.std.specs.Prelude.{◌||◌, ◌==◌, not, filter, None}
use Rattle.std.specs.List.{list_any}
use Rattle.std.specs.Str.{bytes_eq}
use Rattle.std.proofs.lemmas.Bool.{eqb-true}
use Rattle.std.proofs.lemmas.List.{map-append}
use Rattle.cip_plugin.specs.Who.{Who}
use Rattle.cip_roster.specs.Closed.{Back, back}
use Rattle.cip_solve.specs.Kits.{Stock, IsFew, is_off, less_off}
use Rattle.cip_rows.proofs.KeptRows.{length-filtered}

-- ---- names

any_map : {A B : Type 0} (test : B → Bool) (f : A → B) (xs : List A) → list_any test (map f xs) ≡ list_any (λ x. test (f x)) xs
any_map test f [] = refl
any_map test f (x ∷ xs) = ap (λ (rest : Bool). test (f x) || rest) (any_map test f xs)

abbrev pub told : List (Bor (List ℕ)) → List (List ℕ)
told names = map (λ name. name.now) names

-- a plugin is off where its name is one of these, which are lent
pub off_by : (names : List (Bor (List ℕ))) (who : Who) (label : List ℕ) (test : Bool) → label ≡ who.label → test ≡ list_any (λ other. bytes_eq label other.now) names → is_off (told names) who ≡ test
off_by names who label test l e =
    any_map (λ name. bytes_eq who.label name) (λ (name : Bor (List ℕ)). name.now) names
    ∙ sym (e ∙ ap (λ (own : List ℕ). list_any (λ (other : Bor (List ℕ)). bytes_eq own other.now) names) l)

pub none_named : (names : List (Bor (List ℕ))) (test : Bool) → test ≡ (length names == 0) → test ≡ true → told names ≡ []
none_named [] test e t = refl
none_named (name ∷ names) test e t = absurd (omega (arith, eqb-true _ _ (sym e ∙ t)))

-- ---- what passes a test

filter_cond : {A : Type 0} (p : A → Bool) (x : A) (xs : List A) (b : Bool) → p x ≡ b → filter p (x ∷ xs) ≡ cond b (x ∷ filter p xs) (filter p xs)
filter_cond p x xs b e = ap (λ (c : Bool). cond c (x ∷ filter p xs) (filter p xs)) e

mapped_by : {A B : Type 0} (p : B → Bool) (f : A → B) (x : A) (xs : List A) (b : Bool) → p (f x) ≡ b → map f (filter (λ y. p (f y)) xs) ≡ filter p (map f xs) → map f (filter (λ y. p (f y)) (x ∷ xs)) ≡ filter p (map f (x ∷ xs))
mapped_by p f x xs true e rest = ap (map f) (filter_cond (λ y. p (f y)) x xs true e) ∙ (ap (λ ys. f x ∷ ys) rest ∙ sym (filter_cond p (f x) (map f xs) true e))
mapped_by p f x xs false e rest = ap (map f) (filter_cond (λ y. p (f y)) x xs false e) ∙ (rest ∙ sym (filter_cond p (f x) (map f xs) false e))

filter_mapped : {A B : Type 0} (p : B → Bool) (f : A → B) (xs : List A) → map f (filter (λ x. p (f x)) xs) ≡ filter p (map f xs)
filter_mapped p f [] = refl
filter_mapped p f (x ∷ xs) = mapped_by p f x xs (p (f x)) refl (filter_mapped p f xs)

-- ---- one plugin more

-- it passes, and goes behind what is there
pub kept_more : {A : Type 0} (p : A → Bool) (kept new : List A) (x : A) (rest whole all : List A) → p x ≡ true → whole ≡ x ∷ rest → new ≡ kept ++ x ∷ [] → kept ++ filter p whole ≡ all → new ++ filter p rest ≡ all
kept_more p kept new x rest whole all e w n h =
    ap (λ xs. xs ++ filter p rest) n ∙ (append_assoc kept (x ∷ []) (filter p rest)
    ∙ (ap (λ ys. kept ++ ys) (sym (ap (filter p) w ∙ filter_cond p x rest true e)) ∙ h))

-- and so does what is left of it
pub spent_more : {A B : Type 0} (left : A → B) (p : A → Bool) (spent new : List B) (x : A) (y : B) (rest whole : List A) (all : List B) → p x ≡ true → whole ≡ x ∷ rest → y ≡ left x → new ≡ spent ++ y ∷ [] → spent ++ map left (filter p whole) ≡ all → new ++ map left (filter p rest) ≡ all
spent_more left p spent new x y rest whole all e w l n h =
    ap (λ ys. ys ++ map left (filter p rest)) (n ∙ ap (λ z. spent ++ z ∷ []) l) ∙ (append_assoc spent (left x ∷ []) (map left (filter p rest))
    ∙ (ap (λ ys. spent ++ map left ys) (sym (ap (filter p) w ∙ filter_cond p x rest true e)) ∙ h))

-- it doesn't pass, and is left out
pub kept_same : {A : Type 0} (p : A → Bool) (kept : List A) (x : A) (rest whole all : List A) → p x ≡ false → whole ≡ x ∷ rest → kept ++ filter p whole ≡ all → kept ++ filter p rest ≡ all
kept_same p kept x rest whole all e w h = ap (λ ys. kept ++ ys) (sym (ap (filter p) w ∙ filter_cond p x rest false e)) ∙ h

pub spent_same : {A B : Type 0} (left : A → B) (p : A → Bool) (spent : List B) (x : A) (rest whole : List A) (all : List B) → p x ≡ false → whole ≡ x ∷ rest → spent ++ map left (filter p whole) ≡ all → spent ++ map left (filter p rest) ≡ all
spent_same left p spent x rest whole all e w h = ap (λ ys. spent ++ map left ys) (sym (ap (filter p) w ∙ filter_cond p x rest false e)) ∙ h

-- none is left
pub kept_all : {A : Type 0} (p : A → Bool) (kept first : List A) (done start whole : List A) → done ≡ [] → start ≡ whole → kept ++ filter p done ≡ first ++ filter p start → kept ≡ first ++ filter p whole
kept_all p kept first done start whole d s h =
    sym (append-nil kept) ∙ (sym (ap (λ xs. kept ++ filter p xs) d) ∙ (h ∙ ap (λ xs. first ++ filter p xs) s))

pub spent_all : {A B : Type 0} (left : A → B) (p : A → Bool) (spent first : List B) (done start whole : List A) → done ≡ [] → start ≡ whole → spent ++ map left (filter p done) ≡ first ++ map left (filter p start) → spent ≡ first ++ map left (filter p whole)
spent_all left p spent first done start whole d s h =
    sym (append-nil spent) ∙ (sym (ap (λ xs. spent ++ map left (filter p xs)) d) ∙ (h ∙ ap (λ xs. first ++ map left (filter p xs)) s))

-- ---- the kit

pub still_few : (names : List (List ℕ)) (stock : Stock) → IsFew stock → IsFew (less_off names stock)
still_few names stock few = omega (arith, few, length-filtered (λ who. not (is_off names who)) stock.start)

all_stay : (whos : List Who) → filter (λ who. not (is_off [] who)) whos ≡ whos
all_stay [] = refl
all_stay (who ∷ whos) = ap (λ rest. who ∷ rest) (all_stay whos)

none_leave : (whos : List Who) → filter (is_off []) whos ≡ []
none_leave [] = refl
none_leave (who ∷ whos) = none_leave whos

abbrev stock : (start shelf : List Who) (spent : List Back) → Stock
stock start shelf spent = record { start = start; shelf = shelf; spent = spent }

same_stock : {a b c d : List Who} {s t : List Back} → a ≡ b → c ≡ d → s ≡ t → stock a c s ≡ stock b d t
same_stock e f g = cc

-- without names a kit is as it was
pub none_off : (names : List (List ℕ)) (kit : Stock) → names ≡ [] → kit ≡ less_off names kit
none_off names kit e =
    subst (λ ns. kit ≡ less_off ns kit) (sym e)
    (sym (same_stock (all_stay kit.start) refl (ap (λ whos. kit.spent ++ map (λ who. back None who) whos) (none_leave kit.start) ∙ append-nil kit.spent)))

shown_left : {A S : Type 0} (who : A → Who) (left : A → S) (shown : S → Back) → ((x : A) → shown (left x) ≡ back None (who x)) → (xs : List A) → map shown (map left xs) ≡ map (λ w. back None w) (map who xs)
shown_left who left shown same [] = refl
shown_left who left shown same (x ∷ xs) = ap₂ (λ b bs. b ∷ bs) (same x) (shown_left who left shown same xs)

-- what was parted makes the kit without those that are off
pub parted : {A S : Type 0} (who : A → Who) (left : A → S) (shown : S → Back) (names : List (List ℕ)) (start shelf none kept : List A) (olds held news : List S) → none ≡ [] → kept ≡ none ++ filter (λ x. not (is_off names (who x))) start → held ≡ olds → news ≡ held ++ map left (filter (λ x. is_off names (who x)) start) → ((x : A) → shown (left x) ≡ back None (who x)) → stock (map who kept) (map who shelf) (map shown news) ≡ less_off names (stock (map who start) (map who shelf) (map shown olds))
parted who left shown names start shelf none kept olds held news n k h s same =
    let staying = k ∙ ap (λ xs. xs ++ filter (λ x. not (is_off names (who x))) start) n in
    let leaving = s ∙ ap (λ xs. xs ++ map left (filter (λ x. is_off names (who x)) start)) h in
    same_stock (ap (map who) staying ∙ filter_mapped (λ w. not (is_off names w)) who start) refl
    (ap (map shown) leaving ∙ (map-append shown olds (map left (filter (λ x. is_off names (who x)) start))
    ∙ ap (λ backs. map shown olds ++ backs) (shown_left who left shown same (filter (λ x. is_off names (who x)) start) ∙ ap (map (λ w. back None w)) (filter_mapped (is_off names) who start))))
