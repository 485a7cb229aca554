-- The places of names among names, and in the order of names.
use Rattle.std.proofs.Common.{◌≡◌, ℕ, zero, suc, ◌+◌, ◌<◌, ◌==◌, Bool, true, false, cond, ◌||◌, List, [], ◌∷◌, ◌++◌, length, Option, None, Some, refl, sym, ◌∙◌, ap, subst, inl, inr, ◌⊎◌, arith, Less, Equal, Greater, Ordering, is_eq, add-zero, zero-add}
use Rattle.std.specs.Prelude.{slice_get, nat_lt, IfSome, option_map}
use Rattle.std.proofs.lemmas.Bool.{ltb-true, eqb-true}
use Rattle.std.specs.Str.{bytes_eq}
use Rattle.std.specs.Map.{lookup}
use Rattle.std.specs.BTreeMap.{insert_entry}
use Rattle.std.specs.Ordering.{nat_cmp, match_ordering}
use Rattle.std.specs.List.{position_from, list_any}
use Rattle.std.proofs.lemmas.Slice.Eq.{bytes_eq-Decides}
use Rattle.cip_problem.specs.Names.{number_of}
use Rattle.cip_problem.specs.NamesOnce.{StandOnce}

-- ---- the first place

-- the first of two that is there
abbrev or_else : Option ℕ → Option ℕ → Option ℕ
or_else None other = other
or_else (Some k) other = Some k

position_push : {X : Type 0} (t : X → Bool) (i : ℕ) (xs : List X) (y : X) → position_from t i (xs ++ y ∷ []) ≡ or_else (position_from t i xs) (cond (t y) (Some (i + length xs)) None)
position_push t i [] y = ap (λ n. cond (t y) (Some n) None) (sym (add-zero i))
position_push t i (x ∷ xs) y = go (t x) (position_push t (i + 1) xs y)
  where
    go : (b : Bool) → position_from t (i + 1) (xs ++ y ∷ []) ≡ or_else (position_from t (i + 1) xs) (cond (t y) (Some (i + 1 + length xs)) None)
        → cond b (Some i) (position_from t (i + 1) (xs ++ y ∷ [])) ≡ or_else (cond b (Some i) (position_from t (i + 1) xs)) (cond (t y) (Some (i + suc (length xs))) None)
    go true h = refl
    go false h = h ∙ ap (λ n. or_else (position_from t (i + 1) xs) (cond (t y) (Some n) None)) (omega arith)

pub same : (a b : List ℕ) → bytes_eq a b ≡ true → a ≡ b
same a b h = (bytes_eq-Decides a b).0 h

-- the number of a name among names, one of which is new
pub number_push : (names : List (List ℕ)) (new name : List ℕ) → number_of names new ≡ None → number_of (names ++ new ∷ []) name ≡ cond (bytes_eq name new) (Some (length names)) (number_of names name)
number_push names new name absent = position_push (bytes_eq name) 0 names new ∙ go (bytes_eq name new) refl
  where
    right : (o : Option ℕ) → or_else o None ≡ o
    right None = refl
    right (Some k) = refl

    left : (o : Option ℕ) (p : Option ℕ) → o ≡ None → or_else o p ≡ p
    left None p e = refl
    left (Some k) p e = absurd (cc)

    go : (b : Bool) → bytes_eq name new ≡ b → or_else (number_of names name) (cond b (Some (0 + length names)) None) ≡ cond b (Some (length names)) (number_of names name)
    go true e =
        let n : name ≡ new = same name new e in
        left (number_of names name) (Some (0 + length names)) (ap (number_of names) n ∙ absent) ∙ ap Some (zero-add (length names))
    go false e = right (number_of names name)

position_below : {X : Type 0} (t : X → Bool) (i : ℕ) (xs : List X) (k : ℕ) → position_from t i xs ≡ Some k → k < i + length xs
position_below t i [] k e = absurd (cc)
position_below t i (x ∷ xs) k e = go (t x) e (position_below t (i + 1) xs k)
  where
    go : (b : Bool) → cond b (Some i) (position_from t (i + 1) xs) ≡ Some k → (position_from t (i + 1) xs ≡ Some k → k < i + 1 + length xs) → k < i + suc (length xs)
    go true p h = let q : i ≡ k = cc in omega (arith, q)
    go false p h = let q : k < i + 1 + length xs = h p in omega (arith, q)

pub number_below : (names : List (List ℕ)) (name : List ℕ) (k : ℕ) → number_of names name ≡ Some k → k < length names
number_below names name k e = let l : k < 0 + length names = position_below (bytes_eq name) 0 names k e in omega (arith, l)

-- ---- an order

module _ {K Q : Type 0} (f : K → Q) (c : Q → Q → Ordering) (e : Q → Q → Bool) (is_e : (x y : Q) → is_eq (c x y) ≡ e x y) (same_e : (x y : Q) → e x y ≡ true → x ≡ y) where
  -- the number that an order has for a key
  abbrev pub in_order : List (K × ℕ) → Q → Option ℕ
  in_order es q = lookup (λ k. is_eq (c q (f k))) es

  pub order_push : (es : List (K × ℕ)) (k : K) (v : ℕ) (q : Q) → in_order es (f k) ≡ None → in_order (insert_entry (λ x y. c (f x) (f y)) es k v) q ≡ cond (e q (f k)) (Some v) (in_order es q)
  order_push [] k v q absent = ap (λ b. cond b (Some v) None) (is_e q (f k))
  order_push (x ∷ es) k v q absent = go (c (f k) (f x.0)) refl (order_push es k v q)
    where
      rest : (b : Bool) → is_eq (c (f k) (f x.0)) ≡ b → cond b (Some x.1) (in_order es (f k)) ≡ None → in_order es (f k) ≡ None
      rest true p h = absurd (cc)
      rest false p h = h

      apart : (b : Bool) → is_eq (c (f k) (f x.0)) ≡ b → cond b (Some x.1) (in_order es (f k)) ≡ None → e (f k) (f x.0) ≡ false
      apart true p h = absurd (cc)
      apart false p h = sym (is_e (f k) (f x.0)) ∙ p

      swap : (a b : Bool) → e q (f x.0) ≡ a → e q (f k) ≡ b → e (f k) (f x.0) ≡ false → cond a (Some x.1) (cond b (Some v) (in_order es q)) ≡ cond b (Some v) (cond a (Some x.1) (in_order es q))
      swap true true p r n =
          let y : q ≡ f k = same_e q (f k) r in
          let z : e (f k) (f x.0) ≡ true = ap (λ w. e w (f x.0)) (sym y) ∙ p in absurd (cc)
      swap true false p r n = refl
      swap false true p r n = refl
      swap false false p r n = refl

      go : (o : Ordering) → c (f k) (f x.0) ≡ o
          → (in_order es (f k) ≡ None → in_order (insert_entry (λ x y. c (f x) (f y)) es k v) q ≡ cond (e q (f k)) (Some v) (in_order es q))
          → in_order (match_ordering o ((k, v) ∷ x ∷ es) ((x.0, v) ∷ es) (x ∷ insert_entry (λ x y. c (f x) (f y)) es k v)) q ≡ cond (e q (f k)) (Some v) (in_order (x ∷ es) q)
      go Less p more = ap (λ b. cond b (Some v) (in_order (x ∷ es) q)) (is_e q (f k))
      go Equal p more = let r : is_eq (c (f k) (f x.0)) ≡ true = ap is_eq p in let a = apart (is_eq (c (f k) (f x.0))) refl absent in let t : e (f k) (f x.0) ≡ true = sym (is_e (f k) (f x.0)) ∙ r in absurd (cc)
      go Greater p more =
          ap (λ t. cond (is_eq (c q (f x.0))) (Some x.1) t) (more (rest (is_eq (c (f k) (f x.0))) refl absent))
          ∙ ap (λ b. cond b (Some x.1) (cond (e q (f k)) (Some v) (in_order es q))) (is_e q (f x.0))
          ∙ swap (e q (f x.0)) (e q (f k)) refl refl (apart (is_eq (c (f k) (f x.0))) refl absent)
          ∙ ap (λ b. cond (e q (f k)) (Some v) (cond b (Some x.1) (in_order es q))) (sym (is_e q (f x.0)))

pub same_nat : (j k : ℕ) → (j == k) ≡ true → j ≡ k
same_nat j k e = eqb-true j k e

pub is_eq-nat_cmp : (j k : ℕ) → is_eq (nat_cmp j k) ≡ (j == k)
is_eq-nat_cmp j k = go (nat_lt j k) (j == k) refl refl
  where
    go : (a b : Bool) → nat_lt j k ≡ a → (j == k) ≡ b → is_eq (cond a Less (cond b Equal Greater)) ≡ b
    go false true p q = refl
    go false false p q = refl
    go true false p q = refl
    go true true p q = absurd (let l : j < k = ltb-true j k p in let e : j ≡ k = eqb-true j k q in omega (arith, l, e))

-- ---- names stay apart

pub get_push : (names : List (List ℕ)) (new name : List ℕ) (k : ℕ) → slice_get (names ++ new ∷ []) k ≡ Some name → (slice_get names k ≡ Some name) ⊎ ((k ≡ length names) × (name ≡ new))
get_push [] new name zero e = inr (refl, let q : new ≡ name = cc in sym q)
get_push [] new name (suc k) e = absurd (cc)
get_push (x ∷ xs) new name zero e = inl e
get_push (x ∷ xs) new name (suc k) e = elim (get_push xs new name k e) [ inl h ↦ inl h | inr h ↦ inr (ap suc h.0, h.1) ]

abbrev pub AreApart : List (List ℕ) → Type 0
AreApart names = (number : ℕ) (name : List ℕ) → slice_get names number ≡ Some name → number_of names name ≡ Some number

pub apart_push : (names : List (List ℕ)) (new : List ℕ) → number_of names new ≡ None → AreApart names → AreApart (names ++ new ∷ [])
apart_push names new absent apart k name e = number_push names new name absent ∙ go (get_push names new name k e)
  where
    old : (b : Bool) → bytes_eq name new ≡ b → number_of names name ≡ Some k → cond b (Some (length names)) (number_of names name) ≡ Some k
    old true p h = let n : name ≡ new = same name new p in let q : number_of names name ≡ None = ap (number_of names) n ∙ absent in absurd (cc)
    old false p h = h

    go : (slice_get names k ≡ Some name) ⊎ ((k ≡ length names) × (name ≡ new)) → cond (bytes_eq name new) (Some (length names)) (number_of names name) ≡ Some k
    go (inl h) = old (bytes_eq name new) refl (apart k name h)
    go (inr h) = ap (λ b. cond b (Some (length names)) (number_of names name)) ((bytes_eq-Decides name new).1 h.1) ∙ ap Some (sym h.0)

shift : (t : List ℕ → Bool) (i : ℕ) (xs : List (List ℕ)) → position_from t (i + 1) xs ≡ option_map (λ k. suc k) (position_from t i xs)
shift t i [] = refl
shift t i (x ∷ xs) = go (t x) (shift t (i + 1) xs)
  where
    go : (b : Bool) → position_from t (i + 1 + 1) xs ≡ option_map (λ k. suc k) (position_from t (i + 1) xs) → cond b (Some (i + 1)) (position_from t (i + 1 + 1) xs) ≡ option_map (λ k. suc k) (cond b (Some i) (position_from t (i + 1) xs))
    go true h = let e : i + 1 ≡ suc i = omega arith in ap Some e
    go false h = h

apart_tail : (x : List ℕ) (xs : List (List ℕ)) → AreApart (x ∷ xs) → AreApart xs
apart_tail x xs apart k name e = go (bytes_eq name x) (position_from (bytes_eq name) 0 xs) (shift (bytes_eq name) 0 xs) (apart (suc k) name e)
  where
    go : (b : Bool) (o : Option ℕ) → position_from (bytes_eq name) (0 + 1) xs ≡ option_map (λ j. suc j) o → cond b (Some 0) (position_from (bytes_eq name) (0 + 1) xs) ≡ Some (suc k) → o ≡ Some k
    go true o p q = absurd (cc)
    go false None p q = absurd (cc)
    go false (Some j) p q = let r : suc j ≡ suc k = cc (p, q) in let s : j ≡ k = omega (arith, r) in ap Some s

place_of : (name : List ℕ) (xs : List (List ℕ)) → list_any (bytes_eq name) xs ≡ true → (k : ℕ) × (slice_get xs k ≡ Some name)
place_of name [] e = absurd (cc)
place_of name (x ∷ xs) e = go (bytes_eq name x) refl e (place_of name xs)
  where
    go : (b : Bool) → bytes_eq name x ≡ b → (b || list_any (bytes_eq name) xs) ≡ true → (list_any (bytes_eq name) xs ≡ true → (k : ℕ) × (slice_get xs k ≡ Some name)) → (k : ℕ) × (slice_get (x ∷ xs) k ≡ Some name)
    go true p h rest = (0, ap Some (sym (same name x p)))
    go false p h rest = let found = rest h in (suc found.0, found.1)

-- no name stands twice
pub once : (names : List (List ℕ)) → AreApart names → StandOnce names
once [] apart = tt
once (x ∷ xs) apart = (go (list_any (bytes_eq x) xs) refl, once xs (apart_tail x xs apart))
  where
    go : (b : Bool) → list_any (bytes_eq x) xs ≡ b → list_any (bytes_eq x) xs ≡ false
    go false e = e
    go true e =
        let found = place_of x xs e in
        let number = apart (suc found.0) x found.1 in
        let here : bytes_eq x x ≡ true = (bytes_eq-Decides x x).1 refl in
        let first : number_of (x ∷ xs) x ≡ Some 0 = ap (λ b. cond b (Some 0) (position_from (bytes_eq x) (0 + 1) xs)) here in
        absurd (cc (number, first))

-- ---- a name that is found, and one name more

pub number_within : (names : List (List ℕ)) (name : List ℕ) (o : Option ℕ) → o ≡ number_of names name → IfSome o (λ number. number < length names)
number_within names name None e = tt
number_within names name (Some k) e = number_below names name k (sym e)

-- one name more, in the order and in the list
pub found_push : (names after : List (List ℕ)) (new name : List ℕ) (k : ℕ) (old found : Option ℕ) → k ≡ length names → number_of names new ≡ None
    → found ≡ cond (bytes_eq name new) (Some k) old → old ≡ number_of names name → after ≡ names ++ new ∷ [] → found ≡ number_of after name
found_push names after new name k old found l absent f o a =
    f ∙ ap (λ n. cond (bytes_eq name new) (Some n) old) l ∙ ap (cond (bytes_eq name new) (Some (length names))) o
    ∙ sym (number_push names new name absent) ∙ ap (λ ns. number_of ns name) (sym a)

pub apart_after : (names after : List (List ℕ)) (new : List ℕ) → number_of names new ≡ None → AreApart names → after ≡ names ++ new ∷ [] → AreApart after
apart_after names after new absent apart a = subst AreApart (sym a) (apart_push names new absent apart)
