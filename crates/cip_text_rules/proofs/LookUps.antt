-- Look-ups by number stand for those by name, and a write at the number of a name for a change of what is mapped.
use Rattle.std.proofs.Common.{◌≡◌, ℕ, suc, Bool, true, false, not, cond, ◌||◌, List, [], ◌∷◌, ◌++◌, length, map, Option, None, Some, refl, sym, ap, ◌∙◌}
use Rattle.std.specs.Prelude.{is_none, is_some, ⊤}
use Rattle.std.specs.Str.{bytes_eq}
use Rattle.std.specs.Option.{option_map}
use Rattle.std.specs.List.{AllByRecursion}
use Rattle.std.proofs.lemmas.Bool.{or_from}
use Rattle.cip_text_rules.specs.MpsWords.{next, number_in, is_in}
use Rattle.cip_text_rules.specs.MpsFacts.{GivenRow, GivenColumn}
use Rattle.cip_text_rules.specs.MpsBounds.{Bounded, unbounded}
use Rattle.cip_text_rules.specs.MpsRules.{row_in, column_in}
use Rattle.cip_text_rules.proofs.Quiet.{left_false, right_false}
use Rattle.cip_text_rules.proofs.MpsNames.{bytes_same, bytes_self, bytes_flip}
use Rattle.cip_text_rules.specs.MpsState.{RowRead, no_row, item_at}
use Rattle.cip_text_rules.specs.MpsSteps.{changed}

-- ---- lists

pub all_weaker : {X : Type 0} (P Q : X → Type 0) → ((x : X) → P x → Q x) → (xs : List X) → AllByRecursion P xs → AllByRecursion Q xs
all_weaker P Q f [] h = tt
all_weaker P Q f (x ∷ xs) h = (f x h.0, all_weaker P Q f xs h.1)

-- ---- names

pub not_some : (o : Option ℕ) → not (is_some o) ≡ is_none o
not_some None = refl
not_some (Some k) = refl

some_next : (o : Option ℕ) → is_some (next o) ≡ is_some o
some_next None = refl
some_next (Some k) = refl

pub is_in-cons : (x : List ℕ) (xs : List (List ℕ)) (name : List ℕ) → is_in (x ∷ xs) name ≡ (bytes_eq name x || is_in xs name)
is_in-cons x xs name = go (bytes_eq name x)
  where
    go : (b : Bool) → is_some (cond b (Some 0) (next (number_in xs name))) ≡ (b || is_in xs name)
    go true = refl
    go false = some_next (number_in xs name)

or_same : (a b c : Bool) → (a || (b || c)) ≡ ((a || b) || c)
or_same true b c = refl
or_same false b c = refl

pub is_in-append : (xs ys : List (List ℕ)) (name : List ℕ) → is_in (xs ++ ys) name ≡ (is_in xs name || is_in ys name)
is_in-append [] ys name = refl
is_in-append (x ∷ xs) ys name =
    is_in-cons x (xs ++ ys) name ∙ ap (λ b. bytes_eq name x || b) (is_in-append xs ys name)
    ∙ or_same (bytes_eq name x) (is_in xs name) (is_in ys name) ∙ ap (λ b. b || is_in ys name) (sym (is_in-cons x xs name))

pub is_in-left : (xs ys : List (List ℕ)) (name : List ℕ) → is_in xs name ≡ true → is_in (xs ++ ys) name ≡ true
is_in-left xs ys name e = is_in-append xs ys name ∙ ap (λ b. b || is_in ys name) e

or_true : (b : Bool) → (b || true) ≡ true
or_true true = refl
or_true false = refl

pub is_in-push : (xs : List (List ℕ)) (name : List ℕ) → is_in (xs ++ name ∷ []) name ≡ true
is_in-push xs name =
    is_in-append xs (name ∷ []) name ∙ ap (λ b. is_in xs name || b) (is_in-cons name [] name ∙ ap (λ b. b || false) (bytes_self name)) ∙ or_true (is_in xs name)

-- the number of a name stays where names are added
pub number_in-left : (xs ys : List (List ℕ)) (name : List ℕ) → is_in xs name ≡ true → number_in (xs ++ ys) name ≡ number_in xs name
number_in-left [] ys name e = absurd (cc)
number_in-left (x ∷ xs) ys name e = go (bytes_eq name x) (sym (is_in-cons x xs name) ∙ e) (number_in-left xs ys name)
  where
    go : (b : Bool) → (b || is_in xs name) ≡ true → (is_in xs name ≡ true → number_in (xs ++ ys) name ≡ number_in xs name) → cond b (Some 0) (next (number_in (xs ++ ys) name)) ≡ cond b (Some 0) (next (number_in xs name))
    go true e h = refl
    go false e h = ap next (h e)

-- a name that is new gets the next number
pub number_in-push : (xs : List (List ℕ)) (name : List ℕ) → is_in xs name ≡ false → number_in (xs ++ name ∷ []) name ≡ Some (length xs)
number_in-push [] name e = ap (λ b. cond b (Some 0) (next None)) (bytes_self name)
number_in-push (x ∷ xs) name e = go (bytes_eq name x) (sym (is_in-cons x xs name) ∙ e) (number_in-push xs name)
  where
    go : (b : Bool) → (b || is_in xs name) ≡ false → (is_in xs name ≡ false → number_in (xs ++ name ∷ []) name ≡ Some (length xs)) → cond b (Some 0) (next (number_in (xs ++ name ∷ []) name)) ≡ Some (suc (length xs))
    go true e h = absurd (cc)
    go false e h = ap next (h e)

pub number_none : (xs : List (List ℕ)) (name : List ℕ) → is_in xs name ≡ false → number_in xs name ≡ None
number_none xs name e = go (number_in xs name) e
  where
    go : (o : Option ℕ) → is_some o ≡ false → o ≡ None
    go None e = refl
    go (Some k) e = absurd (cc)

pub none_number : (xs : List (List ℕ)) (name : List ℕ) → number_in xs name ≡ None → is_in xs name ≡ false
none_number xs name e = ap is_some e

pub number_some : (xs : List (List ℕ)) (name : List ℕ) → is_in xs name ≡ true → (k : ℕ) × (number_in xs name ≡ Some k)
number_some xs name e = go (number_in xs name) refl e
  where
    go : (o : Option ℕ) → number_in xs name ≡ o → is_some o ≡ true → (k : ℕ) × (number_in xs name ≡ Some k)
    go None p e = absurd (cc)
    go (Some k) p e = (k, p)

-- no name stands twice
abbrev pub AreApart : List (List ℕ) → Type 0
AreApart [] = ⊤
AreApart (name ∷ names) = (is_in names name ≡ false) × AreApart names

pub apart_push : (xs : List (List ℕ)) (name : List ℕ) → AreApart xs → is_in xs name ≡ false → AreApart (xs ++ name ∷ [])
apart_push [] name h e = (refl, tt)
apart_push (x ∷ xs) name h e =
    let other : (bytes_eq name x || is_in xs name) ≡ false = sym (is_in-cons x xs name) ∙ e in
    let here : is_in (name ∷ []) x ≡ false = is_in-cons name [] x ∙ or_from _ _ (bytes_flip x name ∙ left_false _ _ other) refl in
    (is_in-append xs (name ∷ []) x ∙ or_from _ _ h.0 here, apart_push xs name h.1 (right_false _ _ other))

-- ---- rows

shift_item : {X : Type 0} (d : X) (x : X) (xs : List X) (o : Option ℕ) → item_at d (x ∷ xs) (next o) ≡ item_at d xs o
shift_item d x xs None = refl
shift_item d x xs (Some k) = refl

-- the row of a name, by its number
pub row_by_number : (g : GivenRow → RowRead) (rows : List GivenRow) (name : List ℕ) → item_at no_row (map g rows) (number_in (map (λ row. row.name) rows) name) ≡ option_map g (row_in rows name)
row_by_number g [] name = refl
row_by_number g (r ∷ rs) name = go (bytes_eq name r.name) (row_by_number g rs name)
  where
    go : (b : Bool) → item_at no_row (map g rs) (number_in (map (λ row. row.name) rs) name) ≡ option_map g (row_in rs name)
        → item_at no_row (g r ∷ map g rs) (cond b (Some 0) (next (number_in (map (λ row. row.name) rs) name))) ≡ option_map g (cond b (Some r) (row_in rs name))
    go true h = refl
    go false h = shift_item no_row (g r) (map g rs) (number_in (map (λ row. row.name) rs) name) ∙ h

pub row_in_name : (rows : List GivenRow) (name : List ℕ) (row : GivenRow) → row_in rows name ≡ Some row → row.name ≡ name
row_in_name [] name row e = absurd (cc)
row_in_name (r ∷ rs) name row e = go (bytes_eq name r.name) refl e (row_in_name rs name row)
  where
    go : (b : Bool) → bytes_eq name r.name ≡ b → cond b (Some r) (row_in rs name) ≡ Some row → (row_in rs name ≡ Some row → row.name ≡ name) → row.name ≡ name
    go true p e h = let q : r ≡ row = cc in ap (λ x. x.name) (sym q) ∙ sym (bytes_same name r.name p)
    go false p e h = h e

pub row_in_none : (rows : List GivenRow) (name : List ℕ) → row_in rows name ≡ None → is_in (map (λ row. row.name) rows) name ≡ false
row_in_none [] name e = refl
row_in_none (r ∷ rs) name e = go (bytes_eq name r.name) refl e (row_in_none rs name)
  where
    go : (b : Bool) → bytes_eq name r.name ≡ b → cond b (Some r) (row_in rs name) ≡ None → (row_in rs name ≡ None → is_in (map (λ row. row.name) rs) name ≡ false) → is_in (r.name ∷ map (λ row. row.name) rs) name ≡ false
    go true p e h = absurd (cc)
    go false p e h = is_in-cons r.name (map (λ row. row.name) rs) name ∙ or_from _ _ p (h e)

-- ---- columns

-- the bounds of the column of a name, by its number
pub column_by_number : (g : GivenColumn → Bounded) (columns : List GivenColumn) (name : List ℕ) → item_at (unbounded false) (map g columns) (number_in (map (λ column. column.name) columns) name) ≡ option_map g (column_in columns name)
column_by_number g [] name = refl
column_by_number g (c ∷ cs) name = go (bytes_eq name c.name) (column_by_number g cs name)
  where
    go : (b : Bool) → item_at (unbounded false) (map g cs) (number_in (map (λ column. column.name) cs) name) ≡ option_map g (column_in cs name)
        → item_at (unbounded false) (g c ∷ map g cs) (cond b (Some 0) (next (number_in (map (λ column. column.name) cs) name))) ≡ option_map g (cond b (Some c) (column_in cs name))
    go true h = refl
    go false h = shift_item (unbounded false) (g c) (map g cs) (number_in (map (λ column. column.name) cs) name) ∙ h

-- ---- writes

shift_changed : {X : Type 0} (d : X) (x : X) (xs : List X) (o : Option ℕ) (f : X → X) → changed d (x ∷ xs) (next o) f ≡ x ∷ changed d xs o f
shift_changed d x xs None f = refl
shift_changed d x xs (Some k) f = refl

map_others : {A X : Type 0} (xs : List A) (key : A → List ℕ) (g h : A → X) (name : List ℕ) → is_in (map key xs) name ≡ false → ((x : A) → bytes_eq name (key x) ≡ false → g x ≡ h x) → map g xs ≡ map h xs
map_others [] key g h name e other = refl
map_others (x ∷ xs) key g h name e other =
    let both : (bytes_eq name (key x) || is_in (map key xs) name) ≡ false = sym (is_in-cons (key x) (map key xs) name) ∙ e in
    let p : g x ≡ h x = other x (left_false _ _ both) in
    let q : map g xs ≡ map h xs = map_others xs key g h name (right_false _ _ both) other in
    λ i. p i ∷ q i

-- the write at the number of a name is a change of the function that is mapped
pub changed_map : {A X : Type 0} (d : X) (xs : List A) (key : A → List ℕ) (g h : A → X) (name : List ℕ) (f : X → X)
    → AreApart (map key xs) → ((x : A) → key x ≡ name → f (g x) ≡ h x) → ((x : A) → bytes_eq name (key x) ≡ false → g x ≡ h x)
    → changed d (map g xs) (number_in (map key xs) name) f ≡ map h xs
changed_map d [] key g h name f apart same other = refl
changed_map d (x ∷ xs) key g h name f apart same other = go (bytes_eq name (key x)) refl (changed_map d xs key g h name f apart.1 same other)
  where
    go : (b : Bool) → bytes_eq name (key x) ≡ b → changed d (map g xs) (number_in (map key xs) name) f ≡ map h xs
        → changed d (g x ∷ map g xs) (cond b (Some 0) (next (number_in (map key xs) name))) f ≡ h x ∷ map h xs
    go true e r =
        let n : name ≡ key x = bytes_same name (key x) e in
        let p : f (g x) ≡ h x = same x (sym n) in
        let q : map g xs ≡ map h xs = map_others xs key g h name (ap (is_in (map key xs)) n ∙ apart.0) other in
        λ i. p i ∷ q i
    go false e r =
        let p : g x ≡ h x = other x e in
        shift_changed d (g x) (map g xs) (number_in (map key xs) name) f ∙ (λ i. p i ∷ r i)
