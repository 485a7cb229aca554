-- The numbers of the rows of a group.
use Rattle.std.proofs.Common.{◌≡◌, ◌↔◌, IsTrue, rules, ℤ, ℕ, ◌<◌, ◌≤◌, ◌==◌, Bool, true, false, cond, ◌&&◌, ◌||◌, List, [], ◌∷◌, ◌++◌, map, refl, sym, ap, subst, ◌∙◌, arith, append_assoc}
use Rattle.std.specs.Prelude.{nat_lt}
use Rattle.std.specs.List.{list_all, list_any}
use Rattle.std.proofs.lemmas.List.{append-nil}
use Rattle.std.proofs.lemmas.Bool.{and_from, and_parts, ltb-true, ne_eqb, eq-eqb, eqb-true}
use Rattle.cip_rational.specs.Rational.{ℚ, IsWhole, integer, numerator}
use Rattle.cip_rational.proofs.Rational.Whole.{whole_is}
use Rattle.cip_text_rules.specs.MpsState.{Held}
use Rattle.cip_text_rules.specs.MpsSoundState.{held_below, rises}
use Rattle.cip_text_rules.proofs.SoundState.{all_push}
use Rattle.cip_mps.specs.Entries.{Entry, numbers_of, AreRising}
use Rattle.cip_mps.specs.GroupEntries.{near_entry, far_entry, entries_of}
use Rattle.cip_mps.specs.declared.groups.Near.{Near}
use Rattle.cip_mps.specs.declared.groups.Far.{Far}

-- a number behind all others
rises_push : (held : List Held) (h : Held) → held_below h.column held ≡ true → rises held ≡ true → rises (held ++ h ∷ []) ≡ true
rises_push [] n b r = refl
rises_push (h ∷ hs) n b r =
    let below = and_parts (nat_lt h.column n.column) (held_below n.column hs) b in
    let up = and_parts (list_all (λ o. nat_lt h.column o.column) hs) (rises hs) r in
    and_from (list_all (λ o. nat_lt h.column o.column) (hs ++ n ∷ [])) (rises (hs ++ n ∷ []))
    (all_push (λ o. nat_lt h.column o.column) hs n up.0 below.0) (rises_push hs n below.1 up.1)

-- ---- more numbers

pub numbers_append : (row : ℕ) (es fs : List Entry) → numbers_of row (es ++ fs) ≡ numbers_of row es ++ numbers_of row fs
numbers_append row [] fs = refl
numbers_append row (e ∷ es) fs = go (e.row == row) (numbers_append row es fs)
  where
    go : (b : Bool) → numbers_of row (es ++ fs) ≡ numbers_of row es ++ numbers_of row fs → cond b (e.held ∷ numbers_of row (es ++ fs)) (numbers_of row (es ++ fs)) ≡ cond b (e.held ∷ numbers_of row es) (numbers_of row es) ++ numbers_of row fs
    go true h = ap (λ hs. e.held ∷ hs) h
    go false h = h

pub numbers_own : (es : List Entry) (e : Entry) → numbers_of e.row (es ++ e ∷ []) ≡ numbers_of e.row es ++ e.held ∷ []
numbers_own es e =
    let same : (e.row == e.row) ≡ true = eq-eqb e.row e.row refl in
    numbers_append e.row es (e ∷ []) ∙ ap (λ b. numbers_of e.row es ++ cond b (e.held ∷ []) []) same

pub numbers_other : (row : ℕ) (es : List Entry) (e : Entry) → (e.row == row) ≡ false → numbers_of row (es ++ e ∷ []) ≡ numbers_of row es
numbers_other row es e n =
    numbers_append row es (e ∷ []) ∙ ap (λ b. numbers_of row es ++ cond b (e.held ∷ []) []) n ∙ append-nil (numbers_of row es)

pub rising_pushed : (es : List Entry) (e : Entry) → AreRising es → held_below e.held.column (numbers_of e.row es) ≡ true → AreRising (es ++ e ∷ [])
rising_pushed es e h b = record { rising = λ row. go row (e.row == row) refl }
  where
    go : (row : ℕ) (t : Bool) → (e.row == row) ≡ t → rises (numbers_of row (es ++ e ∷ [])) ≡ true
    go row true q =
        subst (λ (n : ℕ). rises (numbers_of n (es ++ e ∷ [])) ≡ true) (eqb-true e.row row q)
        (ap rises (numbers_own es e) ∙ rises_push (numbers_of e.row es) e.held b (h.rising e.row))
    go row false q = ap rises (numbers_other row es e q) ∙ h.rising row

-- ---- the two lists of a group

map_push : {X Y : Type 0} (f : X → Y) (xs : List X) (y : X) → map f (xs ++ y ∷ []) ≡ map f xs ++ f y ∷ []
map_push f [] y = refl
map_push f (x ∷ xs) y = ap (λ zs. f x ∷ zs) (map_push f xs y)

pub near_pushed : (near : List Near) (far : List Far) (n : Near) (e : Entry) → far ≡ [] → near_entry n ≡ e → entries_of (near ++ n ∷ []) far ≡ entries_of near far ++ e ∷ []
near_pushed near far n e none same =
    ap (λ fs. map near_entry (near ++ n ∷ []) ++ map far_entry fs) none ∙ append-nil (map near_entry (near ++ n ∷ [])) ∙ map_push near_entry near n
    ∙ ap (λ x. map near_entry near ++ x ∷ []) same ∙ ap (λ es. es ++ e ∷ []) (sym (append-nil (map near_entry near)))
    ∙ ap (λ fs. (map near_entry near ++ map far_entry fs) ++ e ∷ []) (sym none)

pub far_pushed : (near : List Near) (far : List Far) (n : Far) → entries_of near (far ++ n ∷ []) ≡ entries_of near far ++ far_entry n ∷ []
far_pushed near far n =
    ap (λ es. map near_entry near ++ es) (map_push far_entry far n) ∙ sym (append_assoc (map near_entry near) (map far_entry far) (far_entry n ∷ []))

-- ---- a column

any_append : {X : Type 0} (p : X → Bool) (xs ys : List X) → list_any p (xs ++ ys) ≡ (list_any p xs || list_any p ys)
any_append p [] ys = refl
any_append p (x ∷ xs) ys = go (p x) (any_append p xs ys)
  where
    go : (b : Bool) → list_any p (xs ++ ys) ≡ (list_any p xs || list_any p ys) → (b || list_any p (xs ++ ys)) ≡ ((b || list_any p xs) || list_any p ys)
    go true h = refl
    go false h = h

any_of : {X : Type 0} (entry : X → Entry) (row column : ℕ) (xs : List X) → list_any (λ x. (entry x).held.column == column && (entry x).row == row) xs ≡ list_any (λ h. h.column == column) (numbers_of row (map entry xs))
any_of entry row column [] = refl
any_of entry row column (x ∷ xs) = go ((entry x).held.column == column) ((entry x).row == row) refl (any_of entry row column xs)
  where
    go : (a b : Bool) → ((entry x).held.column == column) ≡ a → list_any (λ x. (entry x).held.column == column && (entry x).row == row) xs ≡ list_any (λ h. h.column == column) (numbers_of row (map entry xs))
        → ((a && b) || list_any (λ x. (entry x).held.column == column && (entry x).row == row) xs) ≡ list_any (λ h. h.column == column) (cond b ((entry x).held ∷ numbers_of row (map entry xs)) (numbers_of row (map entry xs)))
    go true true e h = ap (λ t. t || list_any (λ h. h.column == column) (numbers_of row (map entry xs))) (sym e)
    go true false e h = h
    go false true e h = h ∙ ap (λ t. t || list_any (λ h. h.column == column) (numbers_of row (map entry xs))) (sym e)
    go false false e h = h

pub group_holds : (near : List Near) (far : List Far) (row column : ℕ) → (list_any (λ (n : Near). n.column == column && n.row == row) near || list_any (λ (n : Far). n.column == column && n.row == row) far) ≡ list_any (λ h. h.column == column) (numbers_of row (entries_of near far))
group_holds near far row column =
    let p = any_of near_entry row column near in
    let q = any_of far_entry row column far in
    (λ i. p i || q i) ∙ sym (ap (list_any (λ h. h.column == column)) (numbers_append row (map near_entry near) (map far_entry far)) ∙ any_append (λ h. h.column == column) (numbers_of row (map near_entry near)) (numbers_of row (map far_entry far)))

pub holds_near : (near : List Near) (far : List Far) (row column : ℕ) (answer : Bool) → answer ≡ list_any (λ (n : Near). n.column == column && n.row == row) near → answer ≡ true
    → answer ≡ list_any (λ h. h.column == column) (numbers_of row (entries_of near far))
holds_near near far row column answer e y =
    y ∙ ap (λ b. b || list_any (λ (n : Far). n.column == column && n.row == row) far) (sym y ∙ e) ∙ group_holds near far row column

pub holds_far : (near : List Near) (far : List Far) (row column : ℕ) (first answer : Bool) → first ≡ list_any (λ (n : Near). n.column == column && n.row == row) near → first ≡ false
    → answer ≡ list_any (λ (n : Far). n.column == column && n.row == row) far → answer ≡ list_any (λ h. h.column == column) (numbers_of row (entries_of near far))
holds_far near far row column first answer e n f =
    f ∙ ap (λ b. b || list_any (λ (n : Far). n.column == column && n.row == row) far) (sym n ∙ e) ∙ group_holds near far row column

-- a whole number is the integer that is its numerator
pub whole_held : (column : ℕ) (value : ℚ) (n : ℤ) (answer : Bool) → IsTrue answer ↔ IsWhole value → answer ≡ true → n ≡ numerator value → ◌≡◌ {A = Held} (record { column = column; value = integer n }) (record { column = column; value = value })
whole_held column value n true h y e =
    let whole : IsWhole value = search (rules, h) in
    let make : ℚ → Held = λ (v : ℚ). record { column = column; value = v } in
    ap make (ap integer e ∙ sym (whole_is value whole))
whole_held column value n false h y e = absurd (cc)

-- a column behind all has none
pub none_behind : (n c : ℕ) (held : List Held) → n ≤ c → held_below n held ≡ true → list_any (λ h. h.column == c) held ≡ false
none_behind n c [] l b = refl
none_behind n c (h ∷ hs) l b =
    let a = and_parts (nat_lt h.column n) (held_below n hs) b in
    let less : h.column < n = ltb-true h.column n a.0 in
    let no : (h.column == c) ≡ false = ne_eqb h.column c (λ p. omega (arith, p, less, l)) in
    ap (λ t. t || list_any (λ h. h.column == c) hs) no ∙ none_behind n c hs l a.1
