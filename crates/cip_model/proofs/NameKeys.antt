-- The numbers that have the bytes of short names.
use Rattle.std.proofs.Common.{◌≡◌, ℕ, ◌+◌, ◌*◌, ◌<◌, ◌==◌, Bool, true, false, cond, ◌&&◌, List, [], ◌∷◌, length, ◌≤◌, drop, length-drop, Option, None, Some, refl, sym, ap, ◌∙◌, arith}
use Rattle.std.specs.Prelude.{nat_lt, option_map}
use Rattle.std.specs.BTreeMap.{get_by}
use Rattle.std.specs.Str.{bytes_eq}
use Rattle.std.specs.Ordering.{nat_cmp}
use Rattle.std.proofs.lemmas.Bool.{and_parts, ltb-true, eqb-true, eqb-false}
use Rattle.std.proofs.lemmas.Slice.Eq.{bytes_eq-Decides}
use Rattle.cip_model.specs.Keys.{key_from, key_of, number_by, number_in}
use Rattle.cip_model.specs.declared.name_order.Order.{Order}

-- a number with a byte behind it
byte_more : (key byte k : ℕ) (bytes : List ℕ) → key_from key (byte ∷ bytes) ≡ Some k → (byte < 256) × (key_from (key * 256 + byte) bytes ≡ Some k)
byte_more key byte k bytes e = go (nat_lt byte 256 && nat_lt key 5192296858534827628530496329220096) refl e
  where
    go : (b : Bool) → (nat_lt byte 256 && nat_lt key 5192296858534827628530496329220096) ≡ b → cond b (key_from (key * 256 + byte) bytes) None ≡ Some k → (byte < 256) × (key_from (key * 256 + byte) bytes ≡ Some k)
    go true q h = (ltb-true byte 256 (and_parts (nat_lt byte 256) (nat_lt key 5192296858534827628530496329220096) q).0, h)
    go false q h = absurd (cc)

-- as many bytes with one number are the same
same_bytes : (a b k : ℕ) (xs ys : List ℕ) → key_from a xs ≡ Some k → key_from b ys ≡ Some k → length xs ≡ length ys → (a ≡ b) × (xs ≡ ys)
same_bytes a b k [] [] p q l = (let e : a ≡ b = cc in e, refl)
same_bytes a b k [] (y ∷ ys) p q l = absurd (omega (arith, l))
same_bytes a b k (x ∷ xs) [] p q l = absurd (omega (arith, l))
same_bytes a b k (x ∷ xs) (y ∷ ys) p q l =
    let m = byte_more a x k xs p in
    let n = byte_more b y k ys q in
    let rest = same_bytes (a * 256 + x) (b * 256 + y) k xs ys m.1 n.1 (omega (arith, l)) in
    let less : x < 256 = m.0 in
    let other : y < 256 = n.0 in
    let all : a * 256 + x ≡ b * 256 + y = rest.0 in
    let e : a ≡ b = omega (arith, less, other, all) in
    let f : x ≡ y = omega (arith, less, other, all) in
    (e, (λ i. f i ∷ rest.1 i))

-- of a name that has a number: its bytes and how many they are
parts_of : (name : List ℕ) (k : ℕ) → key_of name ≡ Some k → (length name < 16) × ((key : ℕ) × ((key_from 0 name ≡ Some key) × (k ≡ key * 16 + length name)))
parts_of name k e = go (nat_lt (length name) 16) refl (key_from 0 name) refl e
  where
    go : (b : Bool) → nat_lt (length name) 16 ≡ b → (o : Option ℕ) → key_from 0 name ≡ o → cond b (option_map (λ key. key * 16 + length name) o) None ≡ Some k
        → (length name < 16) × ((key : ℕ) × ((key_from 0 name ≡ Some key) × (k ≡ key * 16 + length name)))
    go true q (Some key) r h = (ltb-true (length name) 16 q, (key, (r, (let f : key * 16 + length name ≡ k = cc in sym f))))
    go true q None r h = absurd (cc)
    go false q o r h = absurd (cc)

-- names with one number are the same
pub key_apart : (xs ys : List ℕ) (k : ℕ) → key_of xs ≡ Some k → key_of ys ≡ Some k → xs ≡ ys
key_apart xs ys k p q =
    let a = parts_of xs k p in
    let b = parts_of ys k q in
    let short : length xs < 16 = a.0 in
    let other : length ys < 16 = b.0 in
    let m : k ≡ a.1.0 * 16 + length xs = a.1.1.1 in
    let n : k ≡ b.1.0 * 16 + length ys = b.1.1.1 in
    let same : length xs ≡ length ys = omega (arith, short, other, m, n) in
    let key : a.1.0 ≡ b.1.0 = omega (arith, short, other, m, n) in
    (same_bytes 0 0 a.1.0 xs ys a.1.1.0 (b.1.1.0 ∙ ap Some (sym key)) same).1

-- names are alike where their numbers are
pub alike : (xs ys : List ℕ) (j k : ℕ) → key_of xs ≡ Some j → key_of ys ≡ Some k → (j == k) ≡ bytes_eq xs ys
alike xs ys j k p q = go (j == k) refl (bytes_eq xs ys) refl
  where
    go : (a : Bool) → (j == k) ≡ a → (b : Bool) → bytes_eq xs ys ≡ b → (j == k) ≡ bytes_eq xs ys
    go true r true s = r ∙ sym s
    go false r false s = r ∙ sym s
    go true r false s =
        let e : j ≡ k = eqb-true j k r in
        let same : xs ≡ ys = key_apart xs ys k (p ∙ ap Some e) q in
        let t : bytes_eq xs ys ≡ true = (bytes_eq-Decides xs ys).1 same in absurd (cc)
    go false r true s =
        let same : xs ≡ ys = (bytes_eq-Decides xs ys).0 s in
        let keys : Some j ≡ Some k = sym p ∙ ap key_of same ∙ q in
        let e : j ≡ k = cc in
        absurd (eqb-false j k r e)

-- ---- names without a number

-- no byte stands behind a number of so many bits
full : (key : ℕ) (bytes : List ℕ) → 5192296858534827628530496329220096 ≤ key → 0 < length bytes → key_from key bytes ≡ None
full key [] l some = absurd (omega (arith, some))
full key (byte ∷ bytes) l some = go (nat_lt byte 256) (nat_lt key 5192296858534827628530496329220096) refl
  where
    go : (a b : Bool) → nat_lt key 5192296858534827628530496329220096 ≡ b → cond (a && b) (key_from (key * 256 + byte) bytes) None ≡ None
    go true true q = absurd (let m : key < 5192296858534827628530496329220096 = ltb-true key 5192296858534827628530496329220096 q in omega (arith, l, m))
    go true false q = refl
    go false b q = refl

pub no_key : (name : List ℕ) (key place : ℕ) → key_from key (drop place name) ≡ key_from 0 name → place < length name → 5192296858534827628530496329220096 ≤ key → None ≡ key_of name
no_key name key place e l m = sym (ap (λ o. cond (nat_lt (length name) 16) (option_map (λ k. k * 16 + length name) o) None) none ∙ go (nat_lt (length name) 16))
  where
    none : key_from 0 name ≡ None
    none = sym e ∙ full key (drop place name) m (let d = length-drop place name in omega (arith, d, l))

    go : (b : Bool) → cond b (option_map (λ k. k * 16 + length name) None) None ≡ None
    go true = refl
    go false = refl

-- ---- one name more

-- names that have not one number differ
differ : (xs ys : List ℕ) → (key_of xs ≡ key_of ys → ⊥) → bytes_eq xs ys ≡ false
differ xs ys apart = go (bytes_eq xs ys) refl
  where
    go : (b : Bool) → bytes_eq xs ys ≡ b → b ≡ false
    go false e = refl
    go true e = absurd (apart (ap key_of ((bytes_eq-Decides xs ys).0 e)))

-- a name with a number is put in
pub short_put : (old new : Order) (name : List ℕ) (key number : ℕ) → key_of name ≡ Some key
    → ((other : List ℕ) → number_by None new other ≡ number_by None old other)
    → ((j : ℕ) → get_by (λ item. nat_cmp j item) new.short ≡ cond (j == key) (Some number) (get_by (λ item. nat_cmp j item) old.short))
    → (other : List ℕ) → number_in new other ≡ cond (bytes_eq other name) (Some number) (number_in old other)
short_put old new name key number e same put other = go (key_of other) refl
  where
    go : (o : Option ℕ) → key_of other ≡ o → number_by o new other ≡ cond (bytes_eq other name) (Some number) (number_by o old other)
    go None q =
        let apart : key_of other ≡ key_of name → ⊥ = λ one. let no : None ≡ Some key = sym q ∙ one ∙ e in absurd (cc) in
        same other ∙ ap (λ b. cond b (Some number) (number_by None old other)) (sym (differ other name apart))
    go (Some j) q = put j ∙ ap (λ b. cond b (Some number) (get_by (λ item. nat_cmp j item) old.short)) (alike other name j key q e)

-- a name without a number is put in
pub long_put : (old new : Order) (name : List ℕ) (number : ℕ) → key_of name ≡ None
    → ((key : ℕ) (other : List ℕ) → number_by (Some key) new other ≡ number_by (Some key) old other)
    → ((other : List ℕ) → number_by None new other ≡ cond (bytes_eq other name) (Some number) (number_by None old other))
    → (other : List ℕ) → number_in new other ≡ cond (bytes_eq other name) (Some number) (number_in old other)
long_put old new name number e same put other = go (key_of other) refl
  where
    go : (o : Option ℕ) → key_of other ≡ o → number_by o new other ≡ cond (bytes_eq other name) (Some number) (number_by o old other)
    go None q = put other
    go (Some key) q =
        let apart : key_of other ≡ key_of name → ⊥ = λ one. let no : Some key ≡ None = sym q ∙ one ∙ e in absurd (cc) in
        same key other ∙ ap (λ b. cond b (Some number) (number_by (Some key) old other)) (sym (differ other name apart))
