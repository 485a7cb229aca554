-- Names and their numbers.
use Rattle.std.proofs.Common.{◌≡◌, ℕ, zero, suc, ◌<◌, Bool, true, false, cond, List, [], ◌∷◌, length, Option, None, Some, refl, sym, ap, subst, ◌∙◌, arith, zero-lt-suc}
use Rattle.std.specs.Str.{bytes_eq}
use Rattle.std.proofs.lemmas.Slice.Eq.{bytes_eq-Decides}
use Rattle.std.proofs.lemmas.Bool.{false_from_ne_true}
use Rattle.cip_text_rules.specs.MpsWords.{next, number_in}

-- ---- equality of names

pub bytes_same : (a b : List ℕ) → bytes_eq a b ≡ true → a ≡ b
bytes_same a b h = (bytes_eq-Decides a b).0 h

pub same_bytes : (a b : List ℕ) → a ≡ b → bytes_eq a b ≡ true
same_bytes a b h = (bytes_eq-Decides a b).1 h

pub bytes_self : (a : List ℕ) → bytes_eq a a ≡ true
bytes_self a = same_bytes a a refl

pub other_bytes : (a b : List ℕ) → ¬ (a ≡ b) → bytes_eq a b ≡ false
other_bytes a b h = false_from_ne_true (bytes_eq a b) (λ e. h (bytes_same a b e))

pub bytes_other : (a b : List ℕ) → bytes_eq a b ≡ false → ¬ (a ≡ b)
bytes_other a b e = λ p. let q : bytes_eq a b ≡ true = same_bytes a b p in cc

pub bytes_flip : (a b : List ℕ) → bytes_eq a b ≡ bytes_eq b a
bytes_flip a b = go (bytes_eq a b) refl
  where
    go : (t : Bool) → bytes_eq a b ≡ t → bytes_eq a b ≡ bytes_eq b a
    go true e = e ∙ sym (same_bytes b a (sym (bytes_same a b e)))
    go false e = e ∙ sym (other_bytes b a (λ p. bytes_other a b e (sym p)))

-- ---- numbers

pub next_some : (o : Option ℕ) (k : ℕ) → next o ≡ Some (suc k) → o ≡ Some k
next_some None k e = absurd (cc)
next_some (Some j) k e = let p : suc j ≡ suc k = cc in let q : j ≡ k = cc in ap Some q

next_zero : (o : Option ℕ) → next o ≡ Some 0 → ⊥
next_zero None e = cc
next_zero (Some j) e = let p : suc j ≡ 0 = cc in cc

pub number_below : (names : List (List ℕ)) (name : List ℕ) (k : ℕ) → number_in names name ≡ Some k → k < length names
number_below [] name k e = absurd (cc)
number_below (x ∷ xs) name k e = go (bytes_eq name x) k e (number_below xs name)
  where
    go : (b : Bool) (j : ℕ) → cond b (Some 0) (next (number_in xs name)) ≡ Some j → ((n : ℕ) → number_in xs name ≡ Some n → n < length xs) → j < suc (length xs)
    go true j p h = let q : ◌≡◌ {A = ℕ} 0 j = cc in subst (λ (n : ℕ). n < suc (length xs)) q (zero-lt-suc (length xs))
    go false zero p h = zero-lt-suc (length xs)
    go false (suc j) p h = let q : j < length xs = h j (next_some _ j p) in omega arith

-- a number has one name
pub number_same : (names : List (List ℕ)) (a b : List ℕ) (k : ℕ) → number_in names a ≡ Some k → number_in names b ≡ Some k → a ≡ b
number_same [] a b k e d = absurd (cc)
number_same (x ∷ xs) a b k e d = go (bytes_eq a x) refl (bytes_eq b x) refl k e d (number_same xs a b)
  where
    go : (s : Bool) → bytes_eq a x ≡ s → (t : Bool) → bytes_eq b x ≡ t → (j : ℕ) → cond s (Some 0) (next (number_in xs a)) ≡ Some j → cond t (Some 0) (next (number_in xs b)) ≡ Some j → ((n : ℕ) → number_in xs a ≡ Some n → number_in xs b ≡ Some n → a ≡ b) → a ≡ b
    go true p true q j e d h = bytes_same a x p ∙ sym (bytes_same b x q)
    go true p false q j e d h = let r : ◌≡◌ {A = ℕ} 0 j = cc in absurd (next_zero (number_in xs b) (d ∙ ap Some (sym r)))
    go false p true q j e d h = let r : ◌≡◌ {A = ℕ} 0 j = cc in absurd (next_zero (number_in xs a) (e ∙ ap Some (sym r)))
    go false p false q zero e d h = absurd (next_zero (number_in xs a) e)
    go false p false q (suc j) e d h = h j (next_some _ j e) (next_some _ j d)
