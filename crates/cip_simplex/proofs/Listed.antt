-- Lists that are made number by number.
use Rattle.std.proofs.Common.{◌≡◌, ℕ, ◌+◌, Bool, true, false, cond, List, [], ◌∷◌, ◌++◌, map, refl, sym, ap, ap₂, ◌∙◌, add-one}
use Rattle.std.proofs.lemmas.List.{append-nil, map-append}
use Rattle.cip_rational.specs.Rational.{ℚ, zeroℚ, is_zero, lt_test}
use Rattle.cip_bland.specs.Tables.{each}
use Rattle.cip_bland.specs.EndAnswers.{any_multiple, low_multiple, high_multiple}

module _ {X Y : Type 0} (g : X → Y) (f : ℕ → List X) (k : ℕ) (old : List Y) (h : old ≡ map g (each k f)) where
  pub listed_none : f k ≡ [] → old ≡ map g (each (k + 1) f)
  listed_none e = rw add-one (h ∙ ap (map g) (sym (append-nil (each k f)) ∙ ap (λ xs. each k f ++ xs) (sym e)))

  pub listed_more : (new part : List Y) → new ≡ old ++ part → part ≡ map g (f k) → new ≡ map g (each (k + 1) f)
  listed_more new part e p = rw add-one (e ∙ ap₂ (λ xs ys. xs ++ ys) h p ∙ sym (map-append g (each k f) (f k)))

pub parts_more : {X : Type 0} (f : ℕ → List X) (k : ℕ) (old new part : List X) → old ≡ each k f → new ≡ old ++ part → part ≡ f k → new ≡ each (k + 1) f
parts_more f k old new part h e p = rw add-one (e ∙ ap₂ (λ xs ys. xs ++ ys) h p)

-- multiples by what their factor is
pub any_none : (k : ℕ) (x y : ℚ) → x ≡ y → is_zero x ≡ true → any_multiple k y ≡ []
any_none k x y e z = rw (sym e, z) refl

pub any_some : (k : ℕ) (x y : ℚ) → x ≡ y → is_zero x ≡ false → any_multiple k y ≡ record { number = k; factor = x } ∷ []
any_some k x y e z = rw (sym e, z) refl

pub sided_none : (above : Bool) (k : ℕ) (x y : ℚ) (counts : Bool) → x ≡ y → counts ≡ cond above (lt_test zeroℚ x) (lt_test x zeroℚ) → counts ≡ false → cond above (low_multiple k y) (high_multiple k y) ≡ []
sided_none true k x y counts e c t = rw (sym e, sym c ∙ t) refl
sided_none false k x y counts e c t = rw (sym e, sym c ∙ t) refl

pub sided_some : (above : Bool) (k : ℕ) (x y : ℚ) (counts : Bool) → x ≡ y → counts ≡ cond above (lt_test zeroℚ x) (lt_test x zeroℚ) → counts ≡ true → cond above (low_multiple k y) (high_multiple k y) ≡ record { number = k; factor = x } ∷ []
sided_some true k x y counts e c t = rw (sym e, sym c ∙ t) refl
sided_some false k x y counts e c t = rw (sym e, sym c ∙ t) refl

-- one of three, by two tests
module _ (same basic : Bool) (a b x : ℚ) where
  pub chosen_same : same ≡ true → x ≡ a → x ≡ cond same a (cond basic b zeroℚ)
  chosen_same e h = rw e h

  pub chosen_basic : same ≡ false → basic ≡ true → x ≡ b → x ≡ cond same a (cond basic b zeroℚ)
  chosen_basic e f h = rw (e, f) h

  pub chosen_none : same ≡ false → basic ≡ false → x ≡ zeroℚ → x ≡ cond same a (cond basic b zeroℚ)
  chosen_none e f h = rw (e, f) h
