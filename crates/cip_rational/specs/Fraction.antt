-- The rational numbers, as fractions of natural numbers of which two are the same if their cross products are.
--     Fraction            (up - down) / den, three natural numbers
--     Same x y            the two fractions have one value
--     ℚ                   fractions, up to that
--     rational_rec, rational_rec₂       a function out of ℚ, from one on fractions that gives the same at one value
--     rational_ind, rational_ind₂, rational_ind₃      what is true of all fractions is true of all rationals
use mathlib.Core.Path.{◌≡◌, fun_ext}
use mathlib.Core.HLevel.{is_prop→PathP, →_set}
use mathlib.Core.HubSpoke.{Sp, hub_spoke→set, set_hub, prop_spoke, rec_hub, rec_spoke}
use Rattle.std.specs.Prelude.{ℕ, ◌+◌, ◌*◌, ◌<◌}

-- the number (up - down) / den
pub record Fraction : Type 0 where
  pub up : ℕ
  pub down : ℕ
  pub den : ℕ
  pub positive : 0 < den

-- x and y have one value: (x.up - x.down) * y.den is (y.up - y.down) * x.den
pub record Same (x y : Fraction) : Type 0 where
  pub cross : x.up * y.den + y.down * x.den ≡ y.up * x.den + x.down * y.den

-- the rational numbers: the fractions, with a path between any two of one value, and `hub` and `spoke` so that
-- they are a set
pub data ℚ : Type 0 where
  of : Fraction → ℚ
  equal : (x y : Fraction) → Same x y → (i : 𝕀) → ℚ [ i = 0 ↦ of x | i = 1 ↦ of y ]
  hub : (Sp → ℚ) → ℚ
  spoke : (s : Sp) (f : Sp → ℚ) (i : 𝕀) → ℚ [ i = 0 ↦ hub f | i = 1 ↦ f s ]

pub same_equal : (x y : Fraction) → Same x y → of x ≡ of y
same_equal x y h = λ i. equal x y h i

pub ℚ_set : IsSet ℚ
ℚ_set = hub_spoke→set ℚ hub (λ s f i. spoke s f i)

-- a function out of ℚ into a set, from one on fractions that gives the same at fractions of one value
abbrev pub rational_rec : {B : Type 0}
    → IsSet B → (f : Fraction → B) → ((x y : Fraction) → Same x y → f x ≡ f y) → ℚ → B
rational_rec {B} set f h q = elim q [
  | of x ↦ f x
  | equal x y e i ↦ h x y e i
  | hub (g → gᴰ) ↦ rec_hub ℚ set g gᴰ
  | spoke s (g → gᴰ) i ↦ rec_spoke ℚ set s g gᴰ i
]

-- what is true of each fraction is true of each rational
abbrev pub rational_ind : (P : ℚ → Type 0)
    → ((q : ℚ) → IsProp (P q)) → ((x : Fraction) → P (of x)) → (q : ℚ) → P q
rational_ind P prop h q = elim q as (λ q. P q) [
  | of x ↦ h x
  | equal x y e i ↦ is_prop→PathP (λ i. P (equal x y e i)) (λ i. prop (equal x y e i)) (h x) (h y) i
  | hub (f → fᴰ) ↦ set_hub ℚ hub (λ s f i. spoke s f i) P f fᴰ
  | spoke s (f → fᴰ) i ↦ prop_spoke ℚ hub (λ s f i. spoke s f i) P prop s f fᴰ i
]

module _ {B : Type 0} (set : IsSet B) where
  -- a function of two rationals, from one on fractions that gives the same at the same values, argument by argument
  abbrev pub rational_rec₂ : (f : Fraction → Fraction → B)
      → ((x y z : Fraction) → Same x y → f x z ≡ f y z)
      → ((z x y : Fraction) → Same x y → f z x ≡ f z y) → ℚ → ℚ → B
  rational_rec₂ f left right =
      rational_rec (→_set set) (λ x. rational_rec set (f x) (right x))
      (λ x y e. fun_ext (rational_ind
      (λ q. rational_rec set (f x) (right x) q ≡ rational_rec set (f y) (right y) q)
      (λ q. set _ _) (λ z. left x y z e)))
