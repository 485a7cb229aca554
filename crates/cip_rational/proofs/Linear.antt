-- Linear arithmetic over ℚ by `omega`.
-- At a scale each rational is a difference of two naturals, `up - down`, up to a rest that is 0 where the scale makes
-- the rational whole. The fields of `Scale` say how sums, multiples and the order go there.
-- For a list of atoms there is a scale that makes each of them whole. So, with the terms of a goal that no sum,
-- difference, negation or whole number makes up as its atoms,
--     linear_le (a ∷ b ∷ []) (λ s w. omega (arith, s.le_out, s.lt_out, s.same_out))
-- proves `_ ≤ℚ _` from the facts in scope, and so do `linear_lt`, `linear_same` and `linear_absurd` for `_ <ℚ _`,
-- `_ ≡ _` and `⊥`. The rules that are listed read a hypothesis:
--     le_out, lt_out, same_out       `a ≤ℚ b`, `a <ℚ b`, `a ≡ b`
--     not_le_out, not_lt_out         their denials
--     products tt                    bound by a `let`: products of sums are multiplied out
use borrow.Author.Differences as parts
use native.Mathlib.Nat.{mul-pos}
use Rattle.std.proofs.Common.{◌≡◌, ℕ, ◌+◌, ◌*◌, ◌<◌, ◌≤◌, ℤ, List, [], ◌∷◌, refl, sym, ap, ◌∙◌, subst, arith, zero-lt-suc}
use Rattle.cip_rational.specs.Rational.{ℚ, ◌+ℚ◌, ◌-ℚ◌, ◌*ℚ◌, negate, whole, integer, zeroℚ, oneℚ, ◌≤ℚ◌, ◌<ℚ◌, denominator}
use Rattle.cip_rational.proofs.Rational.Ring.{sub_is, *ℚ-add, *ℚ-negate, *ℚ_assoc, *ℚ_comm, add-*ℚ, sub-*ℚ, *ℚ-sub, negate-*ℚ, zero-*ℚ, *ℚ-zero, one-*ℚ, *ℚ-one, whole_mul, whole_same, zero_is, one_is, integer_is}
use Rattle.cip_rational.proofs.Rational.Order.{lt_of_not_le, le_of_not_lt, ≤ℚ_of_lt, ≤ℚ_antisymm}
use Rattle.cip_rational.proofs.Rational.Monotone.{*ℚ_mono, *ℚ_strict, le_of_*ℚ, lt_of_*ℚ, whole_lt}
use Rattle.cip_rational.proofs.Rational.Lowest.{denominator-pos}
use Rattle.cip_rational.proofs.Rational.Whole.{IsWhole-mul, IsWhole-whole, IsWhole-scaled}
use Rattle.cip_rational.proofs.Rational.Truncated.{above, below, rest, rest_zero, sum_lem, multiple_lem, negate_above, whole_above, le_above, lt_above, above_le, above_lt}

-- ---- what is said at a scale
module _ (up down rest : ℚ → ℕ) where
  -- c is the sum of a and b, up to their rests
  abbrev pub IsSumAt : ℚ → ℚ → ℚ → Type 0
  IsSumAt a b c =
      (up c + down a + down b ≤ down c + up a + up b + rest a + rest b)
      × (down c + up a + up b ≤ up c + down a + down b + rest a + rest b)
      × (rest c ≤ rest a + rest b)

  -- c is a - b, up to their rests
  abbrev pub IsDifferenceAt : ℚ → ℚ → ℚ → Type 0
  IsDifferenceAt a b c =
      (up c + down a + up b ≤ down c + up a + down b + rest a + rest b)
      × (down c + up a + down b ≤ up c + down a + up b + rest a + rest b)
      × (rest c ≤ rest a + rest b)

  -- c is (m - n) * a, up to the rest
  abbrev pub IsMultipleAt : ℕ → ℕ → ℚ → ℚ → Type 0
  IsMultipleAt m n a c =
      (up c + m * down a + n * up a ≤ down c + m * up a + n * down a + (m + n) * rest a)
      × (down c + m * up a + n * down a ≤ up c + m * down a + n * up a + (m + n) * rest a)
      × (rest c ≤ (m + n) * rest a)

  -- c is a, and c is the negative of a
  abbrev pub IsSameAt : ℚ → ℚ → Type 0
  IsSameAt a c = (up c ≡ up a) × (down c ≡ down a) × (rest c ≡ rest a)

  abbrev pub IsNegativeAt : ℚ → ℚ → Type 0
  IsNegativeAt a c = (up c ≡ down a) × (down c ≡ up a) × (rest c ≡ rest a)

  -- products of sums, multiplied out
  pub record ProductsAt : Type 0 where
    pub sum_left : (a b c : ℚ) → IsSumAt (a *ℚ c) (b *ℚ c) ((a +ℚ b) *ℚ c)
    pub sum_right : (a b c : ℚ) → IsSumAt (a *ℚ b) (a *ℚ c) (a *ℚ (b +ℚ c))
    pub difference_left : (a b c : ℚ) → IsDifferenceAt (a *ℚ c) (b *ℚ c) ((a -ℚ b) *ℚ c)
    pub difference_right : (a b c : ℚ) → IsDifferenceAt (a *ℚ b) (a *ℚ c) (a *ℚ (b -ℚ c))
    pub negative_left : (a b : ℚ) → IsNegativeAt (a *ℚ b) (negate a *ℚ b)
    pub negative_right : (a b : ℚ) → IsNegativeAt (a *ℚ b) (a *ℚ negate b)
    pub zero_left : (a : ℚ) → IsSameAt zeroℚ (zeroℚ *ℚ a)
    pub zero_right : (a : ℚ) → IsSameAt zeroℚ (a *ℚ zeroℚ)
    pub one_left : (a : ℚ) → IsSameAt a (oneℚ *ℚ a)
    pub one_right : (a : ℚ) → IsSameAt a (a *ℚ oneℚ)

-- `unit` times a rational, rounded toward 0 to `up - down`; the rest is 0 where nothing was lost, else 1
pub record Scale : Type 0 where
  pub unit : ℕ
  pub up : ℚ → ℕ
  pub down : ℚ → ℕ
  pub rest : ℚ → ℕ
  pub positive : 0 < unit
  pub sum : (a b : ℚ) → IsSumAt up down rest a b (a +ℚ b)
  pub difference : (a b : ℚ) → IsDifferenceAt up down rest a b (a -ℚ b)
  pub negative : (a : ℚ) → IsNegativeAt up down rest a (negate a)
  pub multiple : (m n : ℕ) (a : ℚ) → IsMultipleAt up down rest m n a (whole m n *ℚ a)
  pub number : (m n : ℕ) → (up (whole m n) + n * unit ≡ down (whole m n) + m * unit) × (rest (whole m n) ≡ 0)
  pub signed : (z : ℤ)
      → (up (integer z) + parts.down z * unit ≡ down (integer z) + parts.up z * unit) × (rest (integer z) ≡ 0)
  pub none : (up zeroℚ ≡ down zeroℚ) × (rest zeroℚ ≡ 0)
  pub one : (up oneℚ ≡ down oneℚ + unit) × (rest oneℚ ≡ 0)
  pub le_out : (a b : ℚ) → a ≤ℚ b → up a + down b ≤ up b + down a
  pub lt_out : (a b : ℚ) → a <ℚ b → up a + down b < up b + down a + rest a + rest b
  pub same_out : (a b : ℚ) → a ≡ b → (up a ≡ up b) × (down a ≡ down b) × (rest a ≡ rest b)
  pub not_le_out : (a b : ℚ) → ¬ (a ≤ℚ b) → up b + down a < up a + down b + rest a + rest b
  pub not_lt_out : (a b : ℚ) → ¬ (a <ℚ b) → up b + down a ≤ up a + down b
  pub le_in : (a b : ℚ) → up a + down b + rest a + rest b ≤ up b + down a → a ≤ℚ b
  pub lt_in : (a b : ℚ) → up a + down b + rest a + rest b < up b + down a → a <ℚ b
  pub products : Unit {0} → ProductsAt up down rest

-- ---- the scale of a positive number
module _ (n : ℕ) (p : 0 < n) where
  -- n times q, and what is said of it
  scaled : ℚ → ℚ
  scaled q = whole n 0 *ℚ q

  up_at : ℚ → ℕ
  up_at q = above (scaled q)

  down_at : ℚ → ℕ
  down_at q = below (scaled q)

  rest_at : ℚ → ℕ
  rest_at q = rest (scaled q)

  unit_positive : zeroℚ <ℚ whole n 0
  unit_positive = rw zero_is (whole_lt 0 0 n 0 (omega (arith, p)))

  same_at : (a c : ℚ) → c ≡ a → IsSameAt up_at down_at rest_at a c
  same_at a c e = (ap up_at e, ap down_at e, ap rest_at e)

  sum_at : (a b c : ℚ) → c ≡ a +ℚ b → IsSumAt up_at down_at rest_at a b c
  unfolding up_at down_at rest_at scaled
  sum_at a b c e =
      let s = sum_lem (whole n 0 *ℚ a) (whole n 0 *ℚ b) in
      rw (e, *ℚ-add (whole n 0) a b) (s.low, s.high, s.whole)

  negative_at : (a c : ℚ) → c ≡ negate a → IsNegativeAt up_at down_at rest_at a c
  unfolding up_at down_at rest_at scaled
  negative_at a c e = rw (e, *ℚ-negate (whole n 0) a) (negate_above (whole n 0 *ℚ a))

  difference_at : (a b c : ℚ) → c ≡ a -ℚ b → IsDifferenceAt up_at down_at rest_at a b c
  difference_at a b c e =
      let s = sum_at a (negate b) c (e ∙ sub_is a b) in
      let m = negative_at b (negate b) refl in
      (omega (arith, s, m), omega (arith, s, m), omega (arith, s, m))

  multiple_at : (m k : ℕ) (a : ℚ) → IsMultipleAt up_at down_at rest_at m k a (whole m k *ℚ a)
  unfolding up_at down_at rest_at scaled
  multiple_at m k a =
      let s = multiple_lem m k (whole n 0 *ℚ a) in
      let e : whole n 0 *ℚ (whole m k *ℚ a) ≡ whole m k *ℚ (whole n 0 *ℚ a) = sym (*ℚ_assoc (whole n 0) (whole m k) a) ∙ ap (λ t. t *ℚ a) (*ℚ_comm (whole n 0) (whole m k)) ∙ *ℚ_assoc (whole m k) (whole n 0) a in
      rw e (s.low, s.high, s.whole)

  number_at : (m k : ℕ) (c : ℚ) → c ≡ whole m k → (up_at c + k * n ≡ down_at c + m * n) × (rest_at c ≡ 0)
  unfolding up_at down_at rest_at scaled
  number_at m k c e =
      let s = whole_above (n * m + 0 * k) (n * k + 0 * m) in
      rw (e, whole_mul n 0 m k) (omega (arith, s), s.1)

  le_at : (a b : ℚ) → a ≤ℚ b → up_at a + down_at b ≤ up_at b + down_at a
  unfolding up_at down_at scaled
  le_at a b h = le_above (whole n 0 *ℚ a) (whole n 0 *ℚ b) (*ℚ_mono a b (whole n 0) (≤ℚ_of_lt unit_positive) h)

  lt_at : (a b : ℚ) → a <ℚ b → up_at a + down_at b < up_at b + down_at a + rest_at a + rest_at b
  unfolding up_at down_at rest_at scaled
  lt_at a b h = lt_above (whole n 0 *ℚ a) (whole n 0 *ℚ b) (*ℚ_strict a b (whole n 0) unit_positive h)

  at_le : (a b : ℚ) → up_at a + down_at b + rest_at a + rest_at b ≤ up_at b + down_at a → a ≤ℚ b
  unfolding up_at down_at rest_at scaled
  at_le a b h = le_of_*ℚ a b (whole n 0) unit_positive (above_le (whole n 0 *ℚ a) (whole n 0 *ℚ b) h)

  at_lt : (a b : ℚ) → up_at a + down_at b + rest_at a + rest_at b < up_at b + down_at a → a <ℚ b
  unfolding up_at down_at rest_at scaled
  at_lt a b h = lt_of_*ℚ a b (whole n 0) (≤ℚ_of_lt unit_positive) (above_lt (whole n 0 *ℚ a) (whole n 0 *ℚ b) h)

  products_at : ProductsAt up_at down_at rest_at
  products_at = record {
    sum_left = λ a b c. sum_at (a *ℚ c) (b *ℚ c) _ (add-*ℚ a b c);
    sum_right = λ a b c. sum_at (a *ℚ b) (a *ℚ c) _ (*ℚ-add a b c);
    difference_left = λ a b c. difference_at (a *ℚ c) (b *ℚ c) _ (sub-*ℚ a b c);
    difference_right = λ a b c. difference_at (a *ℚ b) (a *ℚ c) _ (*ℚ-sub a b c);
    negative_left = λ a b. negative_at (a *ℚ b) _ (negate-*ℚ a b);
    negative_right = λ a b. negative_at (a *ℚ b) _ (*ℚ-negate a b);
    zero_left = λ a. same_at zeroℚ _ (zero-*ℚ a);
    zero_right = λ a. same_at zeroℚ _ (*ℚ-zero a);
    one_left = λ a. same_at a _ (one-*ℚ a);
    one_right = λ a. same_at a _ (*ℚ-one a);
  }

  scale_at : Scale
  scale_at = record {
    unit = n;
    up = up_at;
    down = down_at;
    rest = rest_at;
    positive = p;
    sum = λ a b. sum_at a b _ refl;
    difference = λ a b. difference_at a b _ refl;
    negative = λ a. negative_at a _ refl;
    multiple = multiple_at;
    number = λ m k. number_at m k _ refl;
    signed = λ z. number_at (parts.up z) (parts.down z) _ (integer_is z);
    none = (omega (arith, number_at 0 0 zeroℚ zero_is), (number_at 0 0 zeroℚ zero_is).1);
    one = (omega (arith, number_at 1 0 oneℚ one_is), (number_at 1 0 oneℚ one_is).1);
    le_out = le_at;
    lt_out = lt_at;
    same_out = λ a b e. (ap up_at e, ap down_at e, ap rest_at e);
    not_le_out = λ a b h. omega (arith, lt_at b a (lt_of_not_le a b h));
    not_lt_out = λ a b h. le_at b a (le_of_not_lt a b h);
    le_in = at_le;
    lt_in = at_lt;
    products = λ _. products_at;
  }

-- ---- a scale for a list of atoms

-- each of them is whole there
abbrev pub AllWhole : (ℚ → ℕ) → List ℚ → Type 0
AllWhole rest [] = Unit {0}
AllWhole rest (q ∷ qs) = (rest q ≡ 0) × AllWhole rest qs

-- the product of the denominators
abbrev common_denominator : List ℚ → ℕ
common_denominator [] = 1
common_denominator (q ∷ qs) = denominator q * common_denominator qs

common_denominator-pos : (qs : List ℚ) → 0 < common_denominator qs
common_denominator-pos [] = zero-lt-suc 0
common_denominator-pos (q ∷ qs) = mul-pos (denominator-pos q) (common_denominator-pos qs)

-- a multiple of the denominator makes a rational whole
whole_at : (k : ℕ) (q : ℚ) → rest (whole (k * denominator q) 0 *ℚ q) ≡ 0
whole_at k q =
    let e : whole (k * denominator q) 0 ≡ whole k 0 *ℚ whole (denominator q) 0 = whole_same _ _ _ _ (omega arith) ∙ sym (whole_mul k 0 (denominator q) 0) in
    rw (e, *ℚ_assoc (whole k 0) (whole (denominator q) 0) q) (rest_zero _ (IsWhole-mul _ _ (IsWhole-whole k 0) (IsWhole-scaled q)))

all_whole : (k : ℕ) (qs : List ℚ) → AllWhole (λ q. rest (whole (k * common_denominator qs) 0 *ℚ q)) qs
all_whole k [] = tt
all_whole k (q ∷ qs) =
    let e : k * (denominator q * common_denominator qs) ≡ k * common_denominator qs * denominator q = omega arith in
    let f : k * denominator q * common_denominator qs ≡ k * (denominator q * common_denominator qs) = omega arith in
    (rw e (whole_at (k * common_denominator qs) q), subst (λ (m : ℕ). AllWhole (λ q. rest (whole m 0 *ℚ q)) qs) f (all_whole (k * denominator q) qs))

module _ (atoms : List ℚ) where
  scale : Scale
  scale = scale_at (1 * common_denominator atoms) (omega (arith, common_denominator-pos atoms))

  scale_whole : AllWhole scale.rest atoms
  unfolding scale scale_at rest_at scaled
  scale_whole = all_whole 1 atoms

  pub linear_le : {a b : ℚ} → ((s : Scale) → AllWhole s.rest atoms → s.up a + s.down b + s.rest a + s.rest b ≤ s.up b + s.down a) → a ≤ℚ b
  linear_le {a} {b} h = scale.le_in a b (h scale scale_whole)

  pub linear_lt : {a b : ℚ} → ((s : Scale) → AllWhole s.rest atoms → s.up a + s.down b + s.rest a + s.rest b < s.up b + s.down a) → a <ℚ b
  linear_lt {a} {b} h = scale.lt_in a b (h scale scale_whole)

  pub linear_same : {a b : ℚ} → ((s : Scale) → AllWhole s.rest atoms → (s.up a + s.down b ≡ s.up b + s.down a) × (s.rest a + s.rest b ≡ 0)) → a ≡ b
  linear_same {a} {b} h =
      let e = h scale scale_whole in
      ≤ℚ_antisymm (scale.le_in a b (omega (arith, e))) (scale.le_in b a (omega (arith, e)))

  pub linear_absurd : ((s : Scale) → AllWhole s.rest atoms → ⊥) → ⊥
  linear_absurd h = h scale scale_whole
