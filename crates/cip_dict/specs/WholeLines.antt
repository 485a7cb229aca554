-- Lines whose entries that aren't 0 are kept as whole numbers over one denominator, all of them below 2^42.
use Rattle.std.specs.Prelude.{◌≡◌, ℕ, zero, suc, ◌<◌, ◌*◌, ◌^◌, ℤ, pos, neg_ℤ, ◌+ℤ◌, ◌*ℤ◌, ◌==◌, Bool, true, false, List, [], ◌∷◌, ◌++◌, if◌then◌else◌, ⊤}
use Rattle.cip_rational.specs.Rational.{ℚ, ◌+ℚ◌, ◌*ℚ◌, negate, inverse, ratio, numerator, denominator}
use Rattle.cip_rational.specs.Range.{magnitude, sum_overflows, product_overflows}
use Rattle.cip_bland.specs.Exchange.{is_absent}
use Rattle.cip_dict.specs.SparseLines.{Kept, AreKept, dense}

-- a variable, and the whole number on it
abbrev pub Whole : Type 0
Whole = ℕ × ℤ

-- the entries that such numbers stand for
abbrev pub over : ℕ → List Whole → List Kept
over below [] = []
over below (e ∷ es) = (e.0, ratio e.1 below) ∷ over below es

-- the number on variable k: 0 where there is none
abbrev pub number_on : List Whole → ℕ → ℤ
number_on [] k = pos 0
number_on (e ∷ es) k = if e.0 == k then e.1 else number_on es k

-- whether a whole number is 0
abbrev pub is_none : ℤ → Bool
is_none z = magnitude z == 0

-- what is kept of a whole number, and of f 0, f 1, .., f (n - 1)
abbrev pub whole_at : ℕ → ℤ → List Whole
whole_at k z = if is_none z then [] else (k, z) ∷ []

abbrev pub wholes_of : ℕ → (ℕ → ℤ) → List Whole
wholes_of zero f = []
wholes_of (suc n) f = wholes_of n f ++ whole_at n (f n)

-- the number on variable k of a row after that of j, whose numbers are `new`, has been put in its place, where i
-- leaves: n * f + x * y
abbrev pub put_number : (ℕ → Bool) → ℕ → ℕ → ℕ → ℤ → List Whole → List Whole → ℕ → ℤ
put_number basic i j f x row new k =
    if k == i then x *ℤ number_on new k
    else (if is_absent basic j k then pos 0 else number_on row k *ℤ pos f +ℤ x *ℤ number_on new k)

-- the number on variable k of the row that leaves after it has been turned round, where d is its denominator with the
-- sign of its number on j
abbrev pub turned_number : (ℕ → Bool) → ℕ → ℕ → Bool → ℤ → List Whole → ℕ → ℤ
turned_number basic i j positive d row k =
    if k == i then d
    else (if is_absent basic j k then pos 0 else (if positive then neg_ℤ (number_on row k) else number_on row k))

-- `out` over `below` has the numbers of the row `row` over d after that of j, `new` over e, has been put in its place,
-- for some parts of e and of the number of `row` on j
abbrev pub IsPut : ℕ → (ℕ → Bool) → ℕ → ℕ → ℕ → List Whole → ℕ → List Whole → ℕ → List Whole → Type 0
IsPut n basic i j d row e new below out =
    (f g : ℕ) × (x : ℤ) × (0 < f) × (0 < g) × (e ≡ g * f) × (number_on row j ≡ x *ℤ pos g)
    × (over below out ≡ over (d * f) (wholes_of n (put_number basic i j f x row new)))

-- the numbers are below a bound: 2^42 in lines, 2^63 where they fit 64 bits, and 2^86 where no sum leaves 128 bits
abbrev pub AreBelow : ℕ → List Whole → Type 0
AreBelow bound [] = ⊤
AreBelow bound (e ∷ es) = (magnitude e.1 < bound) × AreBelow bound es

-- the entries that a line keeps: whole numbers over one denominator, or fractions
abbrev pub kept_in : Bool → ℕ → List Whole → List Kept → List Kept
kept_in true below wholes entries = over below wholes
kept_in false below wholes entries = entries

-- the denominator and all numbers are small
pub record IsWhole (below : ℕ) (wholes : List Whole) : Type 0 where
  pub positive : 0 < below
  pub small : below < 2 ^ 42
  pub numbers : AreBelow (2 ^ 42) wholes

-- a line of n variables keeps entries so
pub record IsForm (n : ℕ) (is_whole : Bool) (below : ℕ) (wholes : List Whole) (entries : List Kept) : Type 0 where
  pub kept : AreKept 0 n (kept_in is_whole below wholes entries)
  pub whole : is_whole ≡ true → IsWhole below wholes

-- these are the entries of a line on n variables
pub record IsSpelled (n : ℕ) (line : List ℚ) (entries : List Kept) : Type 0 where
  pub kept : AreKept 0 n entries
  pub same : dense n entries ≡ line

-- numerator and denominator, in lowest terms, are below a bound
pub record HasTermsBelow (bound : ℕ) (q : ℚ) : Type 0 where
  pub top : magnitude (numerator q) < bound
  pub bottom : denominator q < bound

-- ---- what is said of them, as one statement

-- no operation of an exchange leaves the range on small numbers, and its results are formed on the whole numbers: the
-- row that leaves is turned round, and another row, of numbers n and x * g over d where that has y over g * f, becomes
-- n * f + x * y over d * f; what all its numbers have in common can be left out
pub record WholeLinesTell : Type 0 where
  pub small : (z : ℤ) (d : ℕ) → 0 < d → magnitude z < 2 ^ 42 → d < 2 ^ 42 → HasTermsBelow (2 ^ 42) (ratio z d)
  pub products : (a b : ℚ) → HasTermsBelow (2 ^ 42) a → HasTermsBelow (2 ^ 42) b → product_overflows a b ≡ false
  pub sums : (a b c : ℚ) → HasTermsBelow (2 ^ 42) a → HasTermsBelow (2 ^ 42) b → HasTermsBelow (2 ^ 42) c
      → sum_overflows a (b *ℚ c) ≡ false
  pub turned : (p d : ℕ) → 0 < p → 0 < d → inverse (ratio (pos p) d) ≡ ratio (pos d) p
  pub turned_back : (p d : ℕ) → 0 < p → 0 < d → inverse (ratio (neg_ℤ (pos p)) d) ≡ ratio (neg_ℤ (pos d)) p
  pub solved : (n : ℤ) (p d : ℕ) → 0 < p → 0 < d
      → negate (ratio n d) *ℚ inverse (ratio (pos p) d) ≡ ratio (neg_ℤ n) p
  pub solved_back : (n : ℤ) (p d : ℕ) → 0 < p → 0 < d
      → negate (ratio n d) *ℚ inverse (ratio (neg_ℤ (pos p)) d) ≡ ratio n p
  pub put : (n x y : ℤ) (d f g : ℕ) → 0 < d → 0 < f → 0 < g
      → ratio n d +ℚ ratio (x *ℤ pos g) d *ℚ ratio y (g * f) ≡ ratio (n *ℤ pos f +ℤ x *ℤ y) (d * f)
  pub put_alone : (x y : ℤ) (d f g : ℕ) → 0 < d → 0 < f → 0 < g
      → ratio (x *ℤ pos g) d *ℚ ratio y (g * f) ≡ ratio (x *ℤ y) (d * f)
  pub divided : (n : ℤ) (d g : ℕ) → 0 < d → 0 < g → ratio (n *ℤ pos g) (d * g) ≡ ratio n d
