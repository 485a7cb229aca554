-- Lines of which only the entries that aren't 0 are kept: each with its variable, by rising variable.
use Rattle.std.specs.Prelude.{◌≡◌, ◌≢◌, ℕ, zero, suc, ◌+◌, ◌<◌, ◌≤◌, ◌==◌, List, [], ◌∷◌, ◌++◌, if◌then◌else◌, ⊤}
use Rattle.cip_rational.specs.Rational.{ℚ, zeroℚ, is_zero}
use Rattle.cip_bland.specs.Tables.{table, each}
use Rattle.cip_bland.specs.Operations.{Placed}

-- a variable, and the entry on it
abbrev pub Kept : Type 0
Kept = ℕ × ℚ

-- the entry on variable k: 0 where none is kept
abbrev pub entry_on : List Kept → ℕ → ℚ
entry_on [] k = zeroℚ
entry_on (e ∷ es) k = if e.0 == k then e.1 else entry_on es k

-- the dense line on n variables
abbrev pub dense : ℕ → List Kept → List ℚ
dense n kept = table n (entry_on kept)

-- variables rise, from `least` on and below n, and no entry is 0
abbrev pub AreKept : ℕ → ℕ → List Kept → Type 0
AreKept least n [] = ⊤
AreKept least n (e ∷ es) = (least ≤ e.0) × (e.0 < n) × (e.1 ≢ zeroℚ) × AreKept (suc e.0) n es

-- what is kept of a number
abbrev pub kept_at : ℕ → ℚ → List Kept
kept_at k q = if is_zero q then [] else (k, q) ∷ []

-- what is kept of f 0, f 1, .., f (n - 1)
abbrev pub kept_of : ℕ → (ℕ → ℚ) → List Kept
kept_of zero f = []
kept_of (suc n) f = kept_of n f ++ kept_at n (f n)

-- ---- going from entry to entry

-- in a list with something for each of some variables these rise, from `least` on
abbrev pub AreRising : {A : Type 0} → ℕ → List (ℕ × A) → Type 0
AreRising least [] = ⊤
AreRising least (e ∷ es) = (least ≤ e.0) × AreRising (suc e.0) es

-- what stands before place p is on variables below k, and the first from there on, if there is one, isn't
abbrev pub IsPlace : {A : Type 0} → ℕ → List (ℕ × A) → ℕ → Type 0
IsPlace k [] zero = ⊤
IsPlace k [] (suc p) = ⊥
IsPlace k (e ∷ es) zero = k ≤ e.0
IsPlace k (e ∷ es) (suc p) = (e.0 < k) × IsPlace k es p

-- the next variable from `from` on, of those on which one of two lines has an entry: from its places there both lines
-- go on at this variable, and have no entries between
pub record IsNext (row new : List Kept) (here there from next : ℕ) : Type 0 where
  pub order : from ≤ next
  pub row_place : IsPlace next row here
  pub new_place : IsPlace next new there
  pub row_none : (k : ℕ) → from ≤ k → k < next → entry_on row k ≡ zeroℚ
  pub new_none : (k : ℕ) → from ≤ k → k < next → entry_on new k ≡ zeroℚ

-- ---- what is said of them, as one statement

-- the dense line of what is kept of a line is that line; and numbers that are 0, and operations that there are none of,
-- may be passed over: so a loop that goes from entry to entry keeps, and forms in this order, what one over all
-- variables would
pub record SparseLinesTell : Type 0 where
  pub back : (n : ℕ) (f : ℕ → ℚ) → dense n (kept_of n f) ≡ table n f
  pub gaps : (m more : ℕ) (f : ℕ → ℚ) → ((k : ℕ) → m ≤ k → k < m + more → f k ≡ zeroℚ)
      → kept_of (m + more) f ≡ kept_of m f
  pub unformed : (m more : ℕ) (f : ℕ → List Placed) → ((k : ℕ) → m ≤ k → k < m + more → f k ≡ [])
      → each (m + more) f ≡ each m f
