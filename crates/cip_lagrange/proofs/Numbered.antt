-- Numbers of rows and columns are in range, and at each of them something stands.
use Rattle.std.proofs.Common.{◌≡◌, ℕ, suc, ◌+◌, ◌<◌, ◌≤◌, Bool, true, false, cond, List, [], ◌∷◌, length, map, refl, ap, ◌∙◌, arith}
use Rattle.std.specs.Prelude.{slice_index_or}
use Rattle.std.specs.List.{AllByRecursion, cons_option}
use Rattle.std.proofs.lemmas.Option.{slice_get-get_or}
use Rattle.cip_problem.specs.BlockParts.{rows_where}
use Rattle.cip_pricing.specs.Decomposition.{Owner}
use Rattle.cip_lagrange.specs.Numbers.{found}

below_step : (t : Bool) (first limit : ℕ) (numbers : List ℕ) → first < limit
    → AllByRecursion (λ n. n < limit) numbers → AllByRecursion (λ n. n < limit) (cond t (first ∷ numbers) numbers)
below_step true first limit numbers h k = (h, k)
below_step false first limit numbers h k = k

-- the numbers of those that pass a test are below the number of all
pub numbers_from_below : (test : Owner → Bool) (first : ℕ) (owners : List Owner) (limit : ℕ)
    → first + length owners ≤ limit → AllByRecursion (λ n. n < limit) (rows_where test first owners)
numbers_from_below test first [] limit h = tt
numbers_from_below test first (o ∷ os) limit h =
    below_step (test o) first limit (rows_where test (first + 1) os) (omega (arith, h))
    (numbers_from_below test (first + 1) os limit (omega (arith, h)))

pub numbers_below : (test : Owner → Bool) (owners : List Owner) (limit : ℕ) → length owners ≤ limit
    → AllByRecursion (λ n. n < limit) (rows_where test 0 owners)
numbers_below test owners limit h = numbers_from_below test 0 owners limit (omega (arith, h))

-- where all numbers are in range, something stands at each
pub found_all : {X : Type 0} (xs : List X) (d : X) (numbers : List ℕ) → AllByRecursion (λ n. n < length xs) numbers
    → found xs numbers ≡ map (λ n. slice_index_or xs n d) numbers
found_all xs d [] h = refl
found_all xs d (n ∷ ns) h =
    ap (λ o. cons_option o (found xs ns)) (slice_get-get_or xs n d h.0)
    ∙ ap (λ ys. slice_index_or xs n d ∷ ys) (found_all xs d ns h.1)

count_step : (t : Bool) (first n : ℕ) (numbers : List ℕ) → length numbers ≤ n
    → length (cond t (first ∷ numbers) numbers) ≤ suc n
count_step true first n numbers h = omega (arith, h)
count_step false first n numbers h = omega (arith, h)

pub few_numbers : (test : Owner → Bool) (first : ℕ) (owners : List Owner)
    → length (rows_where test first owners) ≤ length owners
few_numbers test first [] = omega arith
few_numbers test first (o ∷ os) =
    count_step (test o) first (length os) (rows_where test (first + 1) os) (few_numbers test (first + 1) os)
