-- Numbers of a list, one after another.
use Rattle.std.proofs.Common.{◌≡◌, ℕ, ◌+◌, ◌<◌, ◌≤◌, false, List, [], ◌∷◌, ◌++◌, length, take, drop, get_or, Ok, IfOk, refl, sym, ap, ap₂, ◌∙◌, subst}
use Rattle.std.specs.List.{cons_option}
use Rattle.std.specs.Prelude.{◌&&◌, slice_index_or, All}
use Rattle.std.proofs.lemmas.List.{drop_more, drop_all, get_or_default, length-map}
use Rattle.std.proofs.lemmas.List.Elements.{recursion_from_All}
use Rattle.std.proofs.lemmas.Option.{slice_get-get_or}
use Rattle.cip_rational.specs.Rational.{ℚ, zeroℚ}
use Rattle.cip_rational.specs.Sums.{dot}
use Rattle.cip_rational.proofs.Rational.Ring.{zero-+ℚ}
use Rattle.cip_frac.proofs.Outcomes.{dot_from-value}
use Rattle.cip_frac.specs.Outcomes.{and_then, product_added, dot_from}
use Rattle.cip_problem.specs.Program.{Sides}
use Rattle.cip_problem.specs.Activity.{value_at}
use Rattle.cip_problem.specs.Box.{sides_at, no_sides, is_between}
use Rattle.cip_columns.specs.ColumnPools.{is_inside}
use Rattle.cip_lagrange.specs.Numbers.{found}
use Rattle.cip_lagrange.proofs.Found.{found_in, found_sides}
use Rattle.cip_lagrange.proofs.Numbered.{found_all}
use Rattle.cip_columns.proofs.InBoxes.{other_length}

-- what stands at the numbers from one on is what stands at that one, and then the others
opened : {X : Type 0} (xs : List X) (d : X) (numbers : List ℕ) (at : ℕ) → at < length numbers
    → get_or numbers at 0 < length xs
    → found xs (drop at numbers) ≡ get_or xs (get_or numbers at 0) d ∷ found xs (drop (at + 1) numbers)
opened xs d numbers at h l =
    ap (found xs) (drop_more numbers at 0 h) ∙ first (get_or numbers at 0) l
  where
    first : (n : ℕ) → n < length xs → found xs (n ∷ drop (at + 1) numbers) ≡ get_or xs n d ∷ found xs (drop (at +
        1) numbers)
    first n k = ap (λ o. cons_option o (found xs (drop (at + 1) numbers))) (slice_get-get_or xs n d k)

pub sum_opened : (form values : List ℚ) (numbers : List ℕ) (at : ℕ) (sum : ℚ) → at < length numbers
    → at < length values → get_or numbers at 0 < length form
    → dot_from sum (found form (drop at numbers)) (drop at values)
    ≡ and_then (product_added sum (value_at form (get_or numbers at 0)) (value_at values at))
    (λ more. dot_from more (found form (drop (at + 1) numbers)) (drop (at + 1) values))
sum_opened form values numbers at sum h k l =
    ap₂ (λ us vs. dot_from sum us vs) (opened form zeroℚ numbers at h l) (drop_more values at zeroℚ k)

pub inside_opened : (box : List Sides) (values : List ℚ) (numbers : List ℕ) (at : ℕ) → at < length numbers
    → at < length values → get_or numbers at 0 < length box
    → is_inside (found box (drop at numbers)) (drop at values)
    ≡ (is_between (sides_at box (get_or numbers at 0)).low (sides_at box (get_or numbers at 0)).high (value_at
    values at)
    && is_inside (found box (drop (at + 1) numbers)) (drop (at + 1) values))
inside_opened box values numbers at h k l =
    ap₂ is_inside (opened box no_sides numbers at h l) (drop_more values at zeroℚ k)

-- past the end of either
pub sum_ended : (form values : List ℚ) (numbers : List ℕ) (at : ℕ) (sum : ℚ) → length values ≤ at
    → dot_from sum (found form (drop at numbers)) (drop at values) ≡ Ok sum
sum_ended form values numbers at sum h =
    ap (dot_from sum (found form (drop at numbers))) (drop_all at values h) ∙ none (found form (drop at numbers))
  where
    none : (us : List ℚ) → dot_from sum us [] ≡ Ok sum
    none [] = refl
    none (u ∷ us) = refl

-- the sides, and the costs, at one number more
pub sides_more : (box : List Sides) (numbers : List ℕ) (i : ℕ) → i < length numbers → get_or numbers i 0 < length box
    → found box (take (i + 1) numbers)
    ≡ found box (take i numbers) ++ sides_at box (get_or numbers i 0) ∷ []
sides_more box numbers i h l = found_sides box numbers i (sides_at box (get_or numbers i 0)) h l refl

pub costs_more : (costs : List ℚ) (numbers : List ℕ) (i : ℕ) → i < length numbers → get_or numbers i 0 < length costs
    → found costs (take (i + 1) numbers)
    ≡ found costs (take i numbers) ++ value_at costs (get_or numbers i 0) ∷ []
costs_more costs numbers i h l =
    found_in costs numbers i (value_at costs (get_or numbers i 0)) h l
    (get_or_default costs (get_or numbers i 0) zeroℚ (value_at costs (get_or numbers i 0)) l)

-- values of another number aren't inside
pub inside_other : (box : List Sides) (values : List ℚ) (numbers : List ℕ) → All (λ n. n < length box) numbers
    → (length numbers ≡ length values → ⊥) → false ≡ is_inside (found box numbers) values
inside_other box values numbers h n =
    other_length (found box numbers) values
    (λ e. n (sym (ap length (found_all box no_sides numbers (recursion_from_All (λ k. k < length box) numbers h))
    ∙ length-map numbers (λ k. slice_index_or box k no_sides)) ∙ e))

pub sum_value : (form values : List ℚ) (numbers : List ℕ)
    → IfOk (dot_from zeroℚ (found form numbers) values) (λ sum. sum ≡ dot (found form numbers) values)
sum_value form values numbers =
    subst (λ q. IfOk (dot_from zeroℚ (found form numbers) values) (λ sum. sum ≡ q))
    (zero-+ℚ (dot (found form numbers) values)) (dot_from-value zeroℚ (found form numbers) values)
