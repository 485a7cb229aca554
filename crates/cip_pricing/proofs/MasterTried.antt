-- The master program tried on the program of two blocks.
use Rattle.std.proofs.Common.{arith, ◌≡◌, List, [], ◌∷◌, refl, sym, ap₂, ◌∙◌}
use Rattle.cip_rational.specs.Rational.{ℚ, ◌+ℚ◌, ◌*ℚ◌, whole, zeroℚ, oneℚ}
use Rattle.cip_rational.specs.Sums.{dot}
use Rattle.cip_rational.proofs.Linear.{linear_same}
use Rattle.cip_problem.specs.Activity.{activity}
use Rattle.cip_pricing.specs.Examples.{at_most_three}
use Rattle.cip_pricing.specs.MasterExamples.{one_weight, MasterExample}

-- the master row of the program as a form
ones_form : (point : List ℚ)
    → dot (oneℚ ∷ oneℚ ∷ oneℚ ∷ oneℚ ∷ []) point ≡ activity (at_most_three 4 0 oneℚ).terms point
ones_form [] = linear_same [] (λ s w. let p = s.products tt in omega arith)
ones_form (a ∷ []) = linear_same (a ∷ []) (λ s w. let p = s.products tt in omega arith)
ones_form (a ∷ b ∷ []) = linear_same (a ∷ b ∷ []) (λ s w. let p = s.products tt in omega arith)
ones_form (a ∷ b ∷ c ∷ []) = linear_same (a ∷ b ∷ c ∷ []) (λ s w. let p = s.products tt in omega arith)
ones_form (a ∷ b ∷ c ∷ d ∷ xs) = linear_same (a ∷ b ∷ c ∷ d ∷ []) (λ s w. let p = s.products tt in omega arith)

-- what a held point has there
one_sum : oneℚ *ℚ oneℚ +ℚ (oneℚ *ℚ zeroℚ +ℚ zeroℚ) ≡ oneℚ
one_sum = linear_same [] (λ s w. let p = s.products tt in omega arith)

two_sum : (point : List ℚ) → activity (at_most_three 2 0 oneℚ).terms point ≡ dot (oneℚ ∷ oneℚ ∷ []) point
two_sum [] = linear_same [] (λ s w. let p = s.products tt in omega arith)
two_sum (a ∷ []) = linear_same (a ∷ []) (λ s w. let p = s.products tt in omega arith)
two_sum (a ∷ b ∷ xs) = linear_same (a ∷ b ∷ []) (λ s w. let p = s.products tt in omega arith)

first_weight : (point : List ℚ) → activity (one_weight 0).terms point ≡ dot (oneℚ ∷ zeroℚ ∷ []) point
first_weight [] = linear_same [] (λ s w. let p = s.products tt in omega arith)
first_weight (a ∷ []) = linear_same (a ∷ []) (λ s w. let p = s.products tt in omega arith)
first_weight (a ∷ b ∷ xs) = linear_same (a ∷ b ∷ []) (λ s w. let p = s.products tt in omega arith)

second_weight : (point : List ℚ) → activity (one_weight 1).terms point ≡ dot (zeroℚ ∷ oneℚ ∷ []) point
second_weight [] = linear_same [] (λ s w. let p = s.products tt in omega arith)
second_weight (a ∷ []) = linear_same (a ∷ []) (λ s w. let p = s.products tt in omega arith)
second_weight (a ∷ b ∷ xs) = linear_same (a ∷ b ∷ []) (λ s w. let p = s.products tt in omega arith)

one_cost : whole 0 2 ≡ whole 0 2 *ℚ oneℚ +ℚ (whole 0 1 *ℚ zeroℚ +ℚ zeroℚ)
one_cost = linear_same [] (λ s w. let p = s.products tt in omega arith)

pub master_example : MasterExample
master_example = record {
  masters = at_most_three 2 0 oneℚ ∷ [];
  sums = one_weight 0 ∷ one_weight 1 ∷ [];
  rows = refl;
  are_masters = (
    record {
      form = oneℚ ∷ oneℚ ∷ oneℚ ∷ oneℚ ∷ [];
      long = refl;
      is_form = ones_form;
      low = refl;
      high = refl;
      sums = λ point. two_sum point ∙ sym (ap₂ (λ (x y : ℚ). dot (x ∷ y ∷ []) point) one_sum one_sum);
    },
    tt,
  );
  count = refl;
  are_sums = (
    record { low = refl; high = refl; sums = first_weight },
    (record { low = refl; high = refl; sums = second_weight }, tt),
  );
  bounds = refl;
  costs = ap₂ (λ (x y : ℚ). x ∷ y ∷ []) one_cost one_cost;
}
