-- The costs of the first state, put one after another into a line of zeros.
use Rattle.std.proofs.Common.{◌≡◌, ℕ, ◌+◌, ◌<◌, ◌≤◌, cond, List, length, replicate, get_or, set, sym, ap, ◌∙◌, inl, inr, arith, length-set}
use Rattle.std.proofs.lemmas.Bool.{lt-ltb, le-ltb, cases_lt, cases_eq}
use Rattle.std.proofs.lemmas.List.{get_or-set_same, get_or-set_other, get_or-replicate, length-replicate, get_or_default}
use Rattle.cip_rational.specs.Rational.{ℚ, zeroℚ}
use Rattle.cip_problem.specs.Activity.{value_at}
use Rattle.cip_bland.specs.Tables.{table}
use Rattle.cip_bland.proofs.Tables.{same_table}
use Rattle.cip_dict.specs.FirstLists.{cost_in}

-- the first k costs are put
pub record AreCosts (costs : List ℚ) (n k : ℕ) (all : List ℚ) : Type 0 where
  pub long : length all ≡ n
  pub put : (v : ℕ) → v < k → value_at all v ≡ cost_in costs v
  pub rest : (v : ℕ) → k ≤ v → v < n → value_at all v ≡ zeroℚ

-- a cost that is read is that of its column
cost_here : (costs : List ℚ) (k : ℕ) (q : ℚ) → k < length costs → q ≡ get_or costs k q → q ≡ cost_in costs k
cost_here costs k q l is =
    is ∙ get_or_default costs k q zeroℚ l ∙ sym (ap (λ t. cond t (value_at costs k) zeroℚ) (lt-ltb k (length costs) l))

pub costs_none : (costs : List ℚ) (n : ℕ) (all : List ℚ) → all ≡ replicate n zeroℚ → AreCosts costs n 0 all
costs_none costs n all e = record {
  long = ap length e ∙ length-replicate n zeroℚ;
  put = λ v l. absurd (omega (arith, l));
  rest = λ v u l. ap (λ xs. value_at xs v) e ∙ get_or-replicate n v zeroℚ zeroℚ l;
}

pub costs_more : (costs : List ℚ) (n k : ℕ) (q : ℚ) (all new : List ℚ) → k < length costs → length costs ≤ n → q ≡ get_or costs k q → AreCosts costs n k all → new ≡ set all k q → AreCosts costs n (k + 1) new
costs_more costs n k q all new l w is h e =
    let there : k < length all = omega (arith, l, w, h.long) in
    record {
      long = ap length e ∙ length-set all k q ∙ h.long;
      put = λ v u. ap (λ xs. value_at xs v) e ∙ elim (cases_eq v k) [
        | inl s ↦ ap (λ i. get_or (set all k q) i zeroℚ) s ∙ get_or-set_same all k q zeroℚ there ∙ cost_here costs k q l is ∙ sym (ap (cost_in costs) s)
        | inr ne ↦ get_or-set_other all k v q zeroℚ ne ∙ h.put v (omega (arith, u, ne))
      ];
      rest = λ v u below. ap (λ xs. value_at xs v) e ∙ get_or-set_other all k v q zeroℚ (λ s. omega (arith, s, u)) ∙ h.rest v (omega (arith, u)) below;
    }

pub costs_all : (costs : List ℚ) (n k : ℕ) (all : List ℚ) → k ≡ length costs → AreCosts costs n k all → all ≡ table n (cost_in costs)
costs_all costs n k all e h =
    same_table n (cost_in costs) all zeroℚ h.long
    (λ v l. elim (cases_lt v k) [
      | inl u ↦ h.put v u
      | inr u ↦ (let w : length costs ≤ v = omega (arith, u, e) in h.rest v u l ∙ sym (ap (λ t. cond t (value_at costs v) zeroℚ) (le-ltb v (length costs) w)))
    ])
