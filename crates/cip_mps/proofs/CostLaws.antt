-- A walk along the numbers of the objective gives the costs of all columns.
use Rattle.std.proofs.Common.{◌≡◌, ℕ, zero, suc, ◌+◌, ◌-◌, ◌==◌, ◌<◌, ◌≤◌, Bool, true, false, cond, List, [], ◌∷◌, ◌++◌, Option, refl, sym, ap, ◌∙◌, arith, append_assoc}
use Rattle.std.specs.Prelude.{nat_lt, nat_le, slice_index_or, length}
use Rattle.std.specs.List.{list_all}
use Rattle.std.proofs.lemmas.Bool.{and_from, and_parts, ltb-true, leb-true, le-leb, ne_eqb, eqb-true, eqb-false}
use Rattle.cip_rational.specs.Rational.{ℚ, zeroℚ}
use Rattle.cip_text_rules.specs.MpsState.{Held, held_value, minimized_by, costs_from}
use Rattle.cip_text_rules.specs.MpsSoundState.{rises}
use Rattle.cip_mps.specs.Costs.{held_behind}

-- all numbers stand on a column or behind it
abbrev pub from : ℕ → List Held → Bool
from k held = list_all (λ h. nat_le k h.column) held

all_weaker : (p q : Held → Bool) → ((h : Held) → p h ≡ true → q h ≡ true) → (held : List Held) → list_all p held ≡ true → list_all q held ≡ true
all_weaker p q f [] e = refl
all_weaker p q f (h ∷ hs) e = let a = and_parts (p h) (list_all p hs) e in and_from (q h) (list_all q hs) (f h a.0) (all_weaker p q f hs a.1)

-- numbers behind a column
later : (k : ℕ) (held : List Held) → from (suc k) held ≡ true → held_value held k ≡ zeroℚ
later k [] e = refl
later k (h ∷ hs) e =
    let a = and_parts (nat_le (suc k) h.column) (from (suc k) hs) e in
    let l : suc k ≤ h.column = leb-true (suc k) h.column a.0 in
    let n : (h.column == k) ≡ false = ne_eqb h.column k (λ p. omega (arith, p, l)) in
    ap (λ b. cond b h.value (held_value hs k)) n ∙ later k hs a.1

-- those behind the first
rest_later : (k : ℕ) (h : Held) (hs : List Held) → k ≤ h.column → rises (h ∷ hs) ≡ true → from (suc k) hs ≡ true
rest_later k h hs l e =
    let a = and_parts (list_all (λ o. nat_lt h.column o.column) hs) (rises hs) e in
    all_weaker (λ o. nat_lt h.column o.column) (λ o. nat_le (suc k) o.column) (λ o p. let d : h.column < o.column = ltb-true h.column o.column p in le-leb (suc k) o.column (omega (arith, d, l))) hs a.0

-- the first stands behind the column
pub none_at : (k : ℕ) (h : Held) (hs : List Held) → from k (h ∷ hs) ≡ true → rises (h ∷ hs) ≡ true → (h.column == k) ≡ false → held_value (h ∷ hs) k ≡ zeroℚ
none_at k h hs f r e =
    let l : k ≤ h.column = leb-true k h.column (and_parts (nat_le k h.column) (from k hs) f).0 in
    ap (λ b. cond b h.value (held_value hs k)) e ∙ later k hs (rest_later k h hs l r)

pub behind_rises : (held : List Held) (k : ℕ) → rises held ≡ true → rises (held_behind held k) ≡ true
behind_rises [] k e = refl
behind_rises (h ∷ hs) k e = go (h.column == k)
  where
    go : (b : Bool) → rises (cond b hs (h ∷ hs)) ≡ true
    go true = (and_parts (list_all (λ o. nat_lt h.column o.column) hs) (rises hs) e).1
    go false = e

pub behind_later : (held : List Held) (k : ℕ) → rises held ≡ true → from k held ≡ true → from (suc k) (held_behind held k) ≡ true
behind_later [] k r f = refl
behind_later (h ∷ hs) k r f = go (h.column == k) refl
  where
    l : k ≤ h.column
    l = leb-true k h.column (and_parts (nat_le k h.column) (from k hs) f).0

    go : (b : Bool) → (h.column == k) ≡ b → from (suc k) (cond b hs (h ∷ hs)) ≡ true
    go true e = rest_later k h hs l r
    go false e =
        let n : ¬ (h.column ≡ k) = eqb-false h.column k e in
        and_from (nat_le (suc k) h.column) (from (suc k) hs) (le-leb (suc k) h.column (omega (arith, l, n))) (rest_later k h hs l r)

-- a number before them doesn't count
without_first : (sense : Option Bool) (h : Held) (hs : List Held) (at n : ℕ) → h.column < at → costs_from sense (h ∷ hs) at n ≡ costs_from sense hs at n
without_first sense h hs at zero l = refl
without_first sense h hs at (suc n) l =
    let e : (h.column == at) ≡ false = ne_eqb h.column at (λ p. omega (arith, p, l)) in
    let p : minimized_by sense (held_value (h ∷ hs) at) ≡ minimized_by sense (held_value hs at) = ap (λ b. minimized_by sense (cond b h.value (held_value hs at))) e in
    let q : costs_from sense (h ∷ hs) (at + 1) n ≡ costs_from sense hs (at + 1) n = without_first sense h hs (at + 1) n (omega (arith, l)) in
    λ i. p i ∷ q i

behind_same : (sense : Option Bool) (held : List Held) (k n : ℕ) → costs_from sense held (k + 1) n ≡ costs_from sense (held_behind held k) (k + 1) n
behind_same sense [] k n = refl
behind_same sense (h ∷ hs) k n = go (h.column == k) refl
  where
    go : (b : Bool) → (h.column == k) ≡ b → costs_from sense (h ∷ hs) (k + 1) n ≡ costs_from sense (cond b hs (h ∷ hs)) (k + 1) n
    go true e = let p : h.column ≡ k = eqb-true h.column k e in without_first sense h hs (k + 1) n (omega (arith, p))
    go false e = refl

less_one : (k m : ℕ) → k < m → m - k ≡ suc (m - (k + 1))
less_one k m l = omega (arith, l)

-- one column more
pub one_cost : (sense : Option Bool) (all held : List Held) (k m : ℕ) (costs more : List ℚ) (value cost : ℚ) (rest : List Held) → k < m
    → costs ++ costs_from sense held k (m - k) ≡ costs_from sense all 0 m
    → value ≡ held_value held k → cost ≡ minimized_by sense value → rest ≡ held_behind held k → more ≡ costs ++ cost ∷ []
    → more ++ costs_from sense rest (k + 1) (m - (k + 1)) ≡ costs_from sense all 0 m
one_cost sense all held k m costs more value cost rest l h v c r a =
    let n = m - (k + 1) in
    let p : cost ≡ minimized_by sense (held_value held k) = c ∙ ap (minimized_by sense) v in
    let q : costs_from sense rest (k + 1) n ≡ costs_from sense held (k + 1) n = ap (λ hs. costs_from sense hs (k + 1) n) r ∙ sym (behind_same sense held k n) in
    let s : cost ∷ costs_from sense rest (k + 1) n ≡ costs_from sense held k (suc n) = λ i. p i ∷ q i in
    ap (λ xs. xs ++ costs_from sense rest (k + 1) n) a ∙ append_assoc costs (cost ∷ []) (costs_from sense rest (k + 1) n)
    ∙ ap (λ xs. costs ++ xs) (s ∙ ap (costs_from sense held k) (sym (less_one k m l))) ∙ h

-- all numbers stand on the first column or behind it
pub from_zero : (held : List Held) → from 0 held ≡ true
from_zero [] = refl
from_zero (h ∷ hs) = and_from (nat_le 0 h.column) (from 0 hs) (le-leb 0 h.column (omega arith)) (from_zero hs)

-- the first isn't the column's
pub none_first : (held : List Held) (k : ℕ) (first : Held) → 1 ≤ length held → first ≡ slice_index_or held 0 first → from k held ≡ true → rises held ≡ true → ¬ (first.column ≡ k) → held_value held k ≡ zeroℚ
none_first [] k first l e f r n = absurd (omega (arith, l))
none_first (h ∷ hs) k first l e f r n = none_at k h hs f r (ne_eqb h.column k (λ p. n (ap (λ x. x.column) e ∙ p)))
