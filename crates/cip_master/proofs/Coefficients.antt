-- What a row comes to at a point of a block, whose columns alone count, is what it comes to at the point spread over
-- all columns of the program; and so it is with the terms on columns of no block.
use Rattle.std.proofs.Common.{◌≡◌, ℕ, zero, suc, ◌<◌, Bool, true, false, cond, List, [], ◌∷◌, ◌++◌, length, None, Some, Ok, IfOk, refl, sym, ap, ap₂, ◌∙◌, subst, arith, slice_get}
use Rattle.std.specs.Prelude.{slice_index, slice_index_or}
use Rattle.std.specs.List.{AllByRecursion}
use Rattle.std.proofs.lemmas.Option.{slice_get-get_or}
use Rattle.cip_rational.specs.Rational.{ℚ, ◌+ℚ◌, ◌*ℚ◌, zeroℚ}
use Rattle.cip_rational.proofs.Rational.Ring.{+ℚ-zero, zero-+ℚ, *ℚ-zero, +ℚ_assoc}
use Rattle.cip_frac.specs.Outcomes.{product_added}
use Rattle.cip_frac.proofs.Outcomes.{then_value, product_added-value}
use Rattle.cip_problem.specs.Program.{Term}
use Rattle.cip_problem.specs.Activity.{activity, value_at}
use Rattle.cip_pricing.specs.Decomposition.{Owner, same_owner, place}
use Rattle.cip_pricing.proofs.Picked.{same_owner-true}
use Rattle.cip_pricing.specs.MasterForms.{first_or_zero, after_first}
use Rattle.cip_pricing.proofs.Spread.{spread}
use Rattle.cip_lagrange.specs.Places.{ArePlaces}
use Rattle.cip_master.specs.BlockSums.{block_added, block_sum, free_term, free_terms}

-- ---- the value of a column at a point that is spread

first_value : (t : Bool) (values own others : List ℚ)
    → value_at (cond t (first_or_zero values ∷ own) (zeroℚ ∷ others)) zero ≡ cond t (value_at values zero) zeroℚ
first_value true [] own others = refl
first_value true (v ∷ vs) own others = refl
first_value false values own others = refl

later_value : (values : List ℚ) (k : ℕ) → value_at (after_first values) k ≡ value_at values (suc k)
later_value [] k = refl
later_value (v ∷ vs) k = refl

next_value : (t s : Bool) (values own others : List ℚ) (column k : ℕ)
    → value_at own column ≡ cond s (value_at (after_first values) k) zeroℚ
    → value_at others column ≡ cond s (value_at values k) zeroℚ
    → value_at (cond t (first_or_zero values ∷ own) (zeroℚ ∷ others)) (suc column)
    ≡ cond s (value_at values (cond t (suc k) k)) zeroℚ
next_value true s values own others column k e f = e ∙ ap (λ v. cond s v zeroℚ) (later_value values k)
next_value false s values own others column k e f = f

pub spread_at : (who : Owner) (owners : List Owner) (values : List ℚ) (column : ℕ) → column < length owners
    → value_at (spread who owners values) column
    ≡ cond (same_owner (slice_index_or owners column None) who) (value_at values (place who owners column)) zeroℚ
spread_at who [] values column h = absurd (omega (arith, h))
spread_at who (o ∷ os) values zero h =
    first_value (same_owner o who) values (spread who os (after_first values)) (spread who os values)
spread_at who (o ∷ os) values (suc column) h =
    next_value (same_owner o who) (same_owner (slice_index_or os column None) who) values
    (spread who os (after_first values)) (spread who os values) column (place who os column)
    (spread_at who os (after_first values) column (omega (arith, h)))
    (spread_at who os values column (omega (arith, h)))

-- a column's place is the one that is kept, where the column is the owner's
kept_value : (who : Owner) (owners : List Owner) (places : List ℕ) (values : List ℚ) (column : ℕ)
    → ArePlaces owners places → column < length owners
    → cond (same_owner (slice_index_or owners column None) who) (value_at values (slice_index places column)) zeroℚ
    ≡ value_at (spread who owners values) column
kept_value who owners places values column p h =
    cases (same_owner (slice_index_or owners column None) who) refl ∙ sym (spread_at who owners values column h)
  where
    there : slice_get owners column ≡ Some (slice_index_or owners column None)
    there = slice_get-get_or owners column None h

    cases : (t : Bool) → same_owner (slice_index_or owners column None) who ≡ t
        → cond t (value_at values (slice_index places column)) zeroℚ
        ≡ cond t (value_at values (place who owners column)) zeroℚ
    cases false e = refl
    cases true e =
        ap (λ k. value_at values k)
        (p.at column who (there ∙ ap (λ (o : Owner). Some o) (same_owner-true (slice_index_or owners column None)
        who e)))

-- ---- what a row comes to at a point of a block

added_cases : (t : Bool) (sum a v : ℚ)
    → IfOk (cond t (product_added sum a v) (Ok sum)) (λ q. q ≡ sum +ℚ a *ℚ cond t v zeroℚ)
added_cases true sum a v = product_added-value sum a v
added_cases false sum a v = sym (ap (λ z. sum +ℚ z) (*ℚ-zero a) ∙ +ℚ-zero sum)

added_value : (owners : List Owner) (places : List ℕ) (block : ℕ) (values : List ℚ) (t : Term) (sum : ℚ)
    → ArePlaces owners places → t.column < length owners
    → IfOk (block_added owners places block values t sum)
    (λ q. q ≡ sum +ℚ t.coefficient *ℚ value_at (spread (Some block) owners values) t.column)
added_value owners places block values t sum p h =
    subst (λ w. IfOk (block_added owners places block values t sum) (λ q. q ≡ sum +ℚ t.coefficient *ℚ w))
    (kept_value (Some block) owners places values t.column p h)
    (added_cases (same_owner (slice_index_or owners t.column None) (Some block)) sum t.coefficient
    (value_at values (slice_index places t.column)))

sum_value : (owners : List Owner) (places : List ℕ) (block : ℕ) (values : List ℚ) (ts : List Term) (sum : ℚ)
    → ArePlaces owners places → AllByRecursion (λ (t : Term). t.column < length owners) ts
    → IfOk (block_sum owners places block values ts sum)
    (λ q. q ≡ sum +ℚ activity ts (spread (Some block) owners values))
sum_value owners places block values [] sum p h = sym (+ℚ-zero sum)
sum_value owners places block values (t ∷ ts) sum p h =
    let one : ℚ = t.coefficient *ℚ value_at (spread (Some block) owners values) t.column in
    let others : ℚ = activity ts (spread (Some block) owners values) in
    then_value (block_added owners places block values t sum) (block_sum owners places block values ts) (sum +ℚ one)
    (sum +ℚ (one +ℚ others)) (added_value owners places block values t sum p h.0)
    (subst (λ w. IfOk (block_sum owners places block values ts (sum +ℚ one)) (λ q. q ≡ w)) (+ℚ_assoc sum one others)
    (sum_value owners places block values ts (sum +ℚ one) p h.1))

pub coefficient_value : (owners : List Owner) (places : List ℕ) (block : ℕ) (values : List ℚ) (ts : List Term)
    → ArePlaces owners places → AllByRecursion (λ (t : Term). t.column < length owners) ts
    → IfOk (block_sum owners places block values ts zeroℚ)
    (λ q. q ≡ activity ts (spread (Some block) owners values))
coefficient_value owners places block values ts p h =
    subst (λ w. IfOk (block_sum owners places block values ts zeroℚ) (λ q. q ≡ w))
    (zero-+ℚ (activity ts (spread (Some block) owners values)))
    (sum_value owners places block values ts zeroℚ p h)

-- ---- terms on columns of no block

pub activity-append : (ts us : List Term) (point : List ℚ)
    → activity (ts ++ us) point ≡ activity ts point +ℚ activity us point
activity-append [] us point = sym (zero-+ℚ (activity us point))
activity-append (t ∷ ts) us point =
    ap (λ s. t.coefficient *ℚ value_at point t.column +ℚ s) (activity-append ts us point)
    ∙ sym (+ℚ_assoc (t.coefficient *ℚ value_at point t.column) (activity ts point) (activity us point))

free_cases : (b : Bool) (place : ℕ) (t : Term) (point : List ℚ)
    → activity (cond b (record t { column = place } ∷ []) []) point
    ≡ t.coefficient *ℚ cond b (value_at point place) zeroℚ
free_cases true place t point = +ℚ-zero (t.coefficient *ℚ value_at point place)
free_cases false place t point = sym (*ℚ-zero t.coefficient)

pub free_value : (owners : List Owner) (places : List ℕ) (ts : List Term) (point : List ℚ)
    → ArePlaces owners places → AllByRecursion (λ (t : Term). t.column < length owners) ts
    → activity (free_terms owners places ts) point ≡ activity ts (spread None owners point)
free_value owners places [] point p h = refl
free_value owners places (t ∷ ts) point p h =
    let owner : Owner = slice_index_or owners t.column None in
    activity-append (free_term owner (slice_index places t.column) t) (free_terms owners places ts) point
    ∙ ap₂ (λ a b. a +ℚ b)
    (free_cases (same_owner owner None) (slice_index places t.column) t point
    ∙ ap (λ v. t.coefficient *ℚ v) (kept_value None owners places point t.column p h.0))
    (free_value owners places ts point p h.1)
