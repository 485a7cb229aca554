-- Numbers that are given to blocks.
use Rattle.std.proofs.Common.{◌≡◌, ℕ, zero, suc, ◌<◌, ◌==◌, Bool, true, false, ◌||◌, List, [], ◌∷◌, length, replicate, Option, None, Some, refl, sym, ap, ◌∙◌, arith, true≢false, slice_get}
use Rattle.std.specs.Prelude.{slice_set}
use Rattle.std.proofs.lemmas.Bool.{eqb-true, eqb-false}
use Rattle.std.proofs.lemmas.Option.{none-some, same_Some, slice_get_within}
use Rattle.std.proofs.lemmas.List.{length-set, length-replicate}
use Rattle.cip_problem.specs.BlockParts.{has_number}
use Rattle.cip_pricing.specs.Decomposition.{Owner}
use Rattle.cip_lagrange.specs.Owners.{marked, owned_below}
use Rattle.cip_lagrange.proofs.AtPlaces.{get-set_same, get-set_other}

-- ---- one block

pub length-marked : (ns : List ℕ) (b : ℕ) (os : List Owner) → length (marked ns b os) ≡ length os
length-marked [] b os = refl
length-marked (n ∷ ns) b os = length-marked ns b (slice_set os n (Some b)) ∙ length-set os n (Some b)

set_there : (n k b : ℕ) (os : List Owner) (t : Bool) → (n == k) ≡ t → slice_get os k ≡ Some (Some b)
    → slice_get (slice_set os n (Some b)) k ≡ Some (Some b)
set_there n k b os true e h =
    ap (λ m. slice_get (slice_set os m (Some b)) k) (eqb-true n k e)
    ∙ get-set_same os k (Some b) (slice_get_within os k (Some b) h)
set_there n k b os false e h = get-set_other os n k (Some b) (eqb-false n k e) ∙ h

marked_there : (ns : List ℕ) (b : ℕ) (os : List Owner) (k : ℕ) → slice_get os k ≡ Some (Some b)
    → slice_get (marked ns b os) k ≡ Some (Some b)
marked_there [] b os k e = e
marked_there (n ∷ ns) b os k e =
    marked_there ns b (slice_set os n (Some b)) k (set_there n k b os (n == k) refl e)

has_step : (ns : List ℕ) (n b : ℕ) (os : List Owner) (k : ℕ) (t : Bool) → (n == k) ≡ t → k < length os
    → (t || has_number ns k) ≡ true
    → (has_number ns k ≡ true → slice_get (marked ns b (slice_set os n (Some b))) k ≡ Some (Some b))
    → slice_get (marked ns b (slice_set os n (Some b))) k ≡ Some (Some b)
has_step ns n b os k true e l h later =
    marked_there ns b (slice_set os n (Some b)) k
    (ap (λ m. slice_get (slice_set os m (Some b)) k) (eqb-true n k e) ∙ get-set_same os k (Some b) l)
has_step ns n b os k false e l h later = later h

-- a number of the block is given to it
pub marked_has : (ns : List ℕ) (b : ℕ) (os : List Owner) (k : ℕ) → k < length os → has_number ns k ≡ true
    → slice_get (marked ns b os) k ≡ Some (Some b)
marked_has [] b os k l e = absurd (true≢false (sym e))
marked_has (n ∷ ns) b os k l e =
    has_step ns n b os k (n == k) refl l e
    (marked_has ns b (slice_set os n (Some b)) k (omega (arith, l, length-set os n (Some b))))

not_step : (ns : List ℕ) (n b : ℕ) (os : List Owner) (k : ℕ) (t : Bool) → (n == k) ≡ t
    → (t || has_number ns k) ≡ false
    → (has_number ns k ≡ false
    → slice_get (marked ns b (slice_set os n (Some b))) k ≡ slice_get (slice_set os n (Some b)) k)
    → slice_get (marked ns b (slice_set os n (Some b))) k ≡ slice_get os k
not_step ns n b os k true e h later = absurd (true≢false h)
not_step ns n b os k false e h later = later h ∙ get-set_other os n k (Some b) (eqb-false n k e)

-- another number has the owner that it had
pub marked_not : (ns : List ℕ) (b : ℕ) (os : List Owner) (k : ℕ) → has_number ns k ≡ false
    → slice_get (marked ns b os) k ≡ slice_get os k
marked_not [] b os k e = refl
marked_not (n ∷ ns) b os k e =
    not_step ns n b os k (n == k) refl e (marked_not ns b (slice_set os n (Some b)) k)

-- ---- all blocks

pub length-owned : (f : ℕ → List ℕ) (n : ℕ) (os : List Owner) → length (owned_below f n os) ≡ length os
length-owned f zero os = refl
length-owned f (suc n) os = length-marked (f n) n (owned_below f n os) ∙ length-owned f n os

is_step : (f : ℕ → List ℕ) (n : ℕ) (os : List Owner) (k b : ℕ) (t : Bool) → has_number (f n) k ≡ t → k < length os
    → b < suc n → has_number (f b) k ≡ true
    → ((c : ℕ) → c < suc n → has_number (f c) k ≡ true → c ≡ b)
    → (b < n → slice_get (owned_below f n os) k ≡ Some (Some b))
    → slice_get (marked (f n) n (owned_below f n os)) k ≡ Some (Some b)
is_step f n os k b true q l h e only before =
    let long : length (owned_below f n os) ≡ length os = length-owned f n os in
    marked_has (f n) n (owned_below f n os) k (omega (arith, l, long)) q
    ∙ ap (λ m. Some (Some m)) (only n (omega arith) q)
is_step f n os k b false q l h e only before =
    let other : b ≡ n → ⊥ = λ (same : b ≡ n). true≢false (sym e ∙ ap (λ m. has_number (f m) k) same ∙ q) in
    marked_not (f n) n (owned_below f n os) k q ∙ before (omega (arith, h, other))

-- a number is given to the block that alone has it
pub owned_is : (f : ℕ → List ℕ) (n : ℕ) (os : List Owner) (k b : ℕ) → k < length os → b < n
    → has_number (f b) k ≡ true → ((c : ℕ) → c < n → has_number (f c) k ≡ true → c ≡ b)
    → slice_get (owned_below f n os) k ≡ Some (Some b)
owned_is f zero os k b l h e only = absurd (omega (arith, h))
owned_is f (suc n) os k b l h e only =
    is_step f n os k b (has_number (f n) k) refl l h e only
    (λ m. owned_is f n os k b l m e (λ c q. only c (omega (arith, q))))

-- of no block
abbrev pub nobody : ℕ → List Owner
nobody m = replicate m None

none_there : (m k : ℕ) (o : Owner) → slice_get (nobody m) k ≡ Some o → o ≡ None
none_there zero k o e = absurd (none-some o e)
none_there (suc m) zero o e = sym (same_Some None o e)
none_there (suc m) (suc k) o e = none_there m k o e

back_step : (f : ℕ → List ℕ) (n m k b : ℕ) (t : Bool) → has_number (f n) k ≡ t → k < m
    → slice_get (marked (f n) n (owned_below f n (nobody m))) k ≡ Some (Some b)
    → (slice_get (owned_below f n (nobody m)) k ≡ Some (Some b) → (b < n) × (has_number (f b) k ≡ true))
    → (b < suc n) × (has_number (f b) k ≡ true)
back_step f n m k b true q l e before =
    let long : length (owned_below f n (nobody m)) ≡ length (nobody m) = length-owned f n (nobody m) in
    let many : length (nobody m) ≡ m = length-replicate m None in
    let there : ◌≡◌ {A = Option Owner} (Some (Some n)) (Some (Some b)) =
    sym (marked_has (f n) n (owned_below f n (nobody m)) k (omega (arith, l, long, many)) q) ∙ e in
    let same : n ≡ b = same_Some n b (same_Some (Some n) (Some b) there) in
    (omega (arith, same), ap (λ c. has_number (f c) k) (sym same) ∙ q)
back_step f n m k b false q l e before =
    let h = before (sym (marked_not (f n) n (owned_below f n (nobody m)) k q) ∙ e) in
    (omega (arith, h.0), h.1)

-- a number that was given to a block is one of it
pub owned_back : (f : ℕ → List ℕ) (n m k b : ℕ) → slice_get (owned_below f n (nobody m)) k ≡ Some (Some b)
    → (b < n) × (has_number (f b) k ≡ true)
owned_back f zero m k b e = absurd (none-some b (sym (none_there m k (Some b) e)))
owned_back f (suc n) m k b e =
    let long : length (owned_below f (suc n) (nobody m)) ≡ length (nobody m) = length-owned f (suc n) (nobody m) in
    let many : length (nobody m) ≡ m = length-replicate m None in
    let inside : k < length (owned_below f (suc n) (nobody m)) = slice_get_within
    (owned_below f (suc n) (nobody m)) k (Some b) e in
    back_step f n m k b (has_number (f n) k) refl (omega (arith, long, many, inside)) e (owned_back f n m k b)
