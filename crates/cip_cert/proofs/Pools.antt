-- Rows of the pool by rising id.
use Rattle.std.proofs.Common.{◌≡◌, ◌≢◌, ℕ, zero, suc, ◌+◌, ◌-◌, ◌/◌, ◌<◌, ◌≤◌, List, [], ◌∷◌, length, get_or, None, refl, sym, ap, ◌∙◌, subst, arith, slice_get, inl, inr}
use Rattle.std.proofs.lemmas.Bool.{cases_eq, cases_lt, eq-eqb, ne_eqb}
use Rattle.std.proofs.lemmas.List.{get_or_default}
use Rattle.cip_cert.specs.declared.rows.PoolRow.{PoolRow}
use Rattle.cip_cert.specs.Pool.{pool_row, AreRising}

-- the middle of a stretch
pub middle_within : (low high : ℕ) → low < high → low + (high - low) / 2 < high
middle_within low high h = omega arith

pub more_before : (pool : List PoolRow) (m id : ℕ) (e : PoolRow) → AreRising pool → m < length pool → (get_or pool m e).id < id → (k : ℕ) (d : PoolRow) → k < m + 1 → (get_or pool k d).id < id
more_before pool m id e rising l h k d b =
    let same : (get_or pool m d).id ≡ (get_or pool m e).id = ap (λ (p : PoolRow). p.id) (get_or_default pool m d e l) in
    elim (cases_eq k m) [
      | inl f ↦ subst (λ (i : ℕ). (get_or pool i d).id < id) (sym f) (omega (arith, same, h))
      | inr n ↦ omega (arith, same, h, rising k m d (omega (arith, b, n)) l)
    ]

pub less_after : (pool : List PoolRow) (m id : ℕ) (e : PoolRow) → AreRising pool → m < length pool → id ≤ (get_or pool m e).id → (k : ℕ) (d : PoolRow) → m ≤ k → k < length pool → id ≤ (get_or pool k d).id
less_after pool m id e rising l h k d b w =
    let same : (get_or pool m d).id ≡ (get_or pool m e).id = ap (λ (p : PoolRow). p.id) (get_or_default pool m d e l) in
    elim (cases_eq k m) [
      | inl f ↦ subst (λ (i : ℕ). id ≤ (get_or pool i d).id) (sym f) (omega (arith, same, h))
      | inr n ↦ omega (arith, same, h, rising m k d (omega (arith, b, n)) w)
    ]

-- the row that is found
pub found : (pool : List PoolRow) (place id : ℕ) (e : PoolRow) → ((k : ℕ) (d : PoolRow) → k < place → (get_or pool k d).id < id) → place < length pool → (get_or pool place e).id ≡ id → slice_get pool place ≡ pool_row pool id
found [] place id e before l h = absurd (omega (arith, l))
found (p ∷ ps) zero id e before l h = rw (eq-eqb p.id id h) refl
found (p ∷ ps) (suc place) id e before l h =
    let first : p.id < id = before 0 e (omega arith) in
    rw (ne_eqb p.id id (λ f. absurd (omega (arith, first, f)))) (found ps place id e (λ k d b. before (suc k) d (omega (arith, b))) (omega (arith, l)) h)

-- none is
pub not_found : (pool : List PoolRow) (id : ℕ) → ((k : ℕ) (d : PoolRow) → k < length pool → (get_or pool k d).id ≢ id) → pool_row pool id ≡ None
not_found [] id h = refl
not_found (p ∷ ps) id h = rw (ne_eqb p.id id (h 0 p (omega arith))) (not_found ps id (λ k d l. h (suc k) d (omega (arith, l))))

pub none_between : (pool : List PoolRow) (place id : ℕ) → AreRising pool → ((k : ℕ) (d : PoolRow) → k < place → (get_or pool k d).id < id) → ((k : ℕ) (d : PoolRow) → place ≤ k → k < length pool → id ≤ (get_or pool k d).id) → ((d : PoolRow) → place < length pool → (get_or pool place d).id ≢ id) → pool_row pool id ≡ None
none_between pool place id rising before after other = not_found pool id apart
  where
    apart : (k : ℕ) (d : PoolRow) → k < length pool → (get_or pool k d).id ≢ id
    apart k d l e = elim (cases_lt k place) [
      | inl b ↦ absurd (omega (arith, before k d b, e))
      | inr b ↦
          elim (cases_eq k place) [
            | inl f ↦ other d (omega (arith, f, l)) (subst (λ (i : ℕ). (get_or pool i d).id ≡ id) f e)
            | inr n ↦ absurd (omega (arith, e, rising place k d (omega (arith, b, n)) l, after place d (omega arith) (omega (arith, b, l))))
          ]
    ]

pub other_default : (pool : List PoolRow) (place id : ℕ) (e : PoolRow) → (get_or pool place e).id ≢ id → (d : PoolRow) → place < length pool → (get_or pool place d).id ≢ id
other_default pool place id e h d l f = h (ap (λ (p : PoolRow). p.id) (get_or_default pool place e d l) ∙ f)
