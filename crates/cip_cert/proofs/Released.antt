-- What doesn't rest needs neither the cutoff row nor a row that rests on it.
use Rattle.std.proofs.Common.{◌≡◌, ℕ, suc, ◌+◌, ◌<◌, ◌≤◌, Bool, true, false, not, cond, ◌==◌, List, [], ◌∷◌, length, Option, None, Some, Result, Ok, Err, IfOk, IfSome, refl, sym, ap, ◌∙◌, subst, true≢false, nat_lt}
use Rattle.std.specs.List.{AllByRecursion}
use Rattle.std.proofs.lemmas.Bool.{or_parts}
use Rattle.std.proofs.lemmas.List.Elements.{All-filter, recursion_from_All, All-from_recursion}
use Rattle.std.proofs.lemmas.List.Kept.{AllPairs-filter}
use Rattle.cip_rational.specs.Rational.{ℚ}
use Rattle.cip_rational.proofs.Rational.Order.{≤ℚ_refl}
use Rattle.cip_problem.specs.Program.{Sides, Row, Program}
use Rattle.cip_problem.specs.Box.{IsInBox}
use Rattle.cip_problem.specs.Points.{IsSatisfied}
use Rattle.cip_problem.specs.Aggregate.{Inequality}
use Rattle.cip_problem.specs.Improving.{IsImproving, IsValidRow, IsValid, IsNoDearer}
use Rattle.cip_problem.proofs.Improving.{fewer}
use Rattle.cip_lin.specs.declared.combos.RowId.{RowId}
use Rattle.cip_lin.specs.declared.combos.RowId.TheVariants.{Own, Pool, Cutoff}
use Rattle.cip_lin.specs.declared.combos.RowMultiple.{RowMultiple}
use Rattle.cip_cert.specs.declared.rows.PoolRow.{PoolRow}
use Rattle.cip_cert.specs.declared.faults.CutFault.{CutFault}
use Rattle.cip_cert.specs.Pool.{pool_row}
use Rattle.cip_cert.specs.Lent.{Lent, KeptFits, Fits, Multiples, count_of}
use Rattle.cip_cert.specs.Checks.{chain, named_row, in_scope, row_part, add_part, add_row, add_rows, add_lows, add_highs, nothing, aggregate_of, round_if, derived}
use Rattle.cip_node_rules.specs.RowRules.{most_multiples}
use Rattle.cip_cert.specs.Follows.{RowsHold, RowFollows}
use Rattle.cip_cert.specs.Resting.{is_resting, names_resting, rests_on_cutoff, released, lent_released, valid_below, ArePoolRowsValid, IsLentOf}
use Rattle.cip_cert.proofs.Sums.{ok_weaker}
use Rattle.cip_cert.proofs.Meaning.{derived_follows}

-- ---- rows by their names

pub pool_row_of : (t : Bool) (xs ys : List PoolRow) (id : ℕ) → pool_row (cond t xs ys) id ≡ cond t (pool_row xs id) (pool_row ys id)
pool_row_of true xs ys id = refl
pool_row_of false xs ys id = refl

-- a row that doesn't rest is found among those that don't
found_released : (pool : List PoolRow) (id : ℕ) → is_resting (pool_row pool id) ≡ false → pool_row (released pool) id ≡ pool_row pool id
found_released [] id h = refl
found_released (k ∷ ks) id h =
    pool_row_of (not k.rests) (k ∷ released ks) (released ks) id
    ∙ chosen k.rests refl (k.id == id) (found_released ks id) h
  where
    chosen : (r : Bool) → k.rests ≡ r → (t : Bool) → (is_resting (pool_row ks id) ≡ false → pool_row (released ks) id ≡ pool_row ks id) → is_resting (cond t (Some k) (pool_row ks id)) ≡ false → cond (not r) (cond t (Some k) (pool_row (released ks) id)) (pool_row (released ks) id) ≡ cond t (Some k) (pool_row ks id)
    chosen false e true later f = refl
    chosen false e false later f = later f
    chosen true e true later f = absurd (true≢false (sym e ∙ f))
    chosen true e false later f = later f

named_released : (lent : Lent) (box : List Sides) (entry : ℕ) (name : RowId) → names_resting lent.pool name ≡ false → named_row (lent_released lent) box entry name ≡ named_row lent box entry name
named_released lent box entry (Own number) h = refl
named_released lent box entry (Pool id) h = ap (in_scope entry box) (found_released lent.pool id h)
named_released lent box entry Cutoff h = absurd (true≢false h)

-- ---- sums

chain_same : {A B : Type 0} (r : Result A CutFault) (f g : A → Result B CutFault) → ((a : A) → f a ≡ g a) → chain r f ≡ chain r g
chain_same (Ok a) f g h = h a
chain_same (Err fault) f g h = refl

rows_released : (lent : Lent) (box : List Sides) (entry : ℕ) (ms : List RowMultiple) (row : Inequality) → rests_on_cutoff lent.pool ms ≡ false → add_rows (lent_released lent) box entry ms row ≡ add_rows lent box entry ms row
rows_released lent box entry [] row h = refl
rows_released lent box entry (m ∷ ms) row h =
    let parts = or_parts (names_resting lent.pool m.row) (rests_on_cutoff lent.pool ms) h in
    ap (λ r. chain (chain (chain r (row_part entry m.factor)) (add_part entry row)) (add_rows (lent_released lent) box (suc entry) ms)) (named_released lent box entry m.row parts.0)
    ∙ chain_same (add_row lent box entry m row) (add_rows (lent_released lent) box (suc entry) ms) (add_rows lent box (suc entry) ms) (λ more. rows_released lent box (suc entry) ms more parts.1)

pub same_without : (lent : Lent) (box : List Sides) (columns : ℕ) (combo : Multiples) → rests_on_cutoff lent.pool combo.rows ≡ false → aggregate_of (lent_released lent) box columns combo ≡ aggregate_of lent box columns combo
same_without lent box columns combo h =
    ap (λ r. cond (nat_lt most_multiples (count_of combo)) (Err CutFault.TooLong) (chain (chain r (add_lows box (length combo.rows) combo.lows)) (add_highs box (length combo.rows + length combo.lows) combo.highs))) (rows_released lent box 0 combo.rows (nothing columns) h)

-- ---- what follows

pub fits_released : (lent : Lent) (columns : ℕ) → Fits columns lent → Fits columns (lent_released lent)
fits_released lent columns fits = record {
  own = fits.own;
  pool = All-filter (λ (kept : PoolRow). not kept.rests) (KeptFits columns) lent.pool fits.pool;
  rising = AllPairs-filter (λ (a b : PoolRow). a.id < b.id) (λ (kept : PoolRow). not kept.rests) lent.pool fits.rising;
  cutoff = tt;
}

pub follows_without : (lent : Lent) (integral : List Bool) (box : List Sides) (columns : ℕ) (combo : Multiples) (round : Bool) → Fits (length box) lent → length box ≤ columns → rests_on_cutoff lent.pool combo.rows ≡ false → IfOk (derived lent integral box columns combo round) (RowFollows (lent_released lent) integral box round)
follows_without lent integral box columns combo round fits room h =
    subst (λ r. IfOk (chain r (round_if round integral)) (RowFollows (lent_released lent) integral box round)) (same_without lent box columns combo h)
    (derived_follows (lent_released lent) box columns combo (fits_released lent (length box) fits) room integral round)

-- ---- validity

pub dearer_than_each : (held : Option ℚ) (rests : Bool) → IsNoDearer held (valid_below held rests)
dearer_than_each None true = tt
dearer_than_each (Some cost) true = ≤ℚ_refl cost
dearer_than_each held false = tt

-- the rows of a pool hold in their scopes at a point that is improving below what each needs
pub pool_holds : (program : Program) (held : Option ℚ) (pool : List PoolRow) (point : List ℚ) → IsImproving program held point → AllByRecursion (λ kept. IsValidRow program (valid_below held kept.rests) kept.scope kept.row) pool → AllByRecursion (λ kept. IsInBox kept.scope point → IsSatisfied kept.row point) pool
pool_holds program held [] point i h = tt
pool_holds program held (k ∷ ks) point i h =
    (h.0 point (fewer program held (valid_below held k.rests) point (dearer_than_each held k.rests) i), pool_holds program held ks point i h.1)

-- those that don't rest also below each cost
released_valid : (program : Program) (held : Option ℚ) (pool : List PoolRow) → AllByRecursion (λ kept. IsValidRow program (valid_below held kept.rests) kept.scope kept.row) pool → AllByRecursion (λ kept. IsValidRow program (valid_below None kept.rests) kept.scope kept.row) (released pool)
released_valid program held [] h = tt
released_valid program held (k ∷ ks) h = chosen k.rests refl (released_valid program held ks h.1)
  where
    chosen : (r : Bool) → k.rests ≡ r → AllByRecursion (λ kept. IsValidRow program (valid_below None kept.rests) kept.scope kept.row) (released ks) → AllByRecursion (λ kept. IsValidRow program (valid_below None kept.rests) kept.scope kept.row) (cond (not r) (k ∷ released ks) (released ks))
    chosen true e later = later
    chosen false e later = (subst (λ t. IsValidRow program (valid_below None t) k.scope k.row) (sym e) (subst (λ t. IsValidRow program (valid_below held t) k.scope k.row) e h.0), later)

pub pool_released : (program : Program) (held : Option ℚ) (pool : List PoolRow) → ArePoolRowsValid program held pool → ArePoolRowsValid program None (released pool)
pool_released program held pool h =
    All-from_recursion (λ (kept : PoolRow). IsValidRow program (valid_below None kept.rests) kept.scope kept.row) (released pool)
    (released_valid program held pool (recursion_from_All (λ (kept : PoolRow). IsValidRow program (valid_below held kept.rests) kept.scope kept.row) pool h))

pub cutoff_at : (program : Program) (held : Option ℚ) (box : List Sides) (cutoff : Option Row) (point : List ℚ) → IfSome cutoff (IsValidRow program held box) → IsImproving program held point → IsInBox box point → IfSome cutoff (λ row. IsSatisfied row point)
cutoff_at program held box None point h i w = tt
cutoff_at program held box (Some row) point h i w = h point i w

pub lent_holds : (program : Program) (held : Option ℚ) (box : List Sides) (lent : Lent) (point : List ℚ) → IsLentOf program held box lent → IsImproving program held point → IsInBox box point → RowsHold lent point
lent_holds program held box lent point l i w = record {
  own = subst (λ (rows : List Row). AllByRecursion (λ row. IsSatisfied row point) rows) (sym l.own) i.feasible.rows;
  pool = pool_holds program held lent.pool point i (recursion_from_All (λ (kept : PoolRow). IsValidRow program (valid_below held kept.rests) kept.scope kept.row) lent.pool l.pool);
  cutoff = cutoff_at program held box lent.cutoff point l.cutoff i w;
}

pub lent_without : (program : Program) (held : Option ℚ) (box : List Sides) (lent : Lent) → IsLentOf program held box lent → IsLentOf program None box (lent_released lent)
lent_without program held box lent l = record { own = l.own; pool = pool_released program held lent.pool l.pool; cutoff = tt }

-- what follows from the rows that are lent is valid
pub follows_valid : (program : Program) (held : Option ℚ) (box : List Sides) (lent : Lent) (round : Bool) (row : Inequality) → IsLentOf program held box lent → RowFollows lent program.integral box round row → IsValid program held box row
follows_valid program held box lent round row l f point i w = f point (lent_holds program held box lent point l i w) w (λ _. i.feasible.whole)

pub derived_valid : (program : Program) (held : Option ℚ) (lent : Lent) (box : List Sides) (columns : ℕ) (combo : Multiples) (round : Bool) → Fits (length box) lent → length box ≤ columns → IsLentOf program held box lent → IfOk (derived lent program.integral box columns combo round) (IsValid program (valid_below held (rests_on_cutoff lent.pool combo.rows)) box)
derived_valid program held lent box columns combo round fits room l = either (rests_on_cutoff lent.pool combo.rows) refl
  where
    either : (t : Bool) → rests_on_cutoff lent.pool combo.rows ≡ t → IfOk (derived lent program.integral box columns combo round) (IsValid program (valid_below held t) box)
    either true e =
        ok_weaker (RowFollows lent program.integral box round) (IsValid program held box) (derived lent program.integral box columns combo round) (λ row f. follows_valid program held box lent round row l f)
        (derived_follows lent box columns combo fits room program.integral round)
    either false e =
        ok_weaker (RowFollows (lent_released lent) program.integral box round) (IsValid program None box) (derived lent program.integral box columns combo round) (λ row f. follows_valid program None box (lent_released lent) round row (lent_without program held box lent l) f)
        (follows_without lent program.integral box columns combo round fits room e)
