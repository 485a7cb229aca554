-- What is accepted over the rows of a pool is accepted over those that may be used in the box.
use Rattle.std.proofs.Common.{◌≡◌, ℕ, suc, ◌+◌, ◌<◌, Bool, true, false, cond, ◌==◌, List, [], ◌∷◌, length, None, Some, Result, Ok, Err, refl, sym, subst, nat_lt}
use Rattle.std.proofs.lemmas.List.Elements.{All-filter}
use Rattle.std.proofs.lemmas.List.Kept.{AllPairs-filter}
use Rattle.cip_rational.specs.Rational.{ℚ}
use Rattle.cip_problem.specs.Program.{Sides}
use Rattle.cip_problem.specs.Box.{box_inside}
use Rattle.cip_problem.specs.Aggregate.{Inequality}
use Rattle.cip_lin.specs.declared.combos.RowId.{RowId}
use Rattle.cip_lin.specs.declared.combos.RowId.TheVariants.{Own, Pool, Cutoff}
use Rattle.cip_lin.specs.declared.combos.RowMultiple.{RowMultiple}
use Rattle.cip_cert.specs.declared.rows.PoolRow.{PoolRow}
use Rattle.cip_cert.specs.declared.faults.CutFault.{CutFault}
use Rattle.cip_cert.specs.Pool.{pool_row}
use Rattle.cip_cert.specs.Lent.{Lent, KeptFits, Fits, Multiples, count_of}
use Rattle.cip_cert.specs.Checks.{chain, named_row, in_scope, row_part, add_part, add_row, add_rows, add_lows, add_highs, nothing, aggregate_of, bound_from, rests_from, lower_bound_of, rests_of, positive, emptied}
use Rattle.cip_cert.proofs.Released.{pool_row_of}
use Rattle.cip_node_rules.specs.RowRules.{most_multiples}
use Rattle.cip_rows.specs.RowPools.{usable_in}

-- those of the rows that are lent that may be used in a box
abbrev pub lent_usable : List Sides → Lent → Lent
lent_usable box lent = record { own = lent.own; pool = usable_in box lent.pool; cutoff = lent.cutoff }

pub fits_usable : (box : List Sides) (lent : Lent) (columns : ℕ) → Fits columns lent → Fits columns (lent_usable box lent)
fits_usable box lent columns fits = record {
  own = fits.own;
  pool = All-filter (λ (kept : PoolRow). box_inside box kept.scope) (KeptFits columns) lent.pool fits.pool;
  rising = AllPairs-filter (λ (a b : PoolRow). a.id < b.id) (λ (kept : PoolRow). box_inside box kept.scope) lent.pool fits.rising;
  cutoff = fits.cutoff;
}

-- ---- outcomes

-- what the first is, where it is a value, the second is too
abbrev Keeps : {A : Type 0} → Result A CutFault → Result A CutFault → Type 0
Keeps {A} r s = (a : A) → r ≡ Ok a → s ≡ Ok a

no_value : {A : Type 0} (P : Type 0) (fault : CutFault) (a : A) → Err fault ≡ Ok a → P
no_value P fault a e = absurd (cc)

chain_keeps : {A B : Type 0} (r s : Result A CutFault) (f g : A → Result B CutFault) → Keeps r s → ((a : A) → Keeps (f a) (g a)) → Keeps (chain r f) (chain s g)
chain_keeps (Ok a) s f g h k b e = subst (λ t. chain t g ≡ Ok b) (sym (h a refl)) (k a b e)
chain_keeps (Err fault) s f g h k b e = no_value (chain s g ≡ Ok b) fault b e

cond_keeps : {A : Type 0} (t : Bool) (r a b : Result A CutFault) → Keeps a b → Keeps (cond t r a) (cond t r b)
cond_keeps true r a b h = λ v e. e
cond_keeps false r a b h = h

-- ---- rows by their names

found_usable : (box : List Sides) (entry : ℕ) (pool : List PoolRow) (id : ℕ) → Keeps (in_scope entry box (pool_row pool id)) (in_scope entry box (pool_row (usable_in box pool) id))
found_usable box entry [] id = λ row e. e
found_usable box entry (k ∷ ks) id =
    subst (λ o. Keeps (in_scope entry box (pool_row (k ∷ ks) id)) (in_scope entry box o)) (sym (pool_row_of (box_inside box k.scope) (k ∷ usable_in box ks) (usable_in box ks) id))
    (chosen (box_inside box k.scope) refl (k.id == id) (found_usable box entry ks id))
  where
    chosen : (t : Bool) → box_inside box k.scope ≡ t → (s : Bool) → Keeps (in_scope entry box (pool_row ks id)) (in_scope entry box (pool_row (usable_in box ks) id)) → Keeps (in_scope entry box (cond s (Some k) (pool_row ks id))) (in_scope entry box (cond t (cond s (Some k) (pool_row (usable_in box ks) id)) (pool_row (usable_in box ks) id)))
    chosen true e true later = λ row h. h
    chosen true e false later = later
    chosen false e true later = λ row h. no_value (in_scope entry box (pool_row (usable_in box ks) id) ≡ Ok row) (CutFault.NotInScope entry) row (subst (λ t. cond t (Ok k.row) (Err (CutFault.NotInScope entry)) ≡ Ok row) e h)
    chosen false e false later = later

named_usable : (lent : Lent) (box : List Sides) (entry : ℕ) (name : RowId) → Keeps (named_row lent box entry name) (named_row (lent_usable box lent) box entry name)
named_usable lent box entry (Own number) = λ row e. e
named_usable lent box entry (Pool id) = found_usable box entry lent.pool id
named_usable lent box entry Cutoff = λ row e. e

-- ---- sums

row_usable : (lent : Lent) (box : List Sides) (entry : ℕ) (m : RowMultiple) (row : Inequality) → Keeps (add_row lent box entry m row) (add_row (lent_usable box lent) box entry m row)
row_usable lent box entry m row =
    chain_keeps (chain (named_row lent box entry m.row) (row_part entry m.factor)) (chain (named_row (lent_usable box lent) box entry m.row) (row_part entry m.factor)) (add_part entry row) (add_part entry row)
    (chain_keeps (named_row lent box entry m.row) (named_row (lent_usable box lent) box entry m.row) (row_part entry m.factor) (row_part entry m.factor) (named_usable lent box entry m.row) (λ a v e. e))
    (λ a v e. e)

rows_usable : (lent : Lent) (box : List Sides) (entry : ℕ) (ms : List RowMultiple) (row : Inequality) → Keeps (add_rows lent box entry ms row) (add_rows (lent_usable box lent) box entry ms row)
rows_usable lent box entry [] row = λ v e. e
rows_usable lent box entry (m ∷ ms) row =
    chain_keeps (add_row lent box entry m row) (add_row (lent_usable box lent) box entry m row) (add_rows lent box (suc entry) ms) (add_rows (lent_usable box lent) box (suc entry) ms)
    (row_usable lent box entry m row)
    (λ more. rows_usable lent box (suc entry) ms more)

aggregate_usable : (lent : Lent) (box : List Sides) (columns : ℕ) (combo : Multiples) → Keeps (aggregate_of lent box columns combo) (aggregate_of (lent_usable box lent) box columns combo)
aggregate_usable lent box columns combo =
    let lows = add_lows box (length combo.rows) combo.lows in
    let highs = add_highs box (length combo.rows + length combo.lows) combo.highs in
    let own = add_rows lent box 0 combo.rows (nothing columns) in
    let usable = add_rows (lent_usable box lent) box 0 combo.rows (nothing columns) in
    cond_keeps (nat_lt most_multiples (count_of combo)) (Err CutFault.TooLong) (chain (chain own lows) highs) (chain (chain usable lows) highs)
    (chain_keeps (chain own lows) (chain usable lows) highs highs (chain_keeps own usable lows lows (rows_usable lent box 0 combo.rows (nothing columns)) (λ a v e. e)) (λ a v e. e))

-- ---- checks

pub bound_usable : (lent : Lent) (box : List Sides) (columns : ℕ) (costs : List ℚ) (combo : Multiples) → Keeps (lower_bound_of lent box columns costs combo) (lower_bound_of (lent_usable box lent) box columns costs combo)
bound_usable lent box columns costs combo =
    let next = λ (row : Inequality). bound_from 0 row.least costs row.coefficients box in
    chain_keeps (aggregate_of lent box columns combo) (aggregate_of (lent_usable box lent) box columns combo) next next (aggregate_usable lent box columns combo) (λ a v e. e)

pub emptied_usable : (lent : Lent) (box : List Sides) (columns : ℕ) (combo : Multiples) → Keeps (emptied lent box columns combo) (emptied (lent_usable box lent) box columns combo)
emptied_usable lent box columns combo =
    let next = λ (row : Inequality). rests_from None 0 row.least row.coefficients box in
    chain_keeps (rests_of lent box columns None combo) (rests_of (lent_usable box lent) box columns None combo) positive positive
    (chain_keeps (aggregate_of lent box columns combo) (aggregate_of (lent_usable box lent) box columns combo) next next (aggregate_usable lent box columns combo) (λ a v e. e))
    (λ a v e. e)
