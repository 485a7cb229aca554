-- What holds of a pool when rows come and go.
use Rattle.std.proofs.Common.{◌≡◌, ◌≢◌, ℕ, suc, ◌+◌, ◌-◌, ◌<◌, ◌≤◌, ◌==◌, Bool, true, false, cond, List, [], ◌∷◌, ◌++◌, length, take, drop, filter, sym, ap, ◌∙◌, subst, arith, length-append, length-drop, get_or-drop, take_at}
use Rattle.std.proofs.lemmas.Bool.{or_parts, eqb-false}
use Rattle.std.proofs.lemmas.List.Elements.{All-push, All-weaker, All-filter, All-drop, All-tail}
use Rattle.std.proofs.lemmas.List.Quantifiers.{all_pairs_push}
use Rattle.std.proofs.lemmas.List.Kept.{AllPairs-filter}
use Rattle.cip_problem.specs.Program.{Row, Sides}
use Rattle.cip_problem.specs.Box.{box_inside}
use Rattle.cip_problem.specs.Activity.{StandsBelow}
use Rattle.cip_cert.specs.declared.rows.PoolRow.{PoolRow}
use Rattle.cip_cert.specs.Lent.{KeptFits}
use Rattle.cip_rows.specs.RowPools.{Pool, IsSoundPool, is_full, with_row, most_pool_rows, most_ids, HaveScopesLike, usable_in}

-- the first row's id is below the second's
abbrev pub Before : PoolRow → PoolRow → Type 0
Before a b = a.id < b.id

pub one_more : (pool : Pool) (row : Row) (scope : List Sides) (rests : Bool) → IsSoundPool pool → StandsBelow pool.columns row.terms → length scope ≡ pool.columns → is_full pool ≡ false → IsSoundPool (with_row pool row scope rests)
one_more pool row scope rests k stands fits room =
    let parts = or_parts (length pool.rows == most_pool_rows) (pool.next == most_ids) room in
    let rows : length pool.rows ≢ most_pool_rows = eqb-false (length pool.rows) most_pool_rows parts.0 in
    let ids : pool.next ≢ most_ids = eqb-false pool.next most_ids parts.1 in
    record {
      rising = all_pairs_push Before pool.rows _ k.rising (λ i d l. k.given i d l);
      given = All-push (λ (kept : PoolRow). kept.id < pool.next + 1) pool.rows _ (All-weaker (λ (kept : PoolRow). kept.id < pool.next) (λ (kept : PoolRow). kept.id < pool.next + 1) (λ kept l. omega (arith, l)) pool.rows k.given) (omega arith);
      fits = All-push (KeptFits pool.columns) pool.rows _ k.fits (record { stands = stands; scope = fits });
      few = omega (arith, length-append pool.rows (record { id = pool.next; row = row; scope = scope; rests = rests } ∷ []), k.few, rows);
      ids = omega (arith, k.ids, ids);
    }

pub has_place : (len capacity : ℕ) → len + 1 ≤ capacity → len < capacity
has_place len capacity h = omega (arith, h)

-- the scopes of all rows are as long as a box of the pool's columns
pub scopes_like : (pool : Pool) (box : List Sides) → IsSoundPool pool → length box ≡ pool.columns → HaveScopesLike box pool.rows
scopes_like pool box k e i d l = (k.fits i d l).scope ∙ sym e

pub length-filtered : {X : Type 0} (p : X → Bool) (xs : List X) → length (filter p xs) ≤ length xs
length-filtered p [] = omega arith
length-filtered p (x ∷ xs) = chosen (p x) (length-filtered p xs)
  where
    chosen : (t : Bool) → length (filter p xs) ≤ length xs → length (cond t (x ∷ filter p xs) (filter p xs)) ≤ suc (length xs)
    chosen true h = omega (arith, h)
    chosen false h = omega (arith, h)

pub some_kept : (pool : Pool) (p : PoolRow → Bool) → IsSoundPool pool → IsSoundPool (record pool { rows = filter p pool.rows })
some_kept pool p k = record {
  rising = AllPairs-filter Before p pool.rows k.rising;
  given = All-filter p (λ (kept : PoolRow). kept.id < pool.next) pool.rows k.given;
  fits = All-filter p (KeptFits pool.columns) pool.rows k.fits;
  few = omega (arith, length-filtered p pool.rows, k.few);
  ids = k.ids;
}

pub last_kept : (pool : Pool) (n : ℕ) → IsSoundPool pool → IsSoundPool (record pool { rows = drop n pool.rows })
last_kept pool n k = record {
  rising = λ i j d h l. rw (get_or-drop n pool.rows i d, get_or-drop n pool.rows j d) (k.rising (n + i) (n + j) d (omega (arith, h)) (omega (arith, l, length-drop n pool.rows)));
  given = All-drop (λ (kept : PoolRow). kept.id < pool.next) n pool.rows k.given;
  fits = All-drop (KeptFits pool.columns) n pool.rows k.fits;
  few = omega (arith, length-drop n pool.rows, k.few);
  ids = k.ids;
}

-- ---- the rows that are left

pub scopes_rest : (box : List Sides) (rows : List PoolRow) (first : PoolRow) (others : List PoolRow) → rows ≡ first ∷ others → HaveScopesLike box rows → HaveScopesLike box others
scopes_rest box rows first others e h = All-tail (λ (kept : PoolRow). length kept.scope ≡ length box) first others (subst (HaveScopesLike box) e h)

pub usable_rest : (box : List Sides) (rows : List PoolRow) (first : PoolRow) (others : List PoolRow) → rows ≡ first ∷ others → box_inside box first.scope ≡ false → usable_in box rows ≡ usable_in box others
usable_rest box rows first others e f = ap (usable_in box) e ∙ ap (λ t. cond t (first ∷ usable_in box others) (usable_in box others)) f

-- the last of the rows, after they were turned
pub turned : {X : Type 0} (kept n : ℕ) (rows : List X) → n ≡ length rows → kept < n → take kept (drop (n - kept) rows ++ take (n - kept) rows) ≡ drop (length rows - kept) rows
turned kept n rows e h = take_at (drop (n - kept) rows) (take (n - kept) rows) kept (omega (arith, h, e, length-drop (n - kept) rows)) ∙ ap (λ m. drop (m - kept) rows) e
