-- The rows whose sums along a ray overflow.
use borrow.Author.Count.{below_more}
use Rattle.std.proofs.Common.{◌≡◌, ℕ, zero, suc, ◌+◌, ◌<◌, ◌≤◌, false, List, [], ◌∷◌, length, Some, Result, Ok, Err, sym, ◌∙◌, subst, arith, true, refl}
use Rattle.std.specs.Prelude.{IsErr, slice_get}
use Rattle.std.specs.Result.{is_err}
use Rattle.std.proofs.Math.ListN.{get_or}
use Rattle.std.proofs.lemmas.Option.{none-some, same_Some, slice_get_read}
use Rattle.cip_rational.specs.Rational.{ℚ, zeroℚ}
use Rattle.cip_frac.specs.declared.operations.Wide.{Wide as Overflow}
use Rattle.cip_lin.specs.RowSums.{activity_from}
use Rattle.cip_problem.specs.Program.{Row}
use Rattle.cip_model.specs.Meaning.{RowOverflows}
use Rattle.cip_leaf.specs.declared.rows.RowFault.{RowFault}
use Rattle.cip_leaf.specs.declared.rows.RowFault.TheVariants as row_fault
use Rattle.cip_leaf.specs.Building.{IsRowFault, IsTooWideAt}

there : (rows : List Row) (k : ℕ) (row d : Row) → slice_get rows k ≡ Some row → (k < length rows) × (get_or rows k d ≡ row)
there [] k row d e = absurd (none-some row e)
there (r ∷ rs) zero row d e = (omega arith, same_Some r row e)
there (r ∷ rs) (suc k) row d e = let h = there rs k row d e in (omega (arith, h.0), h.1)

not_err : (sum : Result ℚ Overflow) → is_err sum ≡ false → ¬ IsErr sum
not_err (Ok q) e h = absurd (cc)
not_err (Err overflow) e h = absurd (cc)

fits_here : (rows : List Row) (ray : List ℚ) (k : ℕ) (row : Row) (sum : Result ℚ Overflow) → row ≡ get_or rows k row → sum ≡ activity_from zeroℚ row.terms ray → is_err sum ≡ false → ¬ RowOverflows rows ray k
fits_here rows ray k row sum e s t h =
    let same : get_or rows k row ≡ h.row = (there rows k h.row row h.is_row).1 in
    not_err sum t (subst IsErr (sym s) (subst (λ (r : Row). IsErr (activity_from zeroℚ r.terms ray)) (sym (e ∙ same)) h.overflows))

pub fits_more : (rows : List Row) (ray : List ℚ) (k : ℕ) (row : Row) (sum : Result ℚ Overflow) → ((i : ℕ) → i < k → ¬ RowOverflows rows ray i) → row ≡ get_or rows k row → sum ≡ activity_from zeroℚ row.terms ray → is_err sum ≡ false → (i : ℕ) → i < k + 1 → ¬ RowOverflows rows ray i
fits_more rows ray k row sum h e s t = below_more (λ i. ¬ RowOverflows rows ray i) k h (fits_here rows ray k row sum e s t)

pub all_fit : (rows : List Row) (ray : List ℚ) (k : ℕ) → length rows ≤ k → ((i : ℕ) → i < k → ¬ RowOverflows rows ray i) → (i : ℕ) → ¬ RowOverflows rows ray i
all_fit rows ray k l h i o = let w = (there rows i o.row o.row o.is_row).0 in h i (omega (arith, l, w)) o

-- ---- one row

pub row_overflows : (rows : List Row) (ray : List ℚ) (k : ℕ) (row : Row) (sum : Result ℚ Overflow) → k < length rows → row ≡ get_or rows k row → sum ≡ activity_from zeroℚ row.terms ray → is_err sum ≡ true → RowOverflows rows ray k
row_overflows rows ray k row sum l e s t = record { row = row; is_row = slice_get_read rows (length rows) k row refl l e; overflows = subst IsErr s t }

pub too_wide_at : (rows : List Row) (point : List ℚ) (k : ℕ) (row : Row) (fault : RowFault) → k < length rows → row ≡ get_or rows k row → fault ≡ row_fault.Wide → IsRowFault row (activity_from zeroℚ row.terms point) fault → IsTooWideAt rows point k
too_wide_at rows point k row fault l e f w = record { row = row; is_row = slice_get_read rows (length rows) k row refl l e; wide = subst (IsRowFault row (activity_from zeroℚ row.terms point)) f w }
