-- Lines that are written in whole numbers.
use Rattle.std.proofs.Common.{◌≡◌, ℕ, ◌<◌, Bool, true, false, List, [], length, Option, None, Some, IfSome, Ok, refl, sym, ◌∙◌, subst, arith}
use Rattle.std.proofs.lemmas.Bool.{true≢false}
use Rattle.cip_rational.specs.Rational.{ℚ}
use Rattle.cip_problem.specs.Activity.{value_at}
use Rattle.cip_bland.specs.Tables.{table, each}
use Rattle.cip_bland.specs.Exchange.{solved, substituted}
use Rattle.cip_bland.specs.Operations.{first_overflow}
use Rattle.cip_bland.specs.MoveOperations.{solved_operations, substituted_operations}
use Rattle.cip_bland.specs.declared.places.Line.{Line}
use Rattle.cip_bland.specs.declared.places.Line.TheVariants.{Cost}
use Rattle.cip_dict.specs.SparseLines.{Kept, entry_on, dense, kept_of, AreKept}
use Rattle.cip_dict.specs.WholeLines.{Whole, over, IsWhole, IsForm, IsPut}
use Rattle.cip_dict.proofs.Dense.{dense_len, dense_read, solved_written, substituted_written}
use Rattle.cip_dict.proofs.KeptLoops.{are_kept}
use Rattle.cip_dict.proofs.WholePuts.{put_tells}

-- a list of the entries of another length
pub as_long : (len n : ℕ) (es fs : List Kept) (row : List ℚ) → dense len es ≡ row → length row ≡ n → AreKept 0 len fs → AreKept 0 n fs
as_long len n es fs row view long h = subst (λ (m : ℕ). AreKept 0 m fs) (dense_len len n es row view long) h

module _ (n : ℕ) (basic : ℕ → Bool) (i j : ℕ) (row : List ℚ) (lr d : ℕ) (wr : List Whole) (new : List ℚ) (ln e : ℕ) (wn : List Whole) (below : ℕ) (out : List Whole) (hr : IsWhole d wr) (vr : dense lr (over d wr) ≡ row) (long : length row ≡ n) (hn : IsWhole e wn) (vn : dense ln (over e wn) ≡ new) (long' : length new ≡ n) (lj : j < n) (li : i < n) (p : IsPut n basic i j d wr e wn below out) where
  tells : (line : Line) (q : ℚ) → value_at new i ≡ q
      → (first_overflow (each n (substituted_operations line basic i j q (entry_on (over e wn)) (entry_on (over d wr)))) ≡ None)
      × (over below out ≡ kept_of n (substituted basic i j q (entry_on (over e wn)) (entry_on (over d wr))))
  tells line q h = put_tells n line basic i j q d wr e wn below out hr hn (sym (dense_read ln (over e wn) new i vn (omega (arith, li, long'))) ∙ h) p

  pub put_written : (line : Line) (q : ℚ) → value_at new i ≡ q
      → (first_overflow (each n (substituted_operations line basic i j q (value_at new) (value_at row))) ≡ None)
      × (dense n (over below out) ≡ table n (substituted basic i j q (value_at new) (value_at row)))
  put_written line q h = substituted_written {X = Unit {0}} n basic i j q lr (over d wr) row vr long (over below out) (Ok tt) line ln (over e wn) new vn long' lj (tells line q h)

  pub put_kept : AreKept 0 n (over below out)
  put_kept = are_kept n n _ (over below out) (tells Cost (value_at new i) refl).1 (omega arith)

pub whole_form : (n below : ℕ) (ws : List Whole) (es : List Kept) → IsWhole below ws → AreKept 0 n (over below ws) → IsForm n true below ws es
whole_form n below ws es h k = record { kept = k; whole = λ _. h }

-- fractions
pub parts_form : (n below : ℕ) (ws : List Whole) (es : List Kept) → AreKept 0 n es → IsForm n false below ws es
parts_form n below ws es k = record { kept = k; whole = λ e. absurd (true≢false (sym e)) }

pub empty_form : (n below : ℕ) (ws : List Whole) (es : List Kept) → es ≡ [] → IsForm n false below ws es
empty_form n below ws es e = parts_form n below ws es (subst (AreKept 0 n) (sym e) tt)

-- whole numbers, whatever entries are left
pub rest_form : (n : ℕ) (is_whole : Bool) (below : ℕ) (ws : List Whole) (es fs : List Kept) → is_whole ≡ true → IsForm n is_whole below ws es → IsForm n is_whole below ws fs
rest_form n true below ws es fs e h = record { kept = h.kept; whole = h.whole }
rest_form n false below ws es fs e h = absurd (true≢false (sym e))

-- a row that is turned round
pub turn_written : (n : ℕ) (line : Line) (basic : ℕ → Bool) (i j : ℕ) (q : ℚ) (row : List ℚ) (lr d : ℕ) (wr : List Whole) (below : ℕ) (out : List Whole) → dense lr (over d wr) ≡ row → length row ≡ n
    → first_overflow (each n (solved_operations line basic i j q (entry_on (over d wr)))) ≡ None
    → over below out ≡ kept_of n (solved basic i j q (entry_on (over d wr)))
    → (first_overflow (each n (solved_operations line basic i j q (value_at row))) ≡ None)
    × (dense n (over below out) ≡ table n (solved basic i j q (value_at row)))
turn_written n line basic i j q row lr d wr below out vr long f k = solved_written {X = Unit {0}} n basic i j q lr (over d wr) row vr long (over below out) (Ok tt) line (f, k)

-- what was put, by the lists that slices are of
pub put_as : (found : Option ℕ) (below n : ℕ) (basic : ℕ → Bool) (i j d e : ℕ) (own row other new out : List Whole) → found ≡ Some below → own ≡ row → other ≡ new → IfSome found (λ b. IsWhole b out × IsPut n basic i j d own e other b out) → IsWhole below out × IsPut n basic i j d row e new below out
put_as found below n basic i j d e own row other new out f o w h = rw (f, o, w) at h
