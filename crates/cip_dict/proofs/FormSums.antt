-- The value of a form by its entries that aren't 0.
use Rattle.std.proofs.Common.{◌≡◌, ℕ, zero, suc, ◌+◌, ◌-◌, ◌<◌, ◌≤◌, List, length, get_or, None, Some, Result, Ok, Err, MatchResult, refl, sym, ap, ◌∙◌, arith}
use Rattle.std.proofs.lemmas.List.{get_or_default}
use Rattle.cip_rational.specs.Rational.{ℚ, zeroℚ, ◌+ℚ◌, ◌*ℚ◌}
use Rattle.cip_rational.proofs.Rational.Ring.{+ℚ-zero, zero-*ℚ}
use Rattle.cip_bland.specs.Tables.{form}
use Rattle.cip_bland.specs.FirstState.{form_operations}
use Rattle.cip_bland.specs.Operations.{first_overflow, value_place, sum_at}
use Rattle.cip_bland.specs.declared.places.Line.{Line}
use Rattle.cip_bland.specs.declared.places.EntryPlace.{EntryPlace}
use Rattle.cip_bland.proofs.Overflow.{overflow-append, first_at}
use Rattle.cip_bland.proofs.Tables.{form_same}
use Rattle.cip_bland.proofs.Zeros.{is_zero_of}
use Rattle.cip_dict.specs.declared.fault.OutOfRange.{OutOfRange}
use Rattle.cip_dict.proofs.Begun.{form_operations_same}
use Rattle.cip_dict.specs.SparseLines.{Kept, entry_on, AreKept, IsPlace}
use Rattle.cip_dict.proofs.Formed.{sum_zero_left}
use Rattle.cip_dict.proofs.KeptLoops.{gap_fits}
use Rattle.cip_dict.proofs.Places.{at_least, place_up, place_hit, entry_hit, entry_between}

-- entries that are 0 add nothing
form_more : (m more : ℕ) (f x : ℕ → ℚ) → ((k : ℕ) → m ≤ k → k < m + more → f k ≡ zeroℚ) → form (m + more) f x ≡ form m f x
form_more m zero f x h = let s : m + 0 ≡ m = omega arith in ap (λ n. form n f x) s
form_more m (suc more) f x h =
    let s : m + suc more ≡ suc (m + more) = omega arith in
    ap (λ n. form n f x) s
    ∙ ap (λ a. form (m + more) f x +ℚ a *ℚ x (m + more)) (h (m + more) (omega arith) (omega arith))
    ∙ ap (λ a. form (m + more) f x +ℚ a) (zero-*ℚ (x (m + more))) ∙ +ℚ-zero (form (m + more) f x)
    ∙ form_more m more f x (λ k l u. h k l (omega (arith, u)))

pub form_gap : (line : Line) (m n : ℕ) (f x : ℕ → ℚ) (total : ℚ) → m ≤ n → first_overflow (form_operations line m f x) ≡ None → total ≡ form m f x → ((k : ℕ) → m ≤ k → k < n → f k ≡ zeroℚ) → (first_overflow (form_operations line n f x) ≡ None) × (total ≡ form n f x)
form_gap line m n f x total l fits so_far none =
    let s : m + (n - m) ≡ n = omega (arith, l) in (
      rw s at (gap_fits m (n - m) (λ k. sum_at (value_place line) (form k f x) (f k) (x k)) fits (λ k a b. (sum_zero_left (value_place line) (form k f x) (f k) (x k) (is_zero_of (f k) (none k a (omega (arith, b, s))))).0)),
      so_far ∙ sym (rw s at (form_more m (n - m) f x (λ k a b. none k a (omega (arith, b, s))))),
    )

-- an entry comes next
module _ (line : Line) (n : ℕ) (es : List Kept) (x : ℕ → ℚ) (len : ℕ) (kept : AreKept 0 len es) (p m : ℕ) (e : Kept) (at : IsPlace m es p) (fits : first_overflow (form_operations line m (entry_on es) x) ≡ None) (total : ℚ) (so_far : total ≡ form m (entry_on es) x) (l : p < length es) (is : e ≡ get_or es p e) (below : e.0 < n) where
  number : (d : Kept) → (get_or es p d).0 ≡ e.0
  number d = ap (λ (k : Kept). k.0) (get_or_default es p d e l ∙ sym is)

  order : m ≤ e.0
  order = let a : m ≤ (get_or es p e).0 = at_least m es p e at l in omega (arith, a, number e)

  here : IsPlace e.0 es p
  here = place_up m e.0 es p at order (λ d w. omega (arith, number d))

  until : (first_overflow (form_operations line e.0 (entry_on es) x) ≡ None) × (total ≡ form e.0 (entry_on es) x)
  until = form_gap line m e.0 (entry_on es) x total order fits so_far (λ k a b. entry_between m k es p 0 len kept at a (λ d w. omega (arith, number d, b)))

  own : entry_on es e.0 ≡ e.1
  own = entry_hit e.0 es p e here l (number e) ∙ ap (λ (k : Kept). k.1) (sym is)

  pub next_place : IsPlace (suc e.0) es (suc p)
  next_place = place_hit e.0 es p 0 len e kept here l (number e)

  pub next_sum : (value : ℚ) → first_overflow (sum_at (value_place line) total e.1 (x e.0)) ≡ None → value ≡ total +ℚ e.1 *ℚ x e.0 → (first_overflow (form_operations line (suc e.0) (entry_on es) x) ≡ None) × (value ≡ form (suc e.0) (entry_on es) x)
  next_sum value o v = (
    overflow-append (form_operations line e.0 (entry_on es) x) (sum_at (value_place line) (form e.0 (entry_on es) x) (entry_on es e.0) (x e.0)) until.0 ∙ ap (λ t. first_overflow (sum_at (value_place line) t (entry_on es e.0) (x e.0))) (sym until.1) ∙ ap (λ a. first_overflow (sum_at (value_place line) total a (x e.0))) own ∙ o,
    v ∙ ap (λ a. total +ℚ a *ℚ x e.0) (sym own) ∙ ap (λ t. t +ℚ entry_on es e.0 *ℚ x e.0) until.1,
  )

  pub next_wide : (place : EntryPlace) → first_overflow (sum_at (value_place line) total e.1 (x e.0)) ≡ Some place → first_overflow (form_operations line n (entry_on es) x) ≡ Some place
  next_wide place o =
      first_at n e.0 (λ k. sum_at (value_place line) (form k (entry_on es) x) (entry_on es k) (x k)) place below until.0
      (ap (λ t. first_overflow (sum_at (value_place line) t (entry_on es e.0) (x e.0))) (sym until.1) ∙ ap (λ a. first_overflow (sum_at (value_place line) total a (x e.0))) own ∙ o)

-- the value of a form that agrees with another
pub value_same : (line : Line) (n : ℕ) (f g x : ℕ → ℚ) (r : Result ℚ OutOfRange) → ((k : ℕ) → k < n → f k ≡ g k) → MatchResult r (λ v. (first_overflow (form_operations line n f x) ≡ None) × (v ≡ form n f x)) (λ fault. first_overflow (form_operations line n f x) ≡ Some fault.place) → MatchResult r (λ v. (first_overflow (form_operations line n g x) ≡ None) × (v ≡ form n g x)) (λ fault. first_overflow (form_operations line n g x) ≡ Some fault.place)
value_same line n f g x (Ok v) e h =
    (ap first_overflow (sym (form_operations_same line n f g x x e (λ k l. refl))) ∙ h.0, h.1 ∙ form_same n f g x e)
value_same line n f g x (Err fault) e h = ap first_overflow (sym (form_operations_same line n f g x x e (λ k l. refl))) ∙ h
