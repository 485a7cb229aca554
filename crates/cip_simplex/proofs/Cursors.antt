-- Going along the entries of a line that aren't 0, variable by variable.
use Rattle.std.proofs.Common.{◌≡◌, ℕ, ◌+◌, ◌<◌, length, get_or, sym, ap, ◌∙◌, add-one}
use Rattle.cip_rational.specs.Rational.{ℚ, zeroℚ}
use Rattle.cip_dict.specs.SparseLines.{Kept, kept_of, IsPlace}
use Rattle.cip_dict.proofs.SparseLines.{entry_kept}
use Rattle.cip_dict.proofs.KeptLoops.{all_kept}
use Rattle.cip_dict.proofs.Places.{entry_hit, entry_miss, place_hit, place_miss}

module _ (n : ℕ) (f : ℕ → ℚ) (v at : ℕ) (l : v < n) (place : IsPlace v (kept_of n f) at) where
  -- the entry of this place stands on v
  module _ (e : Kept) (there : at < length (kept_of n f)) (is : (x : Kept) → e ≡ get_or (kept_of n f) at x) (on : e.0 ≡ v) where
    same : (get_or (kept_of n f) at e).0 ≡ v
    same = sym (ap (λ (p : Kept). p.0) (is e)) ∙ on

    pub on_entry : e.1 ≡ f v
    on_entry =
        ap (λ (p : Kept). p.1) (is e)
        ∙ sym (entry_hit v (kept_of n f) at e place there same)
        ∙ entry_kept n f v l

    pub past_entry : IsPlace (v + 1) (kept_of n f) (at + 1)
    past_entry = rw (add-one, add-one) (place_hit v (kept_of n f) at 0 n e (all_kept n f) place there same)

  -- or there is none, or it stands on another variable
  module _ (other : (x : Kept) → at < length (kept_of n f) → ¬ ((get_or (kept_of n f) at x).0 ≡ v)) where
    pub on_none : zeroℚ ≡ f v
    on_none = sym (entry_miss v (kept_of n f) at 0 n (all_kept n f) place other) ∙ entry_kept n f v l

    pub past_none : IsPlace (v + 1) (kept_of n f) at
    past_none = rw add-one (place_miss v (kept_of n f) at place other)
