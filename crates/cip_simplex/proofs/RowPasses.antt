-- Passes over the entries of a row, or of the cost, that aren't 0.
use Rattle.std.proofs.Common.{◌≡◌, ◌≢◌, ◌∷◌, [], cond, ap₂, ℕ, zero, suc, ◌+◌, ◌<◌, ◌≤◌, Bool, true, false, not, ◌&&◌, List, Option, None, Some, length, get_or, refl, sym, ap, ◌∙◌, inl, inr, arith, add-one}
use Rattle.std.proofs.lemmas.Bool.{cases_lt}
use Rattle.std.proofs.lemmas.List.{get_or_default}
use Rattle.cip_rational.specs.Rational.{ℚ, zeroℚ, lt_test}
use Rattle.cip_bland.specs.Tables.{least}
use Rattle.cip_bland.specs.Dictionary.{Dictionary, size}
use Rattle.cip_bland.proofs.Zeros.{is_zero_of, is_zero_false}
use Rattle.cip_bland.specs.declared.steps.Heading.{Heading}
use Rattle.cip_bland.specs.Headings.{back_of, heading_for}
use Rattle.cip_bland.specs.Rule.{may_go, drives}
use Rattle.cip_dict.specs.SparseLines.{Kept, AreKept, kept_of, IsPlace}
use Rattle.cip_dict.proofs.SparseLines.{entry_kept}
use Rattle.cip_dict.proofs.KeptLoops.{are_kept, all_kept}
use Rattle.cip_dict.proofs.Places.{place_zero, place_up, place_hit, entry_hit, entry_between, at_least, all_below}
use Rattle.cip_bland.proofs.Searches.{least_is, none_is}
use Rattle.cip_simplex.specs.FreeMoves.{IsCandidate, IsOneOf, IsFound}
use Rattle.cip_simplex.specs.declared.candidates.Candidate.{Candidate}
use Rattle.cip_simplex.proofs.FreeMoves.{found_more}

-- what was found before this place of what is kept: up to some variable
abbrev pub IsSearched : (ℕ → Bool) → ℕ → List Kept → ℕ → Option Candidate → Type 0
IsSearched test n es at best = (m : ℕ) × (m ≤ n) × IsPlace m es at × IsFound test m best

-- the entries of a row, and a test that no variable passes on which there is none
module _ (n : ℕ) (f : ℕ → ℚ) (test : ℕ → Bool) (silent : (k : ℕ) → f k ≡ zeroℚ → test k ≡ false) where
  es : List Kept
  es = kept_of n f

  kept : AreKept 0 n (kept_of n f)
  kept = are_kept n n f (kept_of n f) refl (omega arith)

  gap_found : (m k : ℕ) (best : Option Candidate) → IsFound test m best → m ≤ k → ((v : ℕ) → m ≤ v → v < k → test v ≡ false) → IsFound test k best
  gap_found m k None h l none = λ v w.
      elim (cases_lt v m) [
        | inl b ↦ h v b
        | inr b ↦ none v b w
      ]
  gap_found m k (Some c) h l none = (omega (arith, h.0, l), h.1)

  -- the variable of an entry, and the entry
  below : (at : ℕ) (e : Kept) → at < length (kept_of n f) → ((d : Kept) → e ≡ get_or (kept_of n f) at d) → e.0 < n
  below at e l is =
      let s : e.0 ≡ (get_or (kept_of n f) at e).0 = ap (λ (p : Kept). p.0) (is e) in
      let b : (get_or (kept_of n f) at e).0 < n = all_below (kept_of n f) 0 n at e kept l in
      omega (arith, s, b)

  up : (m at : ℕ) (e : Kept) → IsPlace m (kept_of n f) at → at < length (kept_of n f) → ((d : Kept) → e ≡ get_or (kept_of n f) at d) → m ≤ e.0
  up m at e i l is =
      let s : e.0 ≡ (get_or (kept_of n f) at e).0 = ap (λ (p : Kept). p.0) (is e) in
      let b : m ≤ (get_or (kept_of n f) at e).0 = at_least m (kept_of n f) at e i l in
      omega (arith, s, b)

  place : (m at : ℕ) (e : Kept) → IsPlace m (kept_of n f) at → at < length (kept_of n f) → ((d : Kept) → e ≡ get_or (kept_of n f) at d) → IsPlace e.0 (kept_of n f) at
  place m at e i l is =
      place_up m e.0 (kept_of n f) at i (up m at e i l is)
      (λ d w. let s : e.0 ≡ (get_or (kept_of n f) at d).0 = ap (λ (p : Kept). p.0) (is d) in omega (arith, s))

  own : (m at : ℕ) (e : Kept) → IsPlace m (kept_of n f) at → at < length (kept_of n f) → ((d : Kept) → e ≡ get_or (kept_of n f) at d) → e.1 ≡ f e.0
  own m at e i l is =
      ap (λ (p : Kept). p.1) (is e)
      ∙ sym (entry_hit e.0 (kept_of n f) at e (place m at e i l is) l (sym (ap (λ (p : Kept). p.0) (is e))))
      ∙ entry_kept n f e.0 (below at e l is)

  none_between : (m at : ℕ) (e : Kept) → IsPlace m (kept_of n f) at → at < length (kept_of n f) → ((d : Kept) → e ≡ get_or (kept_of n f) at d) → (v : ℕ) → m ≤ v → v < e.0 → test v ≡ false
  none_between m at e i l is v a b =
      let u : e.0 < n = below at e l is in
      silent v
      (sym (entry_kept n f v (omega (arith, b, u)))
      ∙ entry_between m v (kept_of n f) at 0 n kept i a (λ d w. let s : e.0 ≡ (get_or (kept_of n f) at d).0 = ap (λ (p : Kept). p.0) (is d) in omega (arith, b, s)))

  pub search_begun : IsSearched test n (kept_of n f) 0 None
  search_begun = (0, omega arith, place_zero (kept_of n f), λ v l. absurd (omega (arith, l)))

  pub search_more : (at : ℕ) (e : Kept) (best next chosen : Option Candidate) → IsSearched test n (kept_of n f) at best → at < length (kept_of n f) → ((d : Kept) → e ≡ get_or (kept_of n f) at d) → IsCandidate test e.0 next → IsOneOf best next chosen → IsSearched test n (kept_of n f) (at + 1) chosen
  search_more at e best next chosen s l is here both =
      let u : e.0 < n = below at e l is in
      let hit : IsPlace (suc e.0) (kept_of n f) (suc at) = place_hit e.0 (kept_of n f) at 0 n e kept (place s.0 at e s.2 l is) l (sym (ap (λ (p : Kept). p.0) (is e))) in
      let before : IsFound test e.0 best = gap_found s.0 e.0 best s.3 (up s.0 at e s.2 l is) (none_between s.0 at e s.2 l is) in
      let found : IsFound test (e.0 + 1) chosen = found_more test e.0 best next chosen before here both in
      (e.0 + 1, omega (arith, u), rw (add-one, add-one) hit, found)

  keeps : (best : Option Candidate) → IsOneOf best None best
  keeps None = (refl, refl)
  keeps (Some c) = inl refl

  pub search_less : (at : ℕ) (e : Kept) (best : Option Candidate) → IsSearched test n (kept_of n f) at best → at < length (kept_of n f) → ((d : Kept) → e ≡ get_or (kept_of n f) at d) → test e.0 ≡ false → IsSearched test n (kept_of n f) (at + 1) best
  search_less at e best s l is here = search_more at e best None best s l is here (keeps best)

  pub search_failed : (at : ℕ) (e : Kept) → IsSearched test n (kept_of n f) at None → at < length (kept_of n f) → ((d : Kept) → e ≡ get_or (kept_of n f) at d) → test e.0 ≡ false → IsSearched test n (kept_of n f) (at + 1) None
  search_failed at e s l is here = search_less at e None s l is here

  pub search_hit : (at : ℕ) (e : Kept) → IsSearched test n (kept_of n f) at None → at < length (kept_of n f) → ((d : Kept) → e ≡ get_or (kept_of n f) at d) → test e.0 ≡ true → least n test ≡ Some e.0
  search_hit at e s l is here =
      least_is n test e.0 (below at e l is) here
      (gap_found s.0 e.0 None s.3 (up s.0 at e s.2 l is) (none_between s.0 at e s.2 l is))

  pub search_ended : (at : ℕ) (best : Option Candidate) → length (kept_of n f) ≤ at → IsSearched test n (kept_of n f) at best → IsFound test n best
  search_ended at best l s =
      gap_found s.0 n best s.3 s.1
      (λ v a b. silent v (sym (entry_kept n f v b) ∙ entry_between s.0 v (kept_of n f) at 0 n kept s.2 a (λ d w. absurd (omega (arith, w, l)))))

-- no entry that is kept is 0
kept_nonzero : (es : List Kept) (least n at : ℕ) (x : Kept) → AreKept least n es → at < length es → (get_or es at x).1 ≢ zeroℚ
kept_nonzero [] least n at x h l = absurd (omega (arith, l))
kept_nonzero (e ∷ es) least n zero x h l = h.2
kept_nonzero (e ∷ es) least n (suc at) x h l = kept_nonzero es (suc e.0) n at x h.3 (omega (arith, l))

-- an entry that isn't 0 drives as its sign says
drives_by : (d : Dictionary) (heading : Heading) (v k : ℕ) (above b : Bool) (q : ℚ) → q ≢ zeroℚ → v ≡ k → above ≡ lt_test zeroℚ q → may_go d v (cond above heading (back_of heading)) ≡ b → drives d (λ _. q) heading k ≡ b
drives_by d heading v k above b q ne same sign e =
    ap (λ t. not t && may_go d k (heading_for heading q)) (is_zero_false q ne)
    ∙ sym (ap₂ (λ n t. may_go d n (cond t heading (back_of heading))) same sign)
    ∙ e

-- a form with these entries, which is to go this way
module _ (d : Dictionary) (f : ℕ → ℚ) (heading : Heading) where
  silent : (k : ℕ) → f k ≡ zeroℚ → drives d f heading k ≡ false
  silent k z = ap (λ b. not b && may_go d k (heading_for heading (f k))) (is_zero_of (f k) z)

  pub driving_below : (at : ℕ) (e : Kept) → at < length (kept_of (size d) f) → ((x : Kept) → e ≡ get_or (kept_of (size d) f) at x) → e.0 < size d
  driving_below at e l is = below (size d) f (drives d f heading) silent at e l is

  pub driving_begun : IsSearched (drives d f heading) (size d) (kept_of (size d) f) 0 None
  driving_begun = search_begun (size d) f (drives d f heading) silent

  drives_same : (q : ℚ) (k : ℕ) → q ≡ f k → drives d (λ _. q) heading k ≡ drives d f heading k
  drives_same q k e = ap (λ t. drives d (λ _. t) heading k) e

  -- the better of what was found and this one, which drives
  pub driving_more : (at : ℕ) (e : Kept) (best : Option Candidate) (next chosen : Candidate) → IsSearched (drives d f heading) (size d) (kept_of (size d) f) at best → at < length (kept_of (size d) f) → ((x : Kept) → e ≡ get_or (kept_of (size d) f) at x) → drives d (λ _. e.1) heading e.0 ≡ true → next.variable ≡ e.0 → IsOneOf best (Some next) (Some chosen) → IsSearched (drives d f heading) (size d) (kept_of (size d) f) (at + 1) (Some chosen)
  driving_more at e best next chosen s l is here named both =
      let o : e.1 ≡ f e.0 = own (size d) f (drives d f heading) silent s.0 at e s.2 l is in
      search_more (size d) f (drives d f heading) silent at e best (Some next) (Some chosen) s l is (named, sym (drives_same e.1 e.0 o) ∙ here) both

  pub driving_less : (at : ℕ) (e : Kept) (best : Option Candidate) → IsSearched (drives d f heading) (size d) (kept_of (size d) f) at best → at < length (kept_of (size d) f) → ((x : Kept) → e ≡ get_or (kept_of (size d) f) at x) → drives d (λ _. e.1) heading e.0 ≡ false → IsSearched (drives d f heading) (size d) (kept_of (size d) f) (at + 1) best
  driving_less at e best s l is here =
      let o : e.1 ≡ f e.0 = own (size d) f (drives d f heading) silent s.0 at e s.2 l is in
      search_less (size d) f (drives d f heading) silent at e best s l is (sym (drives_same e.1 e.0 o) ∙ here)

  pub driving_ended : (at : ℕ) (best : Option Candidate) → length (kept_of (size d) f) ≤ at → IsSearched (drives d f heading) (size d) (kept_of (size d) f) at best → IsFound (drives d f heading) (size d) best
  driving_ended at best l s = search_ended (size d) f (drives d f heading) silent at best l s

  pub driving_hit : (at : ℕ) (e : Kept) → IsSearched (drives d f heading) (size d) (kept_of (size d) f) at None → at < length (kept_of (size d) f) → ((x : Kept) → e ≡ get_or (kept_of (size d) f) at x) → drives d (λ _. e.1) heading e.0 ≡ true → least (size d) (drives d f heading) ≡ Some e.0
  driving_hit at e s l is here =
      let o : e.1 ≡ f e.0 = own (size d) f (drives d f heading) silent s.0 at e s.2 l is in
      search_hit (size d) f (drives d f heading) silent at e s l is (sym (drives_same e.1 e.0 o) ∙ here)

  pub driving_none : (at : ℕ) → length (kept_of (size d) f) ≤ at → IsSearched (drives d f heading) (size d) (kept_of (size d) f) at None → least (size d) (drives d f heading) ≡ None
  driving_none at l s = none_is (size d) (drives d f heading) (search_ended (size d) f (drives d f heading) silent at None l s)

  -- by the variable and the sign of the entry of a place
  module _ (at v : ℕ) (above : Bool) (l : at < length (kept_of (size d) f)) (variable : (x : Kept) → v ≡ (get_or (kept_of (size d) f) at x).0) (sign : (x : Kept) → above ≡ lt_test zeroℚ (get_or (kept_of (size d) f) at x).1) where
    there : (x : Kept) → get_or (kept_of (size d) f) at (0, zeroℚ) ≡ get_or (kept_of (size d) f) at x
    there x = get_or_default (kept_of (size d) f) at (0, zeroℚ) x l

    tested : (b : Bool) → may_go d v (cond above heading (back_of heading)) ≡ b → drives d (λ _. (get_or (kept_of (size d) f) at (0, zeroℚ)).1) heading (get_or (kept_of (size d) f) at (0, zeroℚ)).0 ≡ b
    tested b e =
        drives_by d heading v (get_or (kept_of (size d) f) at (0, zeroℚ)).0 above b (get_or (kept_of (size d) f) at (0, zeroℚ)).1 (kept_nonzero (kept_of (size d) f) 0 (size d) at (0, zeroℚ) (all_kept (size d) f) l) (variable (0, zeroℚ)) (sign (0, zeroℚ)) e

    pub sign_below : v < size d
    sign_below =
        let b : (get_or (kept_of (size d) f) at (0, zeroℚ)).0 < size d = driving_below at (get_or (kept_of (size d) f) at (0, zeroℚ)) l there in
        omega (arith, b, variable (0, zeroℚ))

    pub sign_more : (best : Option Candidate) (next chosen : Candidate) → IsSearched (drives d f heading) (size d) (kept_of (size d) f) at best → may_go d v (cond above heading (back_of heading)) ≡ true → next.variable ≡ v → IsOneOf best (Some next) (Some chosen) → IsSearched (drives d f heading) (size d) (kept_of (size d) f) (at + 1) (Some chosen)
    sign_more best next chosen s e named both =
        driving_more at (get_or (kept_of (size d) f) at (0, zeroℚ)) best next chosen s l there (tested true e) (named ∙ variable (0, zeroℚ)) both

    pub sign_less : (best : Option Candidate) → IsSearched (drives d f heading) (size d) (kept_of (size d) f) at best → may_go d v (cond above heading (back_of heading)) ≡ false → IsSearched (drives d f heading) (size d) (kept_of (size d) f) (at + 1) best
    sign_less best s e = driving_less at (get_or (kept_of (size d) f) at (0, zeroℚ)) best s l there (tested false e)

    pub sign_hit : IsSearched (drives d f heading) (size d) (kept_of (size d) f) at None → may_go d v (cond above heading (back_of heading)) ≡ true → least (size d) (drives d f heading) ≡ Some v
    sign_hit s e = driving_hit at (get_or (kept_of (size d) f) at (0, zeroℚ)) s l there (tested true e) ∙ ap Some (sym (variable (0, zeroℚ)))
