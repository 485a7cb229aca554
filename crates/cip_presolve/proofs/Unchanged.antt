-- A program of which nothing is taken out.
use Rattle.std.proofs.Common.{◌≡◌, ◌⊎◌, ℕ, zero, suc, ◌+◌, ◌-◌, ◌<◌, Bool, List, [], ◌∷◌, ◌++◌, length, Option, None, Some, slice_get, refl, sym, ap, ◌∙◌, subst, arith, inl, inr, add-one}
use Rattle.std.specs.Prelude.{replicate, true}
use Rattle.std.proofs.lemmas.Option.{none-some, same_Some}
use Rattle.cip_rational.specs.Rational.{ℚ}
use Rattle.cip_problem.specs.Program.{Program}
use Rattle.cip_problem.specs.WellFormed.{IsWellFormed, columns}
use Rattle.cip_problem.specs.Activity.{value_at}
use Rattle.cip_problem.specs.Box.{sides_at, sides_inside}
use Rattle.cip_problem.specs.Choices.{choice_at}
use Rattle.cip_problem.specs.Points.{cost_of}
use Rattle.cip_problem.proofs.Points.AtPlaces.{IsInBox-long}
use Rattle.cip_presolve.specs.Reduced.{IsRelaxed}
use Rattle.cip_presolve.specs.Forms.{Form, placed, filled, spread, gathered, kept_at, kept_from}
use Rattle.cip_presolve.specs.Pairs.{IsLong, IsKept, HasForm, IsAssignment, semi_values, IsHeldFast, HasNear, IsExactPair}
use Rattle.cip_search.proofs.Pairing.{exact_self, exact_step_pair}
use Rattle.cip_presolve.specs.StepsBack.{WholesFit}
use Rattle.cip_presolve.specs.PresolvedPrograms.{counted}

-- ---- a pair by which points come back as they are

module _ (program reduced : Program) (post : List ℚ → List ℚ) (kept : ℕ → ℕ) (e : IsExactPair program reduced (λ x. x) (λ n. n)) (same : (x : List ℚ) → IsLong reduced x → post x ≡ x) (number : (n : ℕ) → n < length reduced.bounds → kept n ≡ n) where
  long_of : (x : List ℚ) → IsRelaxed reduced x → IsLong reduced x
  long_of x h = IsInBox-long reduced.bounds x h.within

  same_kept : (n : ℕ) → n < length reduced.bounds → IsKept program reduced post kept n
  same_kept n h =
      let k = e.pair.columns n h in
      record {
        within = subst (λ m. m < length program.bounds) (sym (number n h)) k.within;
        whole = ap (λ m. slice_get program.integral m) (number n h) ∙ k.whole;
        choice = ap (λ m. choice_at program.choices m) (number n h) ∙ k.choice;
        inside = subst (λ m. sides_inside (sides_at reduced.bounds n) (sides_at program.bounds m) ≡ true) (sym (number n h)) k.inside;
        value = λ x l. ap (value_at (post x)) (number n h) ∙ ap (λ (t : List ℚ). value_at t n) (same x l) ∙ k.value x l;
      }

  same_near : (y : List ℚ) (other : List ℚ) (n : ℕ) → n < length reduced.bounds → (value_at other n ≡ value_at y n) ⊎ IsHeldFast reduced n → (value_at other n ≡ value_at y (kept n)) ⊎ IsHeldFast reduced n
  same_near y other n h (inl d) = inl (d ∙ ap (value_at y) (sym (number n h)))
  same_near y other n h (inr d) = inr d

  same_lost : (y : List ℚ) → HasNear program reduced (λ n. n) y → HasNear program reduced kept y
  same_lost y f = record {
    other = f.other;
    feasible = f.feasible;
    no_dearer = f.no_dearer;
    near = λ n h. same_near y f.other n h (f.near n h);
    semi = λ n h o. f.semi n h o ∙ ap (value_at y) (sym (number n h));
  }

  same_form : (n : ℕ) → HasForm reduced (λ x. x) n → HasForm reduced post n
  same_form n f = record {
    form = f.form;
    constant = f.constant;
    factor = f.factor;
    source = f.source;
    value = λ x l. ap (λ (t : List ℚ). value_at t n) (same x l) ∙ f.value x l;
  }

  pub same_pair : IsExactPair program reduced post kept
  same_pair = record {
    pair = record {
      long = λ x h. ap (λ (t : List ℚ). length t) (same x h) ∙ e.pair.long x h;
      relaxed = λ x h. subst (λ (t : List ℚ). IsRelaxed program t) (sym (same x (long_of x h))) (e.pair.relaxed x h);
      cost = λ x h. ap (cost_of program) (same x (long_of x h)) ∙ e.pair.cost x h;
      none_lost = λ y h. same_lost y (e.pair.none_lost y h);
      columns = same_kept;
      forms = λ n h. same_form n (e.pair.forms n h);
      assigned = λ x h. subst (λ (t : List ℚ). IsAssignment program t) (sym (same x h.long)) (e.pair.assigned x h);
      fewer = e.pair.fewer;
      semi = record {
        own = e.pair.semi.own;
        values = λ x h. ap (λ (t : List ℚ). semi_values program.choices t) (same x h) ∙ e.pair.semi.values x h;
      };
    };
    back = λ y h.
        let b = e.back y h in
        record { other = b.other; feasible = b.feasible; same = same b.other (IsInBox-long reduced.bounds b.other b.feasible.within) ∙ b.same; cost = b.cost };
  }

-- ---- no column is gone

-- the forms of so many columns that stay
abbrev no_forms : ℕ → List (Option Form)
no_forms n = replicate n None

none_placed : (n : ℕ) (x : List ℚ) → length x ≡ n → placed (no_forms n) x ≡ x
none_placed zero [] h = refl
none_placed zero (v ∷ x) h = absurd (omega (arith, h))
none_placed (suc n) [] h = absurd (omega (arith, h))
none_placed (suc n) (v ∷ x) h = ap (λ t. v ∷ t) (none_placed n x (omega (arith, h)))

none_filled : (n : ℕ) (at x : List ℚ) → length x ≡ n → filled (no_forms n) at x ≡ x
none_filled zero at [] h = refl
none_filled zero at (v ∷ x) h = absurd (omega (arith, h))
none_filled (suc n) at [] h = absurd (omega (arith, h))
none_filled (suc n) at (v ∷ x) h = ap (λ t. v ∷ t) (none_filled n at x (omega (arith, h)))

none_back : (n : ℕ) (x : List ℚ) → length x ≡ n → spread (no_forms n) x ≡ x
none_back n x h =
    ap (λ (t : List ℚ). filled (no_forms n) t t) (none_placed n x h) ∙ none_filled n x x h

none_number : (n k : ℕ) → k < n → kept_at (no_forms n) k ≡ k
none_number zero k h = absurd (omega (arith, h))
none_number (suc n) zero h = refl
none_number (suc n) (suc k) h = ap (λ m. suc m) (none_number n k (omega (arith, h)))

counted_kept : (first n : ℕ) → counted first n ≡ kept_from first (no_forms n)
counted_kept first zero = refl
counted_kept first (suc n) =
    let e : first + 1 ≡ suc first = omega arith in
    ap (λ t. first ∷ t) (counted_kept (first + 1) n ∙ ap (λ k. kept_from k (no_forms n)) e)

pub none_kept : (n : ℕ) (forms : List (Option Form)) (kept : List ℕ) → forms ≡ no_forms n → kept ≡ counted 0 n → kept ≡ kept_from 0 forms
none_kept n forms kept e k = k ∙ counted_kept 0 n ∙ ap (λ (fs : List (Option Form)). kept_from 0 fs) (sym e)

pub none_changes : (program : Program) (forms : List (Option Form)) (point : List ℚ) → IsWellFormed program → forms ≡ no_forms (columns program) → IsLong program point → spread forms point ≡ point
none_changes program forms point formed e h =
    ap (λ (fs : List (Option Form)). spread fs point) e ∙ none_back (columns program) point (h ∙ formed.bounds)

pub same_exact : (program reduced : Program) (forms : List (Option Form)) → IsWellFormed program → reduced ≡ program → forms ≡ no_forms (columns program) → IsExactPair program reduced (spread forms) (kept_at forms)
same_exact program reduced forms formed r e =
    subst (λ p. IsExactPair program p (spread forms) (kept_at forms)) (sym r)
    (same_pair program program (spread forms) (kept_at forms)
    (exact_step_pair program program (exact_self program))
    (λ x h. none_changes program forms x formed e h)
    (λ n h. ap (λ (fs : List (Option Form)). kept_at fs n) e ∙ none_number (columns program) n (omega (arith, h, formed.bounds))))

-- one more column that isn't gone
abbrev nothing : Option Form
nothing = None

pub one_more_none : (n : ℕ) → replicate n nothing ++ nothing ∷ [] ≡ replicate (n + 1) nothing
one_more_none n = rw add-one (grown n)
  where
    grown : (n : ℕ) → replicate n nothing ++ nothing ∷ [] ≡ replicate (suc n) nothing
    grown zero = refl
    grown (suc n) = ap (λ t. nothing ∷ t) (grown n)

none_gathered : (n : ℕ) (xs : List Bool) → length xs ≡ n → gathered (no_forms n) xs ≡ xs
none_gathered zero [] e = refl
none_gathered zero (x ∷ xs) e = absurd (omega (arith, e))
none_gathered (suc n) [] e = absurd (omega (arith, e))
none_gathered (suc n) (x ∷ xs) e = ap (λ t. x ∷ t) (none_gathered n xs (omega (arith, e)))

pub same_whole : (program reduced : Program) (forms : List (Option Form)) (whole : List Bool) → IsWellFormed program → reduced ≡ program → forms ≡ no_forms (columns program) → whole ≡ program.integral → gathered forms whole ≡ reduced.integral
same_whole program reduced forms whole formed r e w =
    ap (λ (fs : List (Option Form)). gathered fs whole) e
    ∙ ap (λ (ws : List Bool). gathered (no_forms (columns program)) ws) w
    ∙ none_gathered (columns program) program.integral formed.integral
    ∙ ap (λ (p : Program). p.integral) (sym r)

no_form : (n column : ℕ) (form : Form) → ¬ (slice_get (no_forms n) column ≡ Some (Some form))
no_form zero column form h = none-some (Some form) h
no_form (suc n) zero form h = none-some form (same_Some None (Some form) h)
no_form (suc n) (suc column) form h = no_form n column form h

-- no value can overflow
pub none_overflows : (n : ℕ) (forms : List (Option Form)) (whole : List Bool) (point : List ℚ) → forms ≡ no_forms n → WholesFit forms whole point
none_overflows n forms whole point e column form h w = absurd (no_form n column form (subst (λ (fs : List (Option Form)). slice_get fs column ≡ Some (Some form)) e h))

pub one_counted : (k n : ℕ) → k < n → counted k (n - k) ≡ k ∷ counted (k + 1) (n - (k + 1))
one_counted k n h = let e : n - k ≡ suc (n - (k + 1)) = omega (arith, h) in ap (λ m. counted k m) e

pub ruleset unchanged = (none_kept, none_changes)
