-- A program whose choices are made, beside the program itself: verdicts on its points, and rays.
--     same_verdict, whole_verdict, shown_there, shown_back, leaf_answer
use Rattle.std.proofs.Common.{◌≡◌, ℕ, zero, suc, ◌+◌, Bool, true, false, List, [], ◌∷◌, length, All, Option, None, Some, slice_get, refl, sym, ap, ◌∙◌, subst, arith, true≢false, Result, Ok, Err}
use Rattle.std.specs.Prelude.{IfOk, IsSome, IsSomeAnd}
use Rattle.std.specs.List.{AllZip}
use Rattle.std.proofs.lemmas.Bool.{and_from}
use Rattle.std.proofs.lemmas.Option.{none-some, same_Some}
use Rattle.std.proofs.lemmas.List.Elements.{All-head, All-tail}
use Rattle.cip_rational.specs.Rational.{ℚ, zeroℚ, ◌≤ℚ◌}
use Rattle.cip_rational.proofs.Rational.Order.{≤ℚ_antisymm}
use Rattle.cip_problem.specs.Program.{Sides, Choice, Plain, Open, Off, On, Program}
use Rattle.cip_problem.specs.Activity.{value_at}
use Rattle.cip_problem.specs.Box.{IsInBox, sides_at, is_between}
use Rattle.cip_problem.proofs.Box.SideTests.{test_of_between}
use Rattle.cip_problem.specs.Choices.{choice_at, Allows, is_open, open_count, decided_box, decided, zero_sides}
use Rattle.cip_problem.proofs.Choices.Decided as problem
use Rattle.cip_problem.specs.Points.{IsFeasible}
use Rattle.cip_problem.specs.WellFormed.{IsSemi, IsChoice, IsWellFormed}
use Rattle.cip_problem.specs.LinearProgram.{StaysBetween}
use Rattle.cip_lin.specs.ChoiceParts.{is_allowed}
use Rattle.cip_lin.proofs.AllowedValues.{allowed_from}
use Rattle.cip_search.specs.Leaf.{Leaf}
use Rattle.cip_model.specs.declared.verdicts.Place.TheVariants.{Row as AtRow, Cost}
use Rattle.cip_model.specs.declared.verdicts.Verdict.{Verdict}
use Rattle.cip_model.specs.Rays.{RaySumsFit, IsShownRay}
use Rattle.cip_model.specs.Verdicts.{is_kept, first_outside, first_not_whole, first_broken, cost_verdict, from_rows, from_wholes, from_bounds, verdict_of}
use Rattle.cip_frac.specs.Outcomes.{dot_from}
use Rattle.cip_model.proofs.Meaning.Ray.{still_open, falls_along}
use Rattle.cip_leaf.specs.declared.answers.LeafAnswer.{LeafAnswer}
use Rattle.cip_leaf.specs.declared.answers.LeafAnswer.TheVariants.{Best, NoPoint, Unbounded as HasRay, Wide}
use Rattle.cip_leaf.specs.LeafAnswers.{IsLeafAnswer, IsValuesAnswer}
use Rattle.cip_bland.proofs.RayEnds.{zero_stays}

-- ---- the verdict on a feasible point

-- a value for each column from `at` on is allowed
abbrev AllowFrom : ℕ → List Choice → List ℚ → Type 0
AllowFrom at choices point = (place : ℕ) → Allows (choice_at choices (at + place)) (value_at point place)

none_outside : (at : ℕ) (box : List Sides) (choices : List Choice) (point : List ℚ) → IsInBox box point → AllowFrom at choices point → first_outside at box choices point ≡ None
none_outside at [] choices point h a = refl
none_outside at (s ∷ ss) choices [] h a = absurd h
none_outside at (s ∷ ss) choices (v ∷ vs) h a = rw kept (none_outside (at + 1) ss choices vs h.1 rest)
  where
    here : Allows (choice_at choices at) v
    here = let e : at + 0 ≡ at = omega arith in subst (λ n. Allows (choice_at choices n) v) e (a 0)

    kept : is_kept s (choice_at choices at) v ≡ true
    kept = and_from (is_between s.low s.high v) (is_allowed (choice_at choices at) v) (test_of_between s.low s.high v h.0) (allowed_from (choice_at choices at) v here)

    rest : AllowFrom (at + 1) choices vs
    rest place = let e : at + suc place ≡ at + 1 + place = omega arith in subst (λ n. Allows (choice_at choices n) (value_at vs place)) e (a (suc place))

-- the verdict behind bounds and choices
abbrev rest_of : Program → List ℚ → Verdict
rest_of program point =
    from_wholes (first_not_whole 0 program.integral point)
    (from_rows (first_broken 0 program.rows point) (cost_verdict (dot_from program.constant program.costs point)))

feasible_verdict : (program : Program) (point : List ℚ) → IsFeasible program point → verdict_of program point ≡ rest_of program point
feasible_verdict program point f =
    let e : first_outside 0 program.bounds program.choices point ≡ None = none_outside 0 program.bounds program.choices point f.within allow in
    ap (λ o. from_bounds o (rest_of program point)) e
  where
    allow : AllowFrom 0 program.choices point
    allow place = let e : place ≡ 0 + place = omega arith in subst (λ n. Allows (choice_at program.choices n) (value_at point place)) e (f.choices place)

pub same_verdict : (program : Program) (on : List Bool) (point : List ℚ) → IsWellFormed program → length on ≡ open_count program.choices → IsFeasible (decided program on) point → verdict_of program point ≡ verdict_of (decided program on) point
same_verdict program on point formed each f =
    feasible_verdict program point (problem.feasible program on point formed each f) ∙ sym (feasible_verdict (decided program on) point f)

-- ---- where no column is continuous

whole_there : (integral : List Bool) (k : ℕ) → All (λ whole. whole ≡ true) integral → ¬ (slice_get integral k ≡ Some false)
whole_there [] k h e = none-some false e
whole_there (w ∷ ws) zero h e = true≢false (sym (All-head (λ whole. whole ≡ true) w ws h) ∙ same_Some w false e)
whole_there (w ∷ ws) (suc k) h e = whole_there ws k (All-tail (λ whole. whole ≡ true) w ws h) e

not_open : (choice : Choice) (whole : Option Bool) (sides : Sides) → IsChoice choice whole sides → ¬ (whole ≡ Some false) → is_open choice ≡ false
not_open Plain whole sides h n = refl
not_open (Open own) whole sides h n = absurd (n h.continuous)
not_open Off whole sides h n = refl
not_open On whole sides h n = refl

abbrev NoneOpen : List Choice → Type 0
NoneOpen choices = (column : ℕ) → is_open (choice_at choices column) ≡ false

decided_same : (choices : List Choice) (box : List Sides) (on : List Bool) → NoneOpen choices → decided_box choices box on ≡ box
decided_same [] box on h = refl
decided_same (c ∷ cs) [] on h = refl
decided_same (Plain ∷ cs) (s ∷ ss) on h = ap (λ t. s ∷ t) (decided_same cs ss on (λ column. h (suc column)))
decided_same (Open own ∷ cs) (s ∷ ss) on h = absurd (true≢false (h 0))
decided_same (Off ∷ cs) (s ∷ ss) on h = ap (λ t. s ∷ t) (decided_same cs ss on (λ column. h (suc column)))
decided_same (On ∷ cs) (s ∷ ss) on h = ap (λ t. s ∷ t) (decided_same cs ss on (λ column. h (suc column)))

allowed_all : (choice : Choice) (value : ℚ) → is_open choice ≡ false → is_allowed choice value ≡ true
allowed_all Plain value h = refl
allowed_all (Open own) value h = absurd (true≢false h)
allowed_all Off value h = refl
allowed_all On value h = refl

outside_same : (at : ℕ) (box : List Sides) (choices : List Choice) (point : List ℚ) → NoneOpen choices → first_outside at box choices point ≡ first_outside at box [] point
outside_same at [] choices point h = refl
outside_same at (s ∷ ss) choices [] h = refl
outside_same at (s ∷ ss) choices (v ∷ vs) h =
    let a = allowed_all (choice_at choices at) v (h at) in
    let r = outside_same (at + 1) ss choices vs h in
    rw (a, r) refl

pub whole_verdict : (program : Program) (on : List Bool) (point : List ℚ) → IsWellFormed program → All (λ whole. whole ≡ true) program.integral → verdict_of program point ≡ verdict_of (decided program on) point
whole_verdict program on point formed whole =
    ap (λ o. from_bounds o (rest_of program point))
    (outside_same 0 program.bounds program.choices point none
    ∙ ap (λ box. first_outside 0 box [] point) (sym (decided_same program.choices program.bounds on none)))
  where
    none : NoneOpen program.choices
    none column = not_open (choice_at program.choices column) (slice_get program.integral column) (sides_at program.bounds column) (formed.choices column) (whole_there program.integral column whole)

-- ---- rays

abbrev Stay : List Sides → List ℚ → Type 0
Stay box ray = AllZip (λ sides change. StaysBetween sides.low sides.high change) box ray

abbrev AreChoices : List Choice → (ℕ → Option Bool) → List Sides → Type 0
AreChoices choices wholes box = (column : ℕ) → IsChoice (choice_at choices column) (wholes column) (sides_at box column)

-- where both sides are there, what stays between them doesn't change
still_between : (low high : Option ℚ) (change : ℚ) → IsSome low → IsSome high → StaysBetween low high change → change ≡ zeroℚ
still_between None high change l h s = absurd (true≢false (sym l))
still_between (Some low) None change l h s = absurd (true≢false (sym h))
still_between (Some low) (Some high) change l h s = ≤ℚ_antisymm s.not_up s.not_down

is_there : (low : Option ℚ) → IsSomeAnd low (λ side. zeroℚ ≤ℚ side) → IsSome low
is_there None h = absurd h
is_there (Some low) h = refl

open_still : (own sides : Sides) (whole : Option Bool) (change : ℚ) → IsSemi own whole sides → StaysBetween sides.low sides.high change → change ≡ zeroℚ
open_still own sides whole change semi h = still_open own change (subst (λ (s : Sides). StaysBetween s.low s.high change) semi.open_ h)

made_still : (own sides : Sides) (whole : Option Bool) (is_on : Bool) (change : ℚ) → IsSemi own whole sides → Stay (decided_box (Open own ∷ []) (sides ∷ []) (is_on ∷ [])) (change ∷ []) → change ≡ zeroℚ
made_still own sides whole true change semi h = still_between own.low own.high change (is_there own.low semi.low) semi.high h.0
made_still own sides whole false change semi h = ≤ℚ_antisymm h.0.not_up h.0.not_down

stay_there : (choices : List Choice) (wholes : ℕ → Option Bool) (box : List Sides) (on : List Bool) (ray : List ℚ) → AreChoices choices wholes box → Stay box ray → Stay (decided_box choices box on) ray
stay_there [] wholes box on ray f h = h
stay_there (c ∷ cs) wholes [] on ray f h = h
stay_there (c ∷ cs) wholes (s ∷ ss) on [] f h = absurd h
stay_there (Plain ∷ cs) wholes (s ∷ ss) on (r ∷ rs) f h = (h.0, stay_there cs (λ column. wholes (suc column)) ss on rs (λ column. f (suc column)) h.1)
stay_there (Open own ∷ cs) wholes (s ∷ ss) [] (r ∷ rs) f h = (h.0, stay_there cs (λ column. wholes (suc column)) ss [] rs (λ column. f (suc column)) h.1)
stay_there (Open own ∷ cs) wholes (s ∷ ss) (true ∷ on) (r ∷ rs) f h =
    (zero_stays own r (open_still own s (wholes 0) r (f 0) h.0), stay_there cs (λ column. wholes (suc column)) ss on rs (λ column. f (suc column)) h.1)
stay_there (Open own ∷ cs) wholes (s ∷ ss) (false ∷ on) (r ∷ rs) f h =
    (zero_stays zero_sides r (open_still own s (wholes 0) r (f 0) h.0), stay_there cs (λ column. wholes (suc column)) ss on rs (λ column. f (suc column)) h.1)
stay_there (Off ∷ cs) wholes (s ∷ ss) on (r ∷ rs) f h = absurd (f 0)
stay_there (On ∷ cs) wholes (s ∷ ss) on (r ∷ rs) f h = absurd (f 0)

stay_back : (choices : List Choice) (wholes : ℕ → Option Bool) (box : List Sides) (on : List Bool) (ray : List ℚ) → AreChoices choices wholes box → Stay (decided_box choices box on) ray → Stay box ray
stay_back [] wholes box on ray f h = h
stay_back (c ∷ cs) wholes [] on ray f h = h
stay_back (Plain ∷ cs) wholes (s ∷ ss) on [] f h = absurd h
stay_back (Plain ∷ cs) wholes (s ∷ ss) on (r ∷ rs) f h = (h.0, stay_back cs (λ column. wholes (suc column)) ss on rs (λ column. f (suc column)) h.1)
stay_back (Open own ∷ cs) wholes (s ∷ ss) [] [] f h = absurd h
stay_back (Open own ∷ cs) wholes (s ∷ ss) [] (r ∷ rs) f h = (h.0, stay_back cs (λ column. wholes (suc column)) ss [] rs (λ column. f (suc column)) h.1)
stay_back (Open own ∷ cs) wholes (s ∷ ss) (o ∷ on) [] f h = absurd h
stay_back (Open own ∷ cs) wholes (s ∷ ss) (o ∷ on) (r ∷ rs) f h =
    (zero_stays s r (made_still own s (wholes 0) o r (f 0) (h.0, tt)), stay_back cs (λ column. wholes (suc column)) ss on rs (λ column. f (suc column)) h.1)
stay_back (Off ∷ cs) wholes (s ∷ ss) on ray f h = absurd (f 0)
stay_back (On ∷ cs) wholes (s ∷ ss) on ray f h = absurd (f 0)

module _ (program : Program) (on : List Bool) (point ray : List ℚ) (formed : IsWellFormed program) (each : length on ≡ open_count program.choices) (feasible : IsFeasible (decided program on) point) where
  fits_there : RaySumsFit program ray → RaySumsFit (decided program on) ray
  fits_there h (AtRow number) = h (AtRow number)
  fits_there h Cost = h Cost

  fits_back : RaySumsFit (decided program on) ray → RaySumsFit program ray
  fits_back h (AtRow number) = h (AtRow number)
  fits_back h Cost = h Cost

  -- a ray that is shown in one of them is shown in the other
  pub shown_there : IsShownRay program point ray → IsShownRay (decided program on) point ray
  shown_there h = record {
    feasible = sym (same_verdict program on point formed each feasible) ∙ h.feasible;
    is_ray = record {
      within = stay_there program.choices (λ column. slice_get program.integral column) program.bounds on ray formed.choices h.is_ray.within;
      still = h.is_ray.still;
      rows = h.is_ray.rows;
      falls = h.is_ray.falls;
    };
    fits = fits_there h.fits;
  }

  pub shown_back : IsShownRay (decided program on) point ray → IsShownRay program point ray
  shown_back h = record {
    feasible = same_verdict program on point formed each feasible ∙ h.feasible;
    is_ray = record {
      within = stay_back program.choices (λ column. slice_get program.integral column) program.bounds on ray formed.choices h.is_ray.within;
      still = h.is_ray.still;
      rows = h.is_ray.rows;
      falls = h.is_ray.falls;
    };
    fits = fits_back h.fits;
  }

-- ---- answers

-- what is known of the values of a leaf is known of the leaf
values_tell : (program : Program) (leaf : Leaf) (answer : LeafAnswer) → IsWellFormed program → length leaf.on ≡ open_count program.choices → IsValuesAnswer (decided program leaf.on) leaf.values answer → IsLeafAnswer program leaf answer
values_tell program leaf (Best point cost) formed each h = record {
  is_point = h.is_point;
  found = same_verdict program leaf.on point.items formed each h.is_point.feasible ∙ h.found;
  cost_is = h.cost_is;
  least = h.least;
}
values_tell program leaf NoPoint formed each h = h
values_tell program leaf (HasRay point ray) formed each h =
    let s = shown_back program leaf.on point.items ray.items formed each h.is_point.feasible h.shown in
    record {
      is_point = h.is_point;
      shown = s;
      falls = falls_along program point.items ray.items formed (problem.feasible program leaf.on point.items formed each h.is_point.feasible) s.is_ray;
    }
values_tell program leaf (Wide found) formed each h = h

pub leaf_answer : {E : Type 0} (program : Program) (leaf : Leaf) (result : Result LeafAnswer E) → IsWellFormed program → length leaf.on ≡ open_count program.choices → IfOk result (IsValuesAnswer (decided program leaf.on) leaf.values) → IfOk result (IsLeafAnswer program leaf)
leaf_answer program leaf (Ok answer) formed each h = values_tell program leaf answer formed each h
leaf_answer program leaf (Err error) formed each h = tt
