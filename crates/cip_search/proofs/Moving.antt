-- A column goes to the side at which it costs least.
use Rattle.std.proofs.Common.{◌≡◌, ◌⊎◌, ◌≢◌, ℕ, zero, suc, ◌<◌, Bool, true, false, List, [], ◌∷◌, length, Option, None, Some, IfSome, slice_get, refl, sym, ap, ◌∙◌, subst, arith, inl, inr, true≢false}
use Rattle.std.specs.Prelude.{slice_set}
use Rattle.std.specs.List.{AllByRecursion}
use Rattle.cip_rational.specs.Rational.{ℚ, ◌*ℚ◌, zeroℚ, ◌≤ℚ◌, IsWhole}
use Rattle.cip_rational.specs.Sums.{dot}
use Rattle.cip_rational.proofs.Rational.Order.{≤ℚ_refl, ≤ℚ_trans, ≤ℚ_of_eq}
use Rattle.cip_rational.proofs.Rational.Monotone.{+ℚ_mono, *ℚ_mono}
use Rattle.cip_rational.proofs.Rational.Inverse.{*ℚ_antitone}
use Rattle.cip_problem.specs.Program.{Term, Sides, Row, Choice, Plain, Open, Off, On, Program}
use Rattle.cip_problem.specs.Activity.{value_at, activity}
use Rattle.cip_problem.specs.Box.{IsInBox, sides_at, sides_inside}
use Rattle.cip_problem.specs.Choices.{choice_at, Allows, KeepsChoices, is_open}
use Rattle.cip_problem.specs.Points.{AreWhole, IsFeasible}
use Rattle.cip_problem.proofs.Points.AtPlaces.{IsInBox-long}
use Rattle.cip_search.specs.NarrowedPrograms.{AllSatisfied, IsStep, with_sides}
use Rattle.cip_search.specs.Pairs.{IsHeldFast, HasNear}
use Rattle.cip_search.specs.Moving.{LetsFall, LetsRise, RowLetsFall, RowLetsRise, fixed_sides, CanTake, CanFallTo, CanRiseTo}
use Rattle.cip_search.proofs.Inside.{inside_self}
use Rattle.cip_search.proofs.Replacing.{sides_chosen}

-- ---- a value is set

pub set_same : (y : List ℚ) (column : ℕ) (v : ℚ) → column < length y → value_at (slice_set y column v) column ≡ v
set_same [] column v h = absurd (omega (arith, h))
set_same (w ∷ y) zero v h = refl
set_same (w ∷ y) (suc column) v h = set_same y column v (omega (arith, h))

pub set_other : (y : List ℚ) (column place : ℕ) (v : ℚ) → place ≢ column → value_at (slice_set y column v) place ≡ value_at y place
set_other [] column place v h = refl
set_other (w ∷ y) zero zero v h = absurd (h refl)
set_other (w ∷ y) zero (suc place) v h = refl
set_other (w ∷ y) (suc column) zero v h = refl
set_other (w ∷ y) (suc column) (suc place) v h = set_other y column place v (λ e. h (ap (λ n. suc n) e))

pub data Same (a b : ℕ) : Type 0 where
  same : a ≡ b → Same a b
  other : a ≢ b → Same a b

same_next : (a b : ℕ) → Same a b → Same (suc a) (suc b)
same_next a b (same e) = same (ap (λ n. suc n) e)
same_next a b (other h) = other (λ e. h (omega (arith, e)))

pub same_or : (a b : ℕ) → Same a b
same_or zero zero = same refl
same_or zero (suc b) = other (λ e. absurd (omega (arith, e)))
same_or (suc a) zero = other (λ e. absurd (omega (arith, e)))
same_or (suc a) (suc b) = same_next a b (same_or a b)

box_set : (box : List Sides) (y : List ℚ) (column : ℕ) (v : ℚ) → IsInBox box y → IsInBox (slice_set box column (fixed_sides v)) (slice_set y column v)
box_set [] [] column v h = tt
box_set [] (w ∷ y) column v h = absurd h
box_set (s ∷ ss) [] column v h = absurd h
box_set (s ∷ ss) (w ∷ y) zero v h = (record { above = ≤ℚ_refl v; below = ≤ℚ_refl v }, h.1)
box_set (s ∷ ss) (w ∷ y) (suc column) v h = (h.0, box_set ss y column v h.1)

whole_set : (integral : List Bool) (y : List ℚ) (column : ℕ) (v : ℚ) → (slice_get integral column ≡ Some true → IsWhole v) → AreWhole integral y → AreWhole integral (slice_set y column v)
whole_set [] [] column v f h = tt
whole_set [] (w ∷ y) column v f h = absurd h
whole_set (b ∷ bs) [] column v f h = absurd h
whole_set (b ∷ bs) (w ∷ y) zero v f h = ((λ e. f (ap Some e)), h.1)
whole_set (b ∷ bs) (w ∷ y) (suc column) v f h = (h.0, whole_set bs y column v f h.1)

pub not_open_allows : (choice : Choice) (v : ℚ) → is_open choice ≡ false → Allows choice v
not_open_allows Plain v e = tt
not_open_allows (Open own) v e = absurd (true≢false e)
not_open_allows Off v e = tt
not_open_allows On v e = tt

choice_set : (choices : List Choice) (y : List ℚ) (column place : ℕ) (v : ℚ) → Same place column → is_open (choice_at choices column) ≡ false → KeepsChoices choices y → Allows (choice_at choices place) (value_at (slice_set y column v) place)
choice_set choices y column place v (same e) o k = not_open_allows (choice_at choices place) _ (subst (λ c. is_open (choice_at choices c) ≡ false) (sym e) o)
choice_set choices y column place v (other h) o k = subst (λ t. Allows (choice_at choices place) t) (sym (set_other y column place v h)) (k place)

pub sides_set : (box : List Sides) (column : ℕ) (sides : Sides) → column < length box → sides_at (slice_set box column sides) column ≡ sides
sides_set [] column sides h = absurd (omega (arith, h))
sides_set (s ∷ ss) zero sides h = refl
sides_set (s ∷ ss) (suc column) sides h = sides_set ss column sides (omega (arith, h))

-- only the column that is moved has another value, and that is held fast
module _ (program : Program) (column : ℕ) (v : ℚ) (within : column < length program.bounds) (plain : is_open (choice_at program.choices column) ≡ false) (y : List ℚ) where
  held_fast : (place : ℕ) → place ≡ column → IsHeldFast (with_sides program column (fixed_sides v)) place
  held_fast place e = record {
    value = v;
    inside = subst (λ (s : Sides). sides_inside s (fixed_sides v) ≡ true)
        (sym (ap (λ n. sides_at (slice_set program.bounds column (fixed_sides v)) n) e ∙ sides_set program.bounds column (fixed_sides v) within))
        (inside_self (fixed_sides v));
  }

  near_set : (place : ℕ) → Same place column → (value_at (slice_set y column v) place ≡ value_at y place) ⊎ IsHeldFast (with_sides program column (fixed_sides v)) place
  near_set place (same e) = inr (held_fast place e)
  near_set place (other h) = inl (set_other y column place v h)

  open_set : (place : ℕ) → Same place column → is_open (choice_at program.choices place) ≡ true → value_at (slice_set y column v) place ≡ value_at y place
  open_set place (same e) o = absurd (true≢false (sym o ∙ ap (λ n. is_open (choice_at program.choices n)) e ∙ plain))
  open_set place (other h) o = set_other y column place v h

-- ---- activities and costs

module _ (y : List ℚ) (column : ℕ) (v : ℚ) (inside : column < length y) where
  at_same : (t : Term) → t.column ≡ column → value_at (slice_set y column v) t.column ≡ v
  at_same t e = ap (value_at (slice_set y column v)) e ∙ set_same y column v inside

  -- a term whose product with the new value isn't less
  product_up : (t : Term) → Same t.column column → (t.column ≡ column → t.coefficient *ℚ value_at y column ≤ℚ t.coefficient *ℚ v) → t.coefficient *ℚ value_at y t.column ≤ℚ t.coefficient *ℚ value_at (slice_set y column v) t.column
  product_up t (same e) f =
      subst (λ w. t.coefficient *ℚ value_at y t.column ≤ℚ t.coefficient *ℚ w) (sym (at_same t e))
      (subst (λ c. t.coefficient *ℚ value_at y c ≤ℚ t.coefficient *ℚ v) (sym e) (f e))
  product_up t (other h) f = ≤ℚ_of_eq (ap (λ w. t.coefficient *ℚ w) (sym (set_other y column t.column v h)))

  product_down : (t : Term) → Same t.column column → (t.column ≡ column → t.coefficient *ℚ v ≤ℚ t.coefficient *ℚ value_at y column) → t.coefficient *ℚ value_at (slice_set y column v) t.column ≤ℚ t.coefficient *ℚ value_at y t.column
  product_down t (same e) f =
      subst (λ w. t.coefficient *ℚ w ≤ℚ t.coefficient *ℚ value_at y t.column) (sym (at_same t e))
      (subst (λ c. t.coefficient *ℚ v ≤ℚ t.coefficient *ℚ value_at y c) (sym e) (f e))
  product_down t (other h) f = ≤ℚ_of_eq (ap (λ w. t.coefficient *ℚ w) (set_other y column t.column v h))

  activity_up : (terms : List Term) → AllByRecursion (λ t. t.column ≡ column → t.coefficient *ℚ value_at y column ≤ℚ t.coefficient *ℚ v) terms → activity terms y ≤ℚ activity terms (slice_set y column v)
  activity_up [] h = ≤ℚ_refl zeroℚ
  activity_up (t ∷ ts) h = +ℚ_mono (product_up t (same_or t.column column) h.0) (activity_up ts h.1)

  activity_down : (terms : List Term) → AllByRecursion (λ t. t.column ≡ column → t.coefficient *ℚ v ≤ℚ t.coefficient *ℚ value_at y column) terms → activity terms (slice_set y column v) ≤ℚ activity terms y
  activity_down [] h = ≤ℚ_refl zeroℚ
  activity_down (t ∷ ts) h = +ℚ_mono (product_down t (same_or t.column column) h.0) (activity_down ts h.1)

dot_set : (costs y : List ℚ) (column : ℕ) (v : ℚ) → value_at costs column *ℚ v ≤ℚ value_at costs column *ℚ value_at y column → dot costs (slice_set y column v) ≤ℚ dot costs y
dot_set [] y column v h = ≤ℚ_refl zeroℚ
dot_set (c ∷ costs) [] column v h = ≤ℚ_refl zeroℚ
dot_set (c ∷ costs) (w ∷ y) zero v h = +ℚ_mono h (≤ℚ_refl _)
dot_set (c ∷ costs) (w ∷ y) (suc column) v h = +ℚ_mono (≤ℚ_refl _) (dot_set costs y column v h)

-- ---- falling

-- the values that terms let a column go to
module _ (y : List ℚ) (column : ℕ) (v : ℚ) (inside : column < length y) where
  fall_terms_low : (side : ℚ) (high : Option ℚ) (terms : List Term) → v ≤ℚ value_at y column → AllByRecursion (λ t. t.column ≡ column → LetsFall (Some side) high t.coefficient) terms → AllByRecursion (λ t. t.column ≡ column → t.coefficient *ℚ value_at y column ≤ℚ t.coefficient *ℚ v) terms
  fall_terms_low side high [] k h = tt
  fall_terms_low side high (t ∷ ts) k h = ((λ e. *ℚ_antitone v (value_at y column) t.coefficient (h.0 e).low k), fall_terms_low side high ts k h.1)

  fall_terms_high : (low : Option ℚ) (side : ℚ) (terms : List Term) → v ≤ℚ value_at y column → AllByRecursion (λ t. t.column ≡ column → LetsFall low (Some side) t.coefficient) terms → AllByRecursion (λ t. t.column ≡ column → t.coefficient *ℚ v ≤ℚ t.coefficient *ℚ value_at y column) terms
  fall_terms_high low side [] k h = tt
  fall_terms_high low side (t ∷ ts) k h = ((λ e. *ℚ_mono v (value_at y column) t.coefficient (h.0 e).high k), fall_terms_high low side ts k h.1)

  rise_terms_low : (side : ℚ) (high : Option ℚ) (terms : List Term) → value_at y column ≤ℚ v → AllByRecursion (λ t. t.column ≡ column → LetsRise (Some side) high t.coefficient) terms → AllByRecursion (λ t. t.column ≡ column → t.coefficient *ℚ value_at y column ≤ℚ t.coefficient *ℚ v) terms
  rise_terms_low side high [] k h = tt
  rise_terms_low side high (t ∷ ts) k h = ((λ e. *ℚ_mono (value_at y column) v t.coefficient (h.0 e).low k), rise_terms_low side high ts k h.1)

  rise_terms_high : (low : Option ℚ) (side : ℚ) (terms : List Term) → value_at y column ≤ℚ v → AllByRecursion (λ t. t.column ≡ column → LetsRise low (Some side) t.coefficient) terms → AllByRecursion (λ t. t.column ≡ column → t.coefficient *ℚ v ≤ℚ t.coefficient *ℚ value_at y column) terms
  rise_terms_high low side [] k h = tt
  rise_terms_high low side (t ∷ ts) k h = ((λ e. *ℚ_antitone (value_at y column) v t.coefficient (h.0 e).high k), rise_terms_high low side ts k h.1)

  fall_above : (low high : Option ℚ) (terms : List Term) → v ≤ℚ value_at y column → AllByRecursion (λ t. t.column ≡ column → LetsFall low high t.coefficient) terms → IfSome low (λ side. side ≤ℚ activity terms y) → IfSome low (λ side. side ≤ℚ activity terms (slice_set y column v))
  fall_above None high terms k h a = tt
  fall_above (Some side) high terms k h a = ≤ℚ_trans a (activity_up y column v inside terms (fall_terms_low side high terms k h))

  fall_below : (low high : Option ℚ) (terms : List Term) → v ≤ℚ value_at y column → AllByRecursion (λ t. t.column ≡ column → LetsFall low high t.coefficient) terms → IfSome high (λ side. activity terms y ≤ℚ side) → IfSome high (λ side. activity terms (slice_set y column v) ≤ℚ side)
  fall_below low None terms k h a = tt
  fall_below low (Some side) terms k h a = ≤ℚ_trans (activity_down y column v inside terms (fall_terms_high low side terms k h)) a

  rise_above : (low high : Option ℚ) (terms : List Term) → value_at y column ≤ℚ v → AllByRecursion (λ t. t.column ≡ column → LetsRise low high t.coefficient) terms → IfSome low (λ side. side ≤ℚ activity terms y) → IfSome low (λ side. side ≤ℚ activity terms (slice_set y column v))
  rise_above None high terms k h a = tt
  rise_above (Some side) high terms k h a = ≤ℚ_trans a (activity_up y column v inside terms (rise_terms_low side high terms k h))

  rise_below : (low high : Option ℚ) (terms : List Term) → value_at y column ≤ℚ v → AllByRecursion (λ t. t.column ≡ column → LetsRise low high t.coefficient) terms → IfSome high (λ side. activity terms y ≤ℚ side) → IfSome high (λ side. activity terms (slice_set y column v) ≤ℚ side)
  rise_below low None terms k h a = tt
  rise_below low (Some side) terms k h a = ≤ℚ_trans (activity_down y column v inside terms (rise_terms_high low side terms k h)) a

  rows_fall : (rows : List Row) → v ≤ℚ value_at y column → AllByRecursion (RowLetsFall column) rows → AllSatisfied rows y → AllSatisfied rows (slice_set y column v)
  rows_fall [] k h a = tt
  rows_fall (r ∷ rs) k h a =
      (record { above = fall_above r.low r.high r.terms k h.0 a.0.above; below = fall_below r.low r.high r.terms k h.0 a.0.below }, rows_fall rs k h.1 a.1)

  rows_rise : (rows : List Row) → value_at y column ≤ℚ v → AllByRecursion (RowLetsRise column) rows → AllSatisfied rows y → AllSatisfied rows (slice_set y column v)
  rows_rise [] k h a = tt
  rows_rise (r ∷ rs) k h a =
      (record { above = rise_above r.low r.high r.terms k h.0 a.0.above; below = rise_below r.low r.high r.terms k h.0 a.0.below }, rows_rise rs k h.1 a.1)

-- ---- the steps

module _ (program : Program) (column : ℕ) (v : ℚ) (c : CanTake program column v) where
  taken : (y : List ℚ) → IsFeasible program y → AllSatisfied program.rows (slice_set y column v) → value_at program.costs column *ℚ v ≤ℚ value_at program.costs column *ℚ value_at y column → HasNear program (with_sides program column (fixed_sides v)) (λ number. number) y
  taken y h rows k = record {
    other = slice_set y column v;
    feasible = record {
      within = box_set program.bounds y column v h.within;
      whole = whole_set program.integral y column v c.whole h.whole;
      choices = λ n. choice_set program.choices y column n v (same_or n column) c.plain h.choices;
      rows = rows;
    };
    no_dearer = +ℚ_mono (≤ℚ_refl program.constant) (dot_set program.costs y column v k);
    near = λ place l. near_set program column v c.within c.plain y place (same_or place column);
    semi = λ place l o. open_set program column v c.within c.plain y place (same_or place column) o;
  }

  within_point : (y : List ℚ) → IsFeasible program y → column < length y
  within_point y h = let e = IsInBox-long program.bounds y h.within in omega (arith, c.within, e)

pub falls : (program : Program) (column : ℕ) (value : ℚ) → CanFallTo program column value → IsStep program (with_sides program column (fixed_sides value))
falls program column value c =
    sides_chosen program column (fixed_sides value) c.takes.inside
    (λ y h. taken program column value c.takes y h
    (rows_fall y column value (within_point program column value c.takes y h) program.rows (c.least y h) c.rows h.rows)
    (*ℚ_mono value (value_at y column) (value_at program.costs column) c.cost (c.least y h)))

pub rises : (program : Program) (column : ℕ) (value : ℚ) → CanRiseTo program column value → IsStep program (with_sides program column (fixed_sides value))
rises program column value c =
    sides_chosen program column (fixed_sides value) c.takes.inside
    (λ y h. taken program column value c.takes y h
    (rows_rise y column value (within_point program column value c.takes y h) program.rows (c.greatest y h) c.rows h.rows)
    (*ℚ_antitone (value_at y column) value (value_at program.costs column) c.cost (c.greatest y h)))
