-- Regions after changes: what their boxes hold, and that the order of the changes is free.
use Rattle.std.proofs.Common.{◌≡◌, ◌≢◌, inl, inr, ℕ, zero, suc, ◌<◌, Bool, true, false, List, [], ◌∷◌, ◌++◌, length, reverse, Option, None, Some, refl, sym, ap, ◌∙◌, subst, arith, set, get_or}
use Rattle.std.specs.List.{AllByRecursion}
use Rattle.std.proofs.lemmas.Bool.{cases_eq, cases_lt}
use Rattle.std.proofs.lemmas.List.{get_or-set_same, get_or-set_other, set-set, set_comm, set_past, length-set, reverse-append}
use Rattle.cip_rational.specs.Rational.{ℚ, ◌≤ℚ◌, minimum, maximum}
use Rattle.cip_rational.proofs.Rational.Order.{≤ℚ_trans, ≤ℚ_antisymm}
use Rattle.cip_rational.proofs.Rational.Extremes.{minimum_le, minimum_comm, le_minimum, maximum_ge, maximum_comm, maximum_le}
use Rattle.cip_problem.specs.Program.{Sides, Choice, Plain, Open, Off, On}
use Rattle.cip_problem.specs.Box.{no_sides, sides_at, Between, IsInBox}
use Rattle.cip_problem.specs.Choices.{greater, lesser, met}
use Rattle.cip_problem.specs.Activity.{value_at}
use Rattle.cip_problem.proofs.Choices.Meeting.{between_both, between_met}
use Rattle.cip_domain.specs.Changes.{Region, Change, choice_after, tightened, narrowed}
use Rattle.cip_domain.specs.Narrowing.{Meets}

-- ---- sides met with two others, in either order

maximum_below : (a b c : ℚ) → maximum (maximum a b) c ≤ℚ maximum (maximum a c) b
maximum_below a b c =
    maximum_le
    (maximum_le (≤ℚ_trans (maximum_ge a c).0 (maximum_ge (maximum a c) b).0) (maximum_ge (maximum a c) b).1)
    (≤ℚ_trans (maximum_ge a c).1 (maximum_ge (maximum a c) b).0)

minimum_below : (a b c : ℚ) → minimum (minimum a b) c ≤ℚ minimum (minimum a c) b
minimum_below a b c =
    le_minimum
    (le_minimum (≤ℚ_trans (minimum_le (minimum a b) c).0 (minimum_le a b).0) (minimum_le (minimum a b) c).1)
    (≤ℚ_trans (minimum_le (minimum a b) c).0 (minimum_le a b).1)

greater_comm : (a b : Option ℚ) → greater a b ≡ greater b a
greater_comm None None = refl
greater_comm None (Some b) = refl
greater_comm (Some a) None = refl
greater_comm (Some a) (Some b) = ap Some (maximum_comm a b)

lesser_comm : (a b : Option ℚ) → lesser a b ≡ lesser b a
lesser_comm None None = refl
lesser_comm None (Some b) = refl
lesser_comm (Some a) None = refl
lesser_comm (Some a) (Some b) = ap Some (minimum_comm a b)

greater_order : (own a b : Option ℚ) → greater (greater own a) b ≡ greater (greater own b) a
greater_order None a b = greater_comm a b
greater_order (Some own) None None = refl
greater_order (Some own) None (Some b) = refl
greater_order (Some own) (Some a) None = refl
greater_order (Some own) (Some a) (Some b) =
    ap Some (≤ℚ_antisymm (maximum_below own a b) (maximum_below own b a))

lesser_order : (own a b : Option ℚ) → lesser (lesser own a) b ≡ lesser (lesser own b) a
lesser_order None a b = lesser_comm a b
lesser_order (Some own) None None = refl
lesser_order (Some own) None (Some b) = refl
lesser_order (Some own) (Some a) None = refl
lesser_order (Some own) (Some a) (Some b) =
    ap Some (≤ℚ_antisymm (minimum_below own a b) (minimum_below own b a))

pub met_order : (sides a b : Sides) → met (met sides a) b ≡ met (met sides b) a
met_order sides a b =
    ap (λ t. let s : Sides = record { low = t; high = lesser (lesser sides.high a.high) b.high } in s) (greater_order sides.low a.low b.low)
    ∙ ap (λ t. let s : Sides = record { low = greater (greater sides.low b.low) a.low; high = t } in s) (lesser_order sides.high a.high b.high)

-- ---- a choice made twice, in either order

pub choice_order : (choice : Choice) (a b : Option Bool) → choice_after (choice_after choice a) b ≡ choice_after (choice_after choice b) a
choice_order choice None b = refl
choice_order choice (Some a) None = refl
choice_order Plain (Some a) (Some b) = refl
choice_order (Open own) (Some true) (Some true) = refl
choice_order (Open own) (Some true) (Some false) = refl
choice_order (Open own) (Some false) (Some true) = refl
choice_order (Open own) (Some false) (Some false) = refl
choice_order Off (Some a) (Some b) = refl
choice_order On (Some true) (Some true) = refl
choice_order On (Some true) (Some false) = refl
choice_order On (Some false) (Some true) = refl
choice_order On (Some false) (Some false) = refl

-- ---- two elements of a list changed, in either order

module _ {X : Type 0} (d : X) where
  -- an element of a list after a change
  abbrev changed : (xs : List X) (i : ℕ) → (X → X) → List X
  changed xs i f = set xs i (f (get_or xs i d))

  twice : (xs : List X) (i : ℕ) (f g : X → X) → i < length xs → changed (changed xs i f) i g ≡ set xs i (g (f (get_or xs i d)))
  twice xs i f g l =
      ap (λ t. set (changed xs i f) i (g t)) (get_or-set_same xs i (f (get_or xs i d)) d l)
      ∙ set-set xs i (f (get_or xs i d)) (g (f (get_or xs i d)))

  same_place : (xs : List X) (i : ℕ) (f g : X → X) → ((x : X) → g (f x) ≡ f (g x)) → changed (changed xs i f) i g ≡ changed (changed xs i g) i f
  same_place xs i f g e = elim (cases_lt i (length xs)) [
    | inl l ↦ twice xs i f g l ∙ ap (set xs i) (e (get_or xs i d)) ∙ sym (twice xs i g f l)
    | inr l ↦
        ap (λ t. changed t i g) (set_past xs i (f (get_or xs i d)) l) ∙ set_past xs i (g (get_or xs i d)) l
        ∙ sym (ap (λ t. changed t i f) (set_past xs i (g (get_or xs i d)) l) ∙ set_past xs i (f (get_or xs i d)) l)
  ]

  other_place : (xs : List X) (i j : ℕ) (f g : X → X) → i ≢ j → changed (changed xs i f) j g ≡ changed (changed xs j g) i f
  other_place xs i j f g n =
      ap (λ t. set (changed xs i f) j (g t)) (get_or-set_other xs i j (f (get_or xs i d)) d (λ e. n (sym e)))
      ∙ set_comm xs i j (f (get_or xs i d)) (g (get_or xs j d)) n
      ∙ sym (ap (λ t. set (changed xs j g) i (f t)) (get_or-set_other xs j i (g (get_or xs j d)) d n))

  pub places_order : (xs : List X) (i j : ℕ) (f g : X → X) → ((x : X) → g (f x) ≡ f (g x)) → changed (changed xs i f) j g ≡ changed (changed xs j g) i f
  places_order xs i j f g e = elim (cases_eq i j) [
    | inl same ↦ subst (λ k. changed (changed xs i f) k g ≡ changed (changed xs k g) i f) same (same_place xs i f g e)
    | inr n ↦ other_place xs i j f g n
  ]

-- ---- the order of changes

pub region_same : (a b : Region) → a.box ≡ b.box → a.choices ≡ b.choices → a ≡ b
region_same a b e f =
    ap (λ t. let r : Region = record { box = t; choices = a.choices } in r) e
    ∙ ap (λ t. let r : Region = record { box = b.box; choices = t } in r) f

-- two changes of a region, in either order
pub changes_order : (region : Region) (a b : Change) → tightened (tightened region a) b ≡ tightened (tightened region b) a
changes_order region a b =
    region_same (tightened (tightened region a) b) (tightened (tightened region b) a)
    (places_order no_sides region.box a.column b.column (λ s. met s a.sides) (λ s. met s b.sides) (λ s. met_order s a.sides b.sides))
    (places_order Plain region.choices a.column b.column (λ c. choice_after c a.made) (λ c. choice_after c b.made) (λ c. choice_order c a.made b.made))

-- a change may be made before the others
pub change_first : (region : Region) (change : Change) (changes : List Change) → narrowed (tightened region change) changes ≡ tightened (narrowed region changes) change
change_first region change [] = refl
change_first region change (c ∷ cs) = ap (λ t. tightened t c) (change_first region change cs) ∙ changes_order (narrowed region cs) change c

pub narrowed-append : (region : Region) (changes more : List Change) → narrowed region (changes ++ more) ≡ narrowed (narrowed region more) changes
narrowed-append region [] more = refl
narrowed-append region (c ∷ cs) more = ap (λ t. tightened t c) (narrowed-append region cs more)

pub narrowed-reverse : (region : Region) (changes : List Change) → narrowed region (reverse changes) ≡ narrowed region changes
narrowed-reverse region [] = refl
narrowed-reverse region (c ∷ cs) =
    ap (narrowed region) (reverse-append (c ∷ []) cs) ∙ narrowed-append region (reverse cs) (c ∷ [])
    ∙ change_first region c (reverse cs) ∙ ap (λ t. tightened t c) (narrowed-reverse region cs)

pub length-narrowed : (region : Region) (changes : List Change) → length (narrowed region changes).box ≡ length region.box
length-narrowed region [] = refl
length-narrowed region (c ∷ cs) = length-set (narrowed region cs).box c.column _ ∙ length-narrowed region cs

-- ---- the points of a box after a change

-- the sides of a column of a box met with others
abbrev met_at : List Sides → ℕ → Sides → List Sides
met_at box column sides = set box column (met (sides_at box column) sides)

column_out : (box : List Sides) (column : ℕ) (sides : Sides) (point : List ℚ) → column < length box → IsInBox (met_at box column sides) point → IsInBox box point × Between sides.low sides.high (value_at point column)
column_out [] column sides point l h = absurd (omega (arith, l))
column_out (s ∷ ss) zero sides [] l h = absurd h
column_out (s ∷ ss) (suc column) sides [] l h = absurd h
column_out (s ∷ ss) zero sides (x ∷ xs) l h = let k = between_both s sides x h.0 in ((k.0, h.1), k.1)
column_out (s ∷ ss) (suc column) sides (x ∷ xs) l h =
    let k = column_out ss column sides xs (omega (arith, l)) h.1 in ((h.0, k.0), k.1)

column_in : (box : List Sides) (column : ℕ) (sides : Sides) (point : List ℚ) → IsInBox box point → Between sides.low sides.high (value_at point column) → IsInBox (met_at box column sides) point
column_in [] column sides point h k = h
column_in (s ∷ ss) zero sides [] h k = absurd h
column_in (s ∷ ss) (suc column) sides [] h k = absurd h
column_in (s ∷ ss) zero sides (x ∷ xs) h k = (between_met s sides x h.0 k, h.1)
column_in (s ∷ ss) (suc column) sides (x ∷ xs) h k = (h.0, column_in ss column sides xs h.1 k)

pub changes_out : (region : Region) (changes : List Change) (point : List ℚ) → AllByRecursion (λ change. change.column < length region.box) changes → IsInBox (narrowed region changes).box point → IsInBox region.box point × AllByRecursion (Meets point) changes
changes_out region [] point l h = (h, tt)
changes_out region (c ∷ cs) point l h =
    let first = column_out (narrowed region cs).box c.column c.sides point (omega (arith, l.0, length-narrowed region cs)) h in
    let rest = changes_out region cs point l.1 first.0 in
    (rest.0, (first.1, rest.1))

pub changes_in : (region : Region) (changes : List Change) (point : List ℚ) → IsInBox region.box point → AllByRecursion (Meets point) changes → IsInBox (narrowed region changes).box point
changes_in region [] point h k = h
changes_in region (c ∷ cs) point h k = column_in (narrowed region cs).box c.column c.sides point (changes_in region cs point h k.1) k.0
