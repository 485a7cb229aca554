-- What stands at earlier marks, and a change that no point meets.
use Rattle.std.proofs.Common.{◌≡◌, ◌<◌, ◌≤◌, ℕ, Bool, true, false, ◌&&◌, if◌then◌else◌, List, [], ◌∷◌, ◌++◌, Option, None, Some, length, take, refl, sym, ap, ◌∙◌, subst, arith, get_or, inl, inr}
use Rattle.std.proofs.lemmas.Bool.{cases_lt}
use Rattle.std.proofs.lemmas.List.{length_push, length-take-le, get_or_push, get_or-take, get_or_append_left, get_or_default, get_or-set_same}
use Rattle.cip_rational.specs.Rational.{ℚ}
use Rattle.cip_rational.proofs.Rational.Order.{≤ℚ_trans, not_le_of_lt, lt_of_test}
use Rattle.cip_problem.specs.Program.{Sides, Choice}
use Rattle.cip_problem.specs.Box.{Between, IsInBox, no_sides, sides_at, sides_inside}
use Rattle.cip_problem.specs.Activity.{value_at}
use Rattle.cip_problem.specs.Choices.{choice_at, met}
use Rattle.cip_problem.proofs.Points.AtPlaces.{in_box_at}
use Rattle.cip_lin.specs.MetSides.{is_past}
use Rattle.cip_domain.specs.Changes.{Region, Change, tightened}
use Rattle.cip_domain.specs.Domain.{Domain, region_of, region_at, KeepsMarks, stepped, is_settled, making}
use Rattle.cip_domain.specs.declared.stores.Tightened.TheVariants.{Yes, Same, Empty}

-- ---- marks

pub one_more : (before : List Region) (region new : Region) (mark : ℕ) → mark ≤ length before → get_or ((before ++ region ∷ []) ++ new ∷ []) mark new ≡ get_or (before ++ region ∷ []) mark region
one_more before region new mark l =
    let within : mark < length (before ++ region ∷ []) = omega (arith, l, length_push before region) in
    get_or_append_left (before ++ region ∷ []) (new ∷ []) new mark within ∙ get_or_default (before ++ region ∷ []) mark new region within

-- a step leaves what stands at the marks so far
pub step_keeps : (domain : Domain) (column : ℕ) (sides : Sides) (choice : Choice) → KeepsMarks domain (stepped domain column sides choice)
step_keeps domain column sides choice = record {
  grows = omega (arith, length_push domain.before (region_of domain));
  same = λ mark l. one_more domain.before (region_of domain) (region_of (stepped domain column sides choice)) mark l;
}

pub stepped_keeps : (old new : Domain) (column : ℕ) (sides : Sides) (choice : Choice) → new ≡ stepped old column sides choice → KeepsMarks old new
stepped_keeps old new column sides choice e = subst (KeepsMarks old) (sym e) (step_keeps old column sides choice)

pub keeps_itself : (domain : Domain) → KeepsMarks domain domain
keeps_itself domain = record { grows = omega arith; same = λ mark l. refl }

-- so does room
pub room_keeps : (old new : Domain) → new ≡ record old { spare = new.spare } → KeepsMarks old new
room_keeps old new e = subst (KeepsMarks old) (sym e) (record { grows = omega arith; same = λ mark l. refl })

pub keeps_trans : (a b c : Domain) → KeepsMarks a b → KeepsMarks b c → KeepsMarks a c
keeps_trans a b c h k = record {
  grows = omega (arith, h.grows, k.grows);
  same = λ mark l. k.same mark (omega (arith, l, h.grows)) ∙ h.same mark l;
}

-- where a mark is brought back, the marks before it are as they were
pub earlier_stay : (old new : Domain) (mark other : ℕ) → mark ≤ length old.before → new.before ≡ take mark old.before → region_of new ≡ region_at old mark → other ≤ mark → region_at new other ≡ region_at old other
earlier_stay old new mark other l e f k =
    let long : length new.before ≡ mark = ap length e ∙ length-take-le mark old.before l in
    elim (cases_lt other mark) [
      | inl b ↦
          get_or_append_left new.before (region_of new ∷ []) (region_of new) other (omega (arith, b, long))
          ∙ ap (λ t. get_or t other (region_of new)) e
          ∙ get_or-take mark old.before other (region_of new) b
          ∙ get_or_default old.before other (region_of new) (region_of old) (omega (arith, b, l))
          ∙ sym (get_or_append_left old.before (region_of old ∷ []) (region_of old) other (omega (arith, b, l)))
      | inr b ↦
          let same : other ≡ mark = omega (arith, b, k) in
          get_or_push new.before (region_of new) (region_of new) other (omega (arith, long, same)) ∙ f ∙ ap (region_at old) (sym same)
    ]

-- ---- crossed sides

crossed : (low high : Option ℚ) (value : ℚ) → is_past low high ≡ true → Between low high value → ⊥
crossed None high value e b = absurd (let g : false ≡ true = e in cc)
crossed (Some low) None value e b = absurd (let g : false ≡ true = e in cc)
crossed (Some low) (Some high) value e b = not_le_of_lt (lt_of_test e) (≤ℚ_trans b.above b.below)

pub empty_case : (strong past : Bool) → (if strong then Same else (if past then Empty else Yes)) ≡ Empty → past ≡ true
empty_case true past e = absurd (cc)
empty_case false true e = refl
empty_case false false e = absurd (cc)

-- no point meets a change that is answered as empty
pub no_point : (region : Region) (change : Change) → change.column < length region.box → making (sides_at region.box change.column) (choice_at region.choices change.column) change ≡ Empty → (point : List ℚ) → ¬ IsInBox (tightened region change).box point
no_point region change l e point h =
    let sides = sides_at region.box change.column in
    let left = met sides change.sides in
    let past = empty_case (sides_inside sides change.sides && is_settled (choice_at region.choices change.column) change.made) (is_past left.low left.high) e in
    let there : sides_at (tightened region change).box change.column ≡ left = get_or-set_same region.box change.column left no_sides l in
    crossed left.low left.high (value_at point change.column) past
    (subst (λ (s : Sides). Between s.low s.high (value_at point change.column)) there (in_box_at (tightened region change).box point change.column h))
