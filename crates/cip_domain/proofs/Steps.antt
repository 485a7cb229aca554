-- A change of a column as steps: its low side, its high side, and its choice.
use Rattle.std.proofs.Common.{◌≡◌, ℕ, ◌<◌, length, Bool, true, false, Option, None, Some, refl, sym, ap, ◌∙◌, set}
use Rattle.std.proofs.lemmas.List.{set-set, set-get_or, get_or-set_same}
use Rattle.cip_problem.specs.Program.{Sides, Choice, Plain, Open, Off, On}
use Rattle.cip_problem.specs.Box.{no_sides, sides_at}
use Rattle.cip_problem.specs.Choices.{choice_at, greater, lesser, met}
use Rattle.cip_lin.specs.declared.sides.Side.{Side}
use Rattle.cip_lin.specs.declared.sides.Side.TheVariants.{Low, High}
use Rattle.cip_domain.specs.Changes.{Region, Change, choice_after, with_side, with_column, tightened, one_side, one_choice}
use Rattle.cip_domain.specs.Domain.{is_settled, is_unsettled}
use Rattle.cip_domain.proofs.Boxes.{region_same}
use Rattle.cip_domain.proofs.OneSide.{greater_none, lesser_none, settled_choice}

met_none : (sides : Sides) → met sides no_sides ≡ sides
met_none sides =
    ap (λ t. let s : Sides = record { low = t; high = lesser sides.high None } in s) (greater_none sides.low)
    ∙ ap (λ t. let s : Sides = record { low = sides.low; high = t } in s) (lesser_none sides.high)

-- where there is no value nothing is met
pub none_met : (region : Region) (column : ℕ) (side : Side) → region ≡ tightened region (one_side column side None)
none_met region column Low =
    sym (region_same (tightened region (one_side column Low None)) region
    (ap (set region.box column) (met_none (sides_at region.box column)) ∙ set-get_or region.box column no_sides)
    (set-get_or region.choices column Plain))
none_met region column High =
    sym (region_same (tightened region (one_side column High None)) region
    (ap (set region.box column) (met_none (sides_at region.box column)) ∙ set-get_or region.box column no_sides)
    (set-get_or region.choices column Plain))

-- where a choice is settled nothing is chosen
pub none_chosen : (region : Region) (column : ℕ) (made : Option Bool) → is_settled (choice_at region.choices column) made ≡ true → region ≡ tightened region (one_choice column made)
none_chosen region column made e =
    sym (region_same (tightened region (one_choice column made)) region
    (ap (set region.box column) (met_none (sides_at region.box column)) ∙ set-get_or region.box column no_sides)
    (ap (set region.choices column) (settled_choice (choice_at region.choices column) made e) ∙ set-get_or region.choices column Plain))

-- and else the choice is another one
pub one_chosen : (region : Region) (column : ℕ) (made : Option Bool) → with_column region column (sides_at region.box column) (choice_after (choice_at region.choices column) made) ≡ tightened region (one_choice column made)
one_chosen region column made =
    region_same _ (tightened region (one_choice column made)) (ap (set region.box column) (sym (met_none (sides_at region.box column)))) refl

pub unsettled : (choice : Choice) (made : Option Bool) → is_settled choice made ≡ false → is_unsettled choice ≡ true
unsettled choice None e = absurd (let f : true ≡ false = e in cc)
unsettled Plain (Some on) e = absurd (let f : true ≡ false = e in cc)
unsettled (Open own) (Some on) e = refl
unsettled Off (Some on) e = absurd (let f : true ≡ false = e in cc)
unsettled On (Some on) e = refl

-- two steps of a choice
pub two_steps : (region : Region) (column : ℕ) (sides : Sides) (half now : Choice) → with_column (with_column region column sides half) column sides now ≡ with_column region column sides now
two_steps region column sides half now =
    region_same _ _ (set-set region.box column sides sides) (set-set region.choices column half now)

three_met : (own sides : Sides) → met (met (met own (with_side no_sides Low sides.low)) (with_side no_sides High sides.high)) no_sides ≡ met own sides
three_met own sides =
    met_none _
    ∙ ap (λ t. let s : Sides = record { low = t; high = lesser (lesser own.high None) sides.high } in s) (greater_none (greater own.low sides.low))
    ∙ ap (λ t. let s : Sides = record { low = greater own.low sides.low; high = lesser t sides.high } in s) (lesser_none own.high)

-- the three steps of a change
pub three_steps : (region : Region) (change : Change) → change.column < length region.box → tightened (tightened (tightened region (one_side change.column Low change.sides.low)) (one_side change.column High change.sides.high)) (one_choice change.column change.made) ≡ tightened region change
three_steps region change l =
    let own = sides_at region.box change.column in
    let one = met own (with_side no_sides Low change.sides.low) in
    let two = met one (with_side no_sides High change.sides.high) in
    let c = choice_at region.choices change.column in
    let first = tightened region (one_side change.column Low change.sides.low) in
    let second = tightened first (one_side change.column High change.sides.high) in
    let at_one : sides_at first.box change.column ≡ one = get_or-set_same region.box change.column one no_sides l in
    let box_two : second.box ≡ set region.box change.column two =
    ap (λ s. set (set region.box change.column one) change.column (met s (with_side no_sides High change.sides.high))) at_one ∙ set-set region.box change.column one two in
    let at_two : sides_at second.box change.column ≡ two = ap (λ b. sides_at b change.column) box_two ∙ get_or-set_same region.box change.column two no_sides l in
    let choices_one : first.choices ≡ region.choices = set-get_or region.choices change.column Plain in
    let choices_two : second.choices ≡ region.choices = set-get_or first.choices change.column Plain ∙ choices_one in
    region_same _ _
    (ap (λ b. set b change.column (met (sides_at second.box change.column) no_sides)) box_two
    ∙ ap (λ s. set (set region.box change.column two) change.column (met s no_sides)) at_two
    ∙ set-set region.box change.column two (met two no_sides)
    ∙ ap (set region.box change.column) (three_met own change.sides))
    (ap (λ k. set k change.column (choice_after (choice_at k change.column) change.made)) choices_two)
