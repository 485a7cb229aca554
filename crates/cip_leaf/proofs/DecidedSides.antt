-- The sides of columns whose choices are made, column by column.
use Rattle.std.proofs.Common.{◌≡◌, ℕ, zero, suc, ◌+◌, ◌<◌, ◌≤◌, Bool, List, [], ◌∷◌, ◌++◌, length, drop, Option, None, Some, slice_get, refl, sym, ap, ◌∙◌, arith, add-one, append_assoc, append-nil}
use Rattle.cip_problem.specs.Program.{Sides, Choice, Plain, Open, Off, On}
use Rattle.cip_problem.specs.Box.{sides_at}
use Rattle.cip_problem.specs.Choices.{choice_at, decided_box}
use Rattle.cip_lin.specs.ChoiceParts.{own_if_open}
use Rattle.cip_leaf.specs.Building.{sides_made, made_more}

-- what is left of the choices that are made, behind a column
abbrev left_behind : Option Sides → List Bool → List Bool
left_behind None on = on
left_behind (Some own) [] = []
left_behind (Some own) (is_on ∷ on) = on

-- the next column
next : (choices : List Choice) (sides : Sides) (box : List Sides) (on : List Bool) → decided_box choices (sides ∷ box) on ≡ sides_made (own_if_open (choice_at choices 0)) (slice_get on 0) sides ∷ decided_box (drop 1 choices) box (left_behind (own_if_open (choice_at choices 0)) on)
next [] sides box on = refl
next (Plain ∷ cs) sides box on = refl
next (Open own ∷ cs) sides box [] = refl
next (Open own ∷ cs) sides box (o ∷ on) = refl
next (Off ∷ cs) sides box on = refl
next (On ∷ cs) sides box on = refl

abbrev no_choices : List Choice
no_choices = []

drop_none : (k : ℕ) → drop k no_choices ≡ []
drop_none zero = refl
drop_none (suc k) = refl

step : (k : ℕ) (choices : List Choice) (box : List Sides) (on : List Bool) → k < length box → decided_box (drop k choices) (drop k box) on ≡ sides_made (own_if_open (choice_at choices k)) (slice_get on 0) (sides_at box k) ∷ decided_box (drop (suc k) choices) (drop (suc k) box) (left_behind (own_if_open (choice_at choices k)) on)
step k choices [] on l = absurd (omega (arith, l))
step zero choices (s ∷ ss) on l = next choices s ss on
step (suc k) [] (s ∷ ss) on l = let e = drop_none k in rw e at (step k [] ss on (omega (arith, l)))
step (suc k) (c ∷ cs) (s ∷ ss) on l = step k cs ss on (omega (arith, l))

first_of : (on : List Bool) (taken : ℕ) → slice_get (drop taken on) 0 ≡ slice_get on taken
first_of [] zero = refl
first_of [] (suc taken) = refl
first_of (o ∷ on) zero = refl
first_of (o ∷ on) (suc taken) = first_of on taken

pub made_few : (own : Option Sides) (on : Option Bool) → made_more own on ≤ 1
made_few None on = omega arith
made_few (Some own) None = omega arith
made_few (Some own) (Some is_on) = omega arith

left_some : (own : Sides) (on : List Bool) (taken : ℕ) (is_on : Bool) → slice_get on taken ≡ Some is_on → left_behind (Some own) (drop taken on) ≡ drop (suc taken) on
left_some own [] zero is_on e = refl
left_some own [] (suc taken) is_on e = refl
left_some own (o ∷ on) zero is_on e = refl
left_some own (o ∷ on) (suc taken) is_on e = left_some own on taken is_on e

left_none : (own : Sides) (on : List Bool) (taken : ℕ) → slice_get on taken ≡ None → left_behind (Some own) (drop taken on) ≡ drop taken on
left_none own [] zero e = refl
left_none own [] (suc taken) e = refl
left_none own (o ∷ on) zero e = cc
left_none own (o ∷ on) (suc taken) e = left_none own on taken e

left_is : (own : Option Sides) (on : List Bool) (taken : ℕ) (found : Option Bool) → slice_get on taken ≡ found → left_behind own (drop taken on) ≡ drop (taken + made_more own found) on
left_is None on taken found e = let f : taken + 0 ≡ taken = omega arith in rw f refl
left_is (Some own) on taken None e = let f : taken + 0 ≡ taken = omega arith in rw f (left_none own on taken e)
left_is (Some own) on taken (Some is_on) e = let f : taken + 1 ≡ suc taken = omega arith in rw f (left_some own on taken is_on e)

-- one more column
pub sides_more : (k taken after : ℕ) (choices : List Choice) (box made : List Sides) (on : List Bool) (all : List Sides) (found : Option Bool) → k < length box → found ≡ slice_get on taken → after ≡ taken + made_more (own_if_open (choice_at choices k)) found → made ++ decided_box (drop k choices) (drop k box) (drop taken on) ≡ all → (made ++ sides_made (own_if_open (choice_at choices k)) found (sides_at box k) ∷ []) ++ decided_box (drop (k + 1) choices) (drop (k + 1) box) (drop after on) ≡ all
sides_more k taken after choices box made on all found l e f h =
    let own = own_if_open (choice_at choices k) in
    let g : slice_get (drop taken on) 0 ≡ found = first_of on taken ∙ sym e in
    let r : left_behind own (drop taken on) ≡ drop after on = left_is own on taken found (sym e) ∙ ap (λ n. drop n on) (sym f) in
    let s : decided_box (drop k choices) (drop k box) (drop taken on) ≡ sides_made own found (sides_at box k) ∷ decided_box (drop (suc k) choices) (drop (suc k) box) (drop after on) = step k choices box (drop taken on) l ∙ (ap (λ o. sides_made own o (sides_at box k) ∷ decided_box (drop (suc k) choices) (drop (suc k) box) (left_behind own (drop taken on))) g ∙ ap (λ o. sides_made own found (sides_at box k) ∷ decided_box (drop (suc k) choices) (drop (suc k) box) o) r) in
    rw add-one
    (append_assoc made (sides_made own found (sides_at box k) ∷ []) (decided_box (drop (suc k) choices) (drop (suc k) box) (drop after on))
    ∙ (ap (λ t. made ++ t) (sym s) ∙ h))

no_sides_left : (choices : List Choice) (on : List Bool) → decided_box choices [] on ≡ []
no_sides_left [] on = refl
no_sides_left (c ∷ cs) on = refl

drop_all : (k : ℕ) (box : List Sides) → length box ≤ k → drop k box ≡ []
drop_all zero [] l = refl
drop_all (suc k) [] l = refl
drop_all zero (s ∷ ss) l = absurd (omega (arith, l))
drop_all (suc k) (s ∷ ss) l = drop_all k ss (omega (arith, l))

-- past the last column
pub sides_end : (k : ℕ) (choices : List Choice) (box made : List Sides) (on : List Bool) (all : List Sides) → length box ≤ k → made ++ decided_box (drop k choices) (drop k box) on ≡ all → made ≡ all
sides_end k choices box made on all l h =
    sym (append-nil made) ∙ (ap (λ t. made ++ t) (sym (ap (λ b. decided_box (drop k choices) b on) (drop_all k box l) ∙ no_sides_left (drop k choices) on)) ∙ h)
