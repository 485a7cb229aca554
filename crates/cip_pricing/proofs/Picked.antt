-- What an owner picks: values, zipped lists, choices and rows.
use Rattle.std.proofs.Common.{◌≡◌, ℕ, zero, suc, Bool, true, false, cond, List, [], ◌∷◌, length, map, None, Some, refl, sym, ap, ap₂, subst, arith, true≢false, slice_get}
use Rattle.std.specs.List.{AllZip, AllByRecursion}
use Rattle.std.proofs.lemmas.Bool.{eqb-true, eq-eqb}
use Rattle.std.proofs.lemmas.Option.{none-some, same_Some}
use Rattle.cip_rational.specs.Rational.{ℚ, ◌+ℚ◌, ◌*ℚ◌, zeroℚ}
use Rattle.cip_problem.specs.Program.{Term, Sides, Row, Choice, Program}
use Rattle.cip_problem.specs.Activity.{value_at, activity}
use Rattle.cip_problem.specs.Box.{Between, IsInBox}
use Rattle.cip_problem.specs.Choices.{Allows, KeepsChoices}
use Rattle.cip_problem.specs.Points.{IsSatisfied, IsFeasible}
use Rattle.cip_pricing.specs.Decomposition.{Owner, Decomposition, same_owner, picked, place, renumbered, StandsOn, IsOwnRow, IsDecomposed, master_rows, IsBlockPoint}

-- ---- owners

pub same_owner-refl : (who : Owner) → same_owner who who ≡ true
same_owner-refl None = refl
same_owner-refl (Some k) = eq-eqb k k refl

pub same_owner-true : (a b : Owner) → same_owner a b ≡ true → a ≡ b
same_owner-true None None e = refl
same_owner-true None (Some k) e = absurd (true≢false (sym e))
same_owner-true (Some j) None e = absurd (true≢false (sym e))
same_owner-true (Some j) (Some k) e = ap (λ n. Some n) (eqb-true j k e)

-- ---- lists

pub picked-nil : {X : Type 0} (who : Owner) (owners : List Owner) → picked {X = X} who owners [] ≡ []
picked-nil who [] = refl
picked-nil who (o ∷ os) = refl

length_step : {X Y : Type 0} (t : Bool) (x : X) (xs : List X) (y : Y) (ys : List Y) → length xs ≡ length ys
    → length (cond t (x ∷ xs) xs) ≡ length (cond t (y ∷ ys) ys)
length_step true x xs y ys e = ap suc e
length_step false x xs y ys e = e

-- lists of one length have as many entries of an owner
pub length_picked : {X Y : Type 0} (who : Owner) (owners : List Owner) (xs : List X) (ys : List Y)
    → length xs ≡ length ys → length (picked who owners xs) ≡ length (picked who owners ys)
length_picked who [] xs ys e = refl
length_picked who (o ∷ os) [] [] e = refl
length_picked who (o ∷ os) [] (y ∷ ys) e = absurd (omega (arith, e))
length_picked who (o ∷ os) (x ∷ xs) [] e = absurd (omega (arith, e))
length_picked who (o ∷ os) (x ∷ xs) (y ∷ ys) e =
    length_step (same_owner o who) x (picked who os xs) y (picked who os ys)
    (length_picked who os xs ys (omega (arith, e)))

zip_step : {A B : Type 0} (R : A → B → Type 0) (t : Bool) (x : A) (xs : List A) (y : B) (ys : List B) → R x y
    → AllZip R xs ys → AllZip R (cond t (x ∷ xs) xs) (cond t (y ∷ ys) ys)
zip_step R true x xs y ys h k = (h, k)
zip_step R false x xs y ys h k = k

pub zip_picked : {A B : Type 0} (R : A → B → Type 0) (who : Owner) (owners : List Owner) (xs : List A) (ys : List B) →
    AllZip R xs ys → AllZip R (picked who owners xs) (picked who owners ys)
zip_picked R who [] xs ys h = tt
zip_picked R who (o ∷ os) [] [] h = tt
zip_picked R who (o ∷ os) [] (y ∷ ys) h = absurd h
zip_picked R who (o ∷ os) (x ∷ xs) [] h = absurd h
zip_picked R who (o ∷ os) (x ∷ xs) (y ∷ ys) h =
    zip_step R (same_owner o who) x (picked who os xs) y (picked who os ys) h.0 (zip_picked R who os xs ys h.1)

all_step : {A : Type 0} (P : A → Type 0) (t : Bool) (x : A) (xs : List A) → P x → AllByRecursion P xs
    → AllByRecursion P (cond t (x ∷ xs) xs)
all_step P true x xs h k = (h, k)
all_step P false x xs h k = k

pub all_picked : {A : Type 0} (P : A → Type 0) (who : Owner) (owners : List Owner) (xs : List A)
    → AllByRecursion P xs → AllByRecursion P (picked who owners xs)
all_picked P who [] xs h = tt
all_picked P who (o ∷ os) [] h = tt
all_picked P who (o ∷ os) (x ∷ xs) h = all_step P (same_owner o who) x (picked who os xs) h.0
    (all_picked P who os xs h.1)

-- ---- values and rows

value_step : (t : Bool) (v : ℚ) (vs : List ℚ) (k : ℕ) (u : ℚ) → value_at vs k ≡ u
    → value_at (cond t (v ∷ vs) vs) (cond t (suc k) k) ≡ u
value_step true v vs k u e = e
value_step false v vs k u e = e

-- the value of a column stands at its place
pub value_picked : (who : Owner) (owners : List Owner) (point : List ℚ) (column : ℕ)
    → slice_get owners column ≡ Some who
    → value_at (picked who owners point) (place who owners column) ≡ value_at point column
value_picked who [] point column e = absurd (none-some who e)
value_picked who (o ∷ os) [] column e = refl
value_picked who (o ∷ os) (v ∷ vs) zero e =
    subst (λ (w : Owner). value_at (cond (same_owner o w) (v ∷ picked w os vs) (picked w os vs)) 0 ≡ v)
    (same_Some o who e)
    (ap (λ t. value_at (cond t (v ∷ picked o os vs) (picked o os vs)) 0) (same_owner-refl o))
value_picked who (o ∷ os) (v ∷ vs) (suc column) e =
    value_step (same_owner o who) v (picked who os vs) (place who os column) (value_at vs column)
    (value_picked who os vs column e)

pub activity_renumbered : (owners : List Owner) (block : ℕ) (terms : List Term) (point : List ℚ)
    → AllByRecursion (λ (t : Term). slice_get owners t.column ≡ Some (Some block)) terms
    → activity (map (λ (t : Term). record t { column = place (Some block) owners t.column }) terms)
    (picked (Some block) owners point) ≡ activity terms point
activity_renumbered owners block [] point h = refl
activity_renumbered owners block (t ∷ ts) point h =
    ap₂ (λ x y. (t.coefficient *ℚ x) +ℚ y) (value_picked (Some block) owners point t.column h.0)
    (activity_renumbered owners block ts point h.1)

rows_kept : (owners : List Owner) (block : ℕ) (rows : List Row) (point : List ℚ)
    → AllByRecursion (StandsOn owners block) rows → AllByRecursion (λ row. IsSatisfied row point) rows
    → AllByRecursion (λ row. IsSatisfied row (picked (Some block) owners point))
    (map (renumbered (Some block) owners) rows)
rows_kept owners block [] point h k = tt
rows_kept owners block (r ∷ rs) point h k = (
  subst (Between r.low r.high) (sym (activity_renumbered owners block r.terms point h.0)) k.0,
  rows_kept owners
      block rs point h.1 k.1,
)

own_step : (owners : List Owner) (block : ℕ) (owner : Owner) (row : Row) (rest : List Row) (t : Bool)
    → same_owner owner (Some block) ≡ t → IsOwnRow owners owner row → AllByRecursion (StandsOn owners block) rest
    → AllByRecursion (StandsOn owners block) (cond t (row ∷ rest) rest)
own_step owners block owner row rest false e h k = k
own_step owners block None row rest true e h k = absurd (true≢false (sym e))
own_step owners block (Some other) row rest true e h k =
    (subst (λ b. StandsOn owners b row) (eqb-true other block e) h, k)

-- the rows of a block stand on columns of the block
pub own_rows : (owners : List Owner) (block : ℕ) (row_owners : List Owner) (rows : List Row)
    → AllZip (IsOwnRow owners) row_owners rows
    → AllByRecursion (StandsOn owners block) (picked (Some block) row_owners rows)
own_rows owners block [] rows h = tt
own_rows owners block (o ∷ os) [] h = tt
own_rows owners block (o ∷ os) (r ∷ rs) h =
    own_step owners block o r (picked (Some block) os rs) (same_owner o (Some block)) refl h.0
    (own_rows owners block os rs h.1)

-- ---- choices

keeps_step : (t : Bool) (c : Choice) (cs : List Choice) (v : ℚ) (vs : List ℚ) → Allows c v → KeepsChoices cs vs
    → KeepsChoices (cond t (c ∷ cs) cs) (cond t (v ∷ vs) vs)
keeps_step true c cs v vs h k zero = h
keeps_step true c cs v vs h k (suc column) = k column
keeps_step false c cs v vs h k column = k column

keeps_none : (t : Bool) (c : Choice) (cs : List Choice) → Allows c zeroℚ → KeepsChoices cs []
    → KeepsChoices (cond t (c ∷ cs) cs) []
keeps_none true c cs h k zero = h
keeps_none true c cs h k (suc column) = k column
keeps_none false c cs h k column = k column

pub keeps_picked : (who : Owner) (owners : List Owner) (choices : List Choice) (point : List ℚ)
    → KeepsChoices choices point → KeepsChoices (picked who owners choices) (picked who owners point)
keeps_picked who [] choices point h column = tt
keeps_picked who (o ∷ os) [] point h column = tt
keeps_picked who (o ∷ os) (c ∷ cs) [] h column =
    keeps_none (same_owner o who) c (picked who os cs) (h 0)
    (subst (KeepsChoices (picked who os cs)) (picked-nil who os) (keeps_picked who os cs [] (λ k. h (suc k))))
    column
keeps_picked who (o ∷ os) (c ∷ cs) (v ∷ vs) h column =
    keeps_step (same_owner o who) c (picked who os cs) v (picked who os vs) (h 0)
    (keeps_picked who os cs vs (λ k. h (suc k))) column

-- ---- the part of a block

pub block_part : (program : Program) (blocks : Decomposition) (box : List Sides) (point : List ℚ) (block : ℕ)
    → IsDecomposed program blocks → IsFeasible program point → IsInBox box point
    → IsBlockPoint program blocks box block (picked (Some block) blocks.columns point)
block_part program blocks box point block d f w = record {
  within = zip_picked (λ sides value. Between sides.low sides.high value) (Some block) blocks.columns box point w;
  whole = zip_picked _ (Some block) blocks.columns program.integral point f.whole;
  choices = keeps_picked (Some block) blocks.columns program.choices point f.choices;
  rows =
      rows_kept blocks.columns block (picked (Some block) blocks.rows program.rows) point
      (own_rows blocks.columns block blocks.rows program.rows d.own_rows)
      (all_picked (λ row. IsSatisfied row point) (Some block) blocks.rows program.rows f.rows);
}

pub meets_master : (program : Program) (blocks : Decomposition) (point : List ℚ) → IsFeasible program point
    → AllByRecursion (λ row. IsSatisfied row point) (master_rows program blocks)
meets_master program blocks point f = all_picked (λ row. IsSatisfied row point) None blocks.rows program.rows f.rows
