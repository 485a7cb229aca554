-- Whether a column can be split, by its kind and its choice.
use Rattle.std.proofs.Common.{◌≡◌, ℕ, ◌+◌, ◌<◌, ◌≤◌, ◌^◌, ℤ, unsigned_abs, Bool, true, false, List, length, get_or, Some, slice_get, refl, sym, ap, ◌∙◌, subst, arith, to_z, of_z}
use Rattle.std.proofs.lemmas.Int.{to_z-of_z, fits_signed_from_abs}
use Rattle.std.specs.Int.{w128}
use Rattle.std.proofs.lemmas.Option.{slice_get-get_or}
use Rattle.cip_problem.specs.Program.{Choice, Plain, Open, Off, On, Sides, Program}
use Rattle.cip_problem.specs.WellFormed.{columns, IsWellFormed}
use Rattle.cip_problem.specs.Choices.{is_open}
use Rattle.cip_problem.specs.Log.{CanSplitAt, Split}
use Rattle.cip_lin.specs.ChoiceParts.{is_plain}
use Rattle.cip_domain.specs.Halves.{CanHalve}
use Rattle.cip_core.specs.SplitRules.{LeavesBoth}
use Rattle.cip_core.specs.KeptNodes.{farthest}
use Rattle.cip_node_rules.proofs.BothSides.{near_next}
use Rattle.cip_domain.specs.Changes.{Region}
use Rattle.cip_tree.specs.Nodes.{TakenNode, region_of}
use Rattle.cip_core.specs.CoreStates.{CoreState, reduced_of, IsAtWork}
use Rattle.cip_core.specs.SplitPlaces.{IsSplitPlace}
use Rattle.cip_core.specs.Steps.{HasLeft}
use Rattle.cip_calls.specs.SplitsJudged.{IsPlace}

-- the kind of a column that is there
pub kind_at : (kinds : List Bool) (column : ℕ) (kind : Bool) → column < length kinds → get_or kinds column false ≡ kind → slice_get kinds column ≡ Some kind
kind_at kinds column kind l e = slice_get-get_or kinds column false l ∙ ap Some e

-- a number that is near is itself as one of 128 bits
pub near_itself : (at : ℤ) → unsigned_abs at ≤ 2 ^ 100 → to_z w128 (of_z w128 at) ≡ at
near_itself at near = to_z-of_z w128 at (fits_signed_from_abs w128 at (omega (arith, near)))

-- the kind of a column of a program, by a list that is its kinds
pub kind_of : (program : Program) (kinds : List Bool) (column : ℕ) (kind : Bool) → kinds ≡ program.integral → IsWellFormed program → column < columns program → get_or kinds column false ≡ kind → slice_get program.integral column ≡ Some kind
kind_of program kinds column kind e formed inside k =
    ap (λ (ks : List Bool). slice_get ks column) (sym e) ∙ kind_at kinds column kind (subst (λ n. column < n) (sym (ap length e ∙ formed.integral)) inside) k

-- a whole column whose choice isn't plain can't be split, nor a continuous one whose choice isn't open
pub not_splittable : (choice : Choice) (kind : Bool) → (kind ≡ true → is_plain choice ≡ false) → (kind ≡ false → is_open choice ≡ false) → ¬ CanSplitAt choice (Some kind)
not_splittable Plain true plain opened s = absurd (let g : true ≡ false = plain refl in cc)
not_splittable Plain false plain opened s = absurd (let g : Some false ≡ Some true = s in cc)
not_splittable (Open own) true plain opened s = absurd (let g : Some true ≡ Some false = s in cc)
not_splittable (Open own) false plain opened s = absurd (let g : true ≡ false = opened refl in cc)
not_splittable Off kind plain opened s = s
not_splittable On kind plain opened s = s

-- each alone
pub whole_not_splittable : (choice : Choice) → is_plain choice ≡ false → ¬ CanSplitAt choice (Some true)
whole_not_splittable choice e = not_splittable choice true (λ _. e) (λ f. absurd (let g : true ≡ false = f in cc))

pub continuous_not_splittable : (choice : Choice) → is_open choice ≡ false → ¬ CanSplitAt choice (Some false)
continuous_not_splittable choice e = not_splittable choice false (λ f. absurd (let g : false ≡ true = f in cc)) (λ _. e)

-- ---- both halves of a whole column

pub both_left : (sides : Sides) (ids : ℕ) (at : ℤ) → unsigned_abs at ≤ 2 ^ 100 → CanHalve sides at → LeavesBoth sides (farthest ids + 1) at
both_left sides ids at near halves = record {
  near = omega (arith, near);
  next_near = omega (arith, near_next (2 ^ 100) at near);
  low = halves.low;
  high = halves.high;
}

-- ---- what a core is asked to split, and what comes of it

module _ (core : CoreState) (node : TakenNode) (column : ℕ) (at : ℤ) where
  pub split_there : IsWellFormed (reduced_of core) → IsAtWork core node × (core.tree.ids < 2 ^ 63) → IsPlace core column at
      → (core.tree.ids < 2 ^ 63) × (column < length (reduced_of core).integral) × IsSplitPlace (reduced_of core).integral (region_of core.tree node) (farthest core.tree.ids + 1) column (to_z w128 (of_z w128 at))
  split_there formed w place = (
    w.1,
    subst (λ n. column < n) (sym formed.integral) place.named.inside,
    subst (λ (r : Region). IsSplitPlace (reduced_of core).integral r (farthest core.tree.ids + 1) column (to_z w128 (of_z w128 at))) w.0.region
        (subst (IsSplitPlace (reduced_of core).integral core.tree.work (farthest core.tree.ids + 1) column) (sym (near_itself at place.named.near)) place.place),
  )

pub left_there : (old new : CoreState) (node : TakenNode) (column : ℕ) (at : ℤ) (low high : ℕ) → unsigned_abs at ≤ 2 ^ 100 → HasLeft old new node (Split column (to_z w128 (of_z w128 at)) low high) → HasLeft old new node (Split column at low high)
left_there old new node column at low high near left = subst (λ z. HasLeft old new node (Split column z low high)) (near_itself at near) left
