-- The halves of a node that a split is told to give.
use Rattle.std.proofs.Common.{◌≡◌, ℕ, ℤ, pos, ◌+ℤ◌, true, false, Some, Result, Ok, Err, MatchResult, refl, sym, ap, ◌∙◌, subst}
use Rattle.std.specs.Prelude.{slice_get, IsErrAnd}
use Rattle.std.proofs.lemmas.Result.{err_from_is_err_and}
use Rattle.cip_rational.specs.Rational.{integer}
use Rattle.cip_problem.specs.Program.{Sides, Plain, Open}
use Rattle.cip_problem.specs.Box.{sides_at}
use Rattle.cip_problem.specs.Choices.{choice_at}
use Rattle.cip_problem.specs.Wholes.{AllHaveWholes}
use Rattle.cip_domain.specs.Side.TheVariants.{Low, High}
use Rattle.cip_domain.specs.Changes.{Change, side_change, tightened}
use Rattle.cip_domain.specs.Domain.{left_sides}
use Rattle.cip_domain.specs.Halves.{CanHalve}
use Rattle.cip_tree.specs.declared.splits.SplitFault.{SplitFault}
use Rattle.cip_tree.specs.declared.splits.SplitFault.TheVariants.{Outside}
use Rattle.cip_tree.specs.Nodes.{TakenNode, Nodes, region_in, node_changes, region_of, box_of, choices_of, shown}
use Rattle.cip_tree.specs.declared.origins.Parting.{Parting}
use Rattle.cip_tree.specs.declared.origins.Parting.TheVariants.{Whole, Chosen}
use Rattle.cip_tree.specs.Splitting.{AreHalves, IsParting, IsSplitFault}
use Rattle.cip_tree.proofs.Filled.{was_open}
use Rattle.cip_tree.proofs.Halving.{low_is_half, high_is_half, off_is_half, on_is_half, can_split, can_choose}

module _ (tree : Nodes) (node : TakenNode) (column : ℕ) (at : ℤ) (wholes : AllHaveWholes tree.integral (box_of tree node)) where
  module _ (whole : slice_get tree.integral column ≡ Some true) (plain : choice_at (choices_of tree node) column ≡ Plain) where
    whole_are : (low high : Change) → CanHalve (sides_at (box_of tree node) column) at → low ≡ side_change column High (integer at) → high ≡ side_change column Low (integer (at +ℤ pos 1)) → AreHalves tree node column at low high
    whole_are low high can l h = record {
      near = λ _. can.near;
      can = can_split tree.integral (shown tree node) column at wholes whole plain can;
      low_is = ap (tightened (region_of tree node)) l ∙ low_is_half (shown tree node) column at plain can;
      high_is = ap (tightened (region_of tree node)) h ∙ high_is_half (shown tree node) column at plain can;
    }

    -- what the halves of a whole column come to
    pub whole_come : (r : Result Parting SplitFault) → MatchResult r (λ parting. (parting ≡ Whole) × CanHalve (sides_at (box_of tree node) column) at) (λ fault. (fault ≡ Outside) × (¬ CanHalve (sides_at (box_of tree node) column) at)) → MatchResult r (λ parting. IsParting tree node column at parting) (λ fault. IsSplitFault tree node column at fault)
    whole_come (Ok parting) h = subst (IsParting tree node column at) (sym h.0) (record { near = λ _. h.1.near; halves = whole_are _ _ h.1 refl refl })
    whole_come (Err fault) h = subst (λ f. IsSplitFault tree node column at f) (sym h.0) (plain, whole, h.1)

  open_are : (own : Sides) (low high : Change) → slice_get tree.integral column ≡ Some false → choice_at (choices_of tree node) column ≡ Open own → low ≡ (let c : Change = record { column = column; sides = left_sides (Open own) false; made = Some false } in c) → high ≡ (let c : Change = record { column = column; sides = left_sides (Open own) true; made = Some true } in c) → AreHalves tree node column at low high
  open_are own low high whole open_ l h = record {
    near = λ e. absurd (let f : Some true ≡ Some false = sym e ∙ whole in cc);
    can = can_choose tree.integral (shown tree node) column at wholes own whole open_;
    low_is = ap (tightened (region_of tree node)) l ∙ off_is_half (shown tree node) column at own open_;
    high_is = ap (tightened (region_of tree node)) h ∙ on_is_half (shown tree node) column at own open_;
  }

  -- the halves of a column whose choice is open
  pub chosen_are : (own : Sides) → slice_get tree.integral column ≡ Some false → choice_at (choices_of tree node) column ≡ Open own → IsParting tree node column at Chosen
  chosen_are own whole open_ =
      let at_root : choice_at tree.root.choices column ≡ Open own = was_open (region_in tree.root) (node_changes tree node) column own open_ in
      record {
        near = λ e. absurd (let f : Chosen ≡ Whole = e in cc);
        halves = open_are own _ _ whole open_
            (ap (λ c. let t : Change = record { column = column; sides = left_sides c false; made = Some false } in t) at_root)
            (ap (λ c. let t : Change = record { column = column; sides = left_sides c true; made = Some true } in t) at_root);
      }

-- what the exit of a `?` returns
pub fault_told : {X E : Type 0} (r : Result X E) (P : X → Type 0) (Q G : E → Type 0) → IsErrAnd r G
    → ((y : E) → G y → Q y) → MatchResult r P Q
fault_told r P Q G e told = let p = err_from_is_err_and r e in subst (λ x. MatchResult x P Q) (sym p.1) (told p.0 p.2)
