-- A split by the rules is one that the tree can make: at a whole column it leaves a whole value on both sides of a near
-- box, and else the column's choice is open.
use Rattle.std.proofs.Common.{◌≡◌, inl, inr, ℕ, zero, suc, ◌+◌, ◌<◌, ℤ, Bool, true, false, not, List, [], ◌∷◌, length, Option, None, Some, slice_get, refl, sym, ap, ◌∙◌, subst, arith, true≢false}
use Rattle.std.specs.Prelude.{MatchOption}
use Rattle.std.proofs.lemmas.Bool.{and_parts}
use Rattle.std.proofs.lemmas.Option.{slice_get_within}
use Rattle.cip_rational.specs.Rational.{ℚ}
use Rattle.cip_problem.specs.Activity.{value_at}
use Rattle.cip_problem.specs.Program.{Sides, Choice, Plain, Open, Off, On, Program}
use Rattle.cip_problem.specs.Box.{sides_at, two_wholes_between}
use Rattle.cip_problem.specs.Choices.{choice_at, is_open, AreStillOpen}
use Rattle.cip_problem.specs.WellFormed.{IsWellFormed}
use Rattle.cip_lin.specs.ChoiceParts.{is_allowed}
use Rattle.cip_domain.specs.Changes.{Region}
use Rattle.cip_problem.specs.Log.{Node}
use Rattle.cip_problem.proofs.Log.Entering.{contains_here}
use Rattle.cip_tree.specs.Nodes.{TakenNode, region_in, region_of, node_changes, shown}
use Rattle.cip_tree.proofs.Halving.{plain_stays}
use Rattle.cip_node_rules.specs.OpenChoices.{IsSettledBox, IsOpenBox}
use Rattle.cip_node_rules.specs.OpenColumns.{is_whole_at, is_open_at, is_fractional}
use Rattle.cip_node_rules.specs.SplitRules.{IsSplitRule, IsChoiceRule, IsNodeRule}
use Rattle.cip_node_rules.proofs.BothSides.{leave_both}
use Rattle.cip_node.specs.Bounding.{IsSplitBy}
use Rattle.cip_core.specs.KeptNodes.{farthest, IsNearBox}
use Rattle.cip_core.specs.CoreStates.{CoreState, reduced_of, IsTakenUp}
use Rattle.cip_core.specs.SplitPlaces.{IsWholePlace, IsChoicePlace, IsSplitPlace}
use Rattle.cip_node.proofs.LeafSettled.{work_node_of}
use Rattle.cip_node.proofs.MadeChoices.{whole_plain, still_continuous}

open_whole : (integral : List Bool) (box : List Sides) (column : ℕ) → is_open_at integral box column ≡ true → is_whole_at integral column ≡ true
open_whole integral box column e = (and_parts (is_whole_at integral column) (two_wholes_between (sides_at box column).low (sides_at box column).high) e).0

rule_whole : (integral : List Bool) (box : List Sides) (point : Option (List ℚ)) (column : ℕ) (at : ℤ) → IsSplitRule integral box point column at → is_whole_at integral column ≡ true
rule_whole integral box None column at r = open_whole integral box column r.first.passes
rule_whole integral box (Some point) column at (inl r) = open_whole integral box column (and_parts (is_open_at integral box column) (is_fractional (value_at point column)) r.first.passes).0
rule_whole integral box (Some point) column at (inr r) = open_whole integral box column r.1.first.passes

by_some : (integral : List Bool) (own : Region) (point : Option (List ℚ)) (column : ℕ) (at : ℤ) → IsSplitBy integral own point column at → (last : Option (List ℚ)) × IsNodeRule integral own.box own.choices last column at
by_some integral own None column at r = r
by_some integral own (Some point) column at r = (Some point, r)

whole_there : (integral : List Bool) (column : ℕ) → is_whole_at integral column ≡ true → slice_get integral column ≡ Some true
whole_there [] column e = absurd (true≢false (sym e))
whole_there (w ∷ ws) zero e = ap Some e
whole_there (w ∷ ws) (suc column) e = whole_there ws column e

unallowed_open : (choice : Choice) (value : ℚ) → not (is_allowed choice value) ≡ true → is_open choice ≡ true
unallowed_open Plain value e = absurd (true≢false (sym e))
unallowed_open (Open own) value e = refl
unallowed_open Off value e = absurd (true≢false (sym e))
unallowed_open On value e = absurd (true≢false (sym e))

rule_open : (choices : List Choice) (point : Option (List ℚ)) (columns column : ℕ) → IsChoiceRule choices point columns column → is_open (choice_at choices column) ≡ true
rule_open choices None columns column r = r.passes
rule_open choices (Some point) columns column (inl r) = unallowed_open (choice_at choices column) (value_at point column) r.passes
rule_open choices (Some point) columns column (inr r) = r.1.passes

-- a region that was made of a program's by changes: where the program's column is plain so is its, and choices that are
-- open are the program's own
module _ (program : Program) (ids : ℕ) (own : Region) (formed : IsWellFormed program) (plain : (column : ℕ) → choice_at program.choices column ≡ Plain → choice_at own.choices column ≡ Plain) (still : AreStillOpen program.choices own.choices) (near : IsNearBox program ids own.box) where
  whole_place : (point : Option (List ℚ)) (column : ℕ) (at : ℤ) → IsSplitRule program.integral own.box point column at → IsWholePlace program.integral own (farthest ids + 1) column at
  whole_place point column at r =
      let w = rule_whole program.integral own.box point column at r in
      let there = whole_there program.integral column w in
      record {
        whole = there;
        plain = plain column (whole_plain (choice_at program.choices column) (slice_get program.integral column) (sides_at program.bounds column) (formed.choices column) there);
        both = leave_both program.integral own.box point column at (farthest ids) (omega arith) (near column w) r;
      }

  choice_place : (point : Option (List ℚ)) (column : ℕ) → IsChoiceRule own.choices point (length program.integral) column → IsChoicePlace program.integral own column
  choice_place point column r =
      let o = rule_open own.choices point (length program.integral) column r in
      record { continuous = still_continuous program own.choices column formed still o; open_ = o }

  node_place : (point : Option (List ℚ)) (column : ℕ) (at : ℤ) → IsNodeRule program.integral own.box own.choices point column at → IsSplitPlace program.integral own (farthest ids + 1) column at
  node_place point column at (inl r) = inl (whole_place point column at r)
  node_place point column at (inr r) = inr (choice_place point column r.first)

  pub rule_place : (point : Option (List ℚ)) (column : ℕ) (at : ℤ) → IsSplitBy program.integral own point column at → IsSplitPlace program.integral own (farthest ids + 1) column at
  rule_place point column at r = let (last, rule) = by_some program.integral own point column at r in node_place last column at rule

pub place_within : (integral : List Bool) (own : Region) (far column : ℕ) (at : ℤ) → IsSplitPlace integral own far column at → column < length integral
place_within integral own far column at (inl p) = slice_get_within integral column true p.whole
place_within integral own far column at (inr p) = slice_get_within integral column false p.continuous

-- the region in work, which is a node's, can be split by the rules
pub core_place : (core : CoreState) (node : TakenNode) (point : Option (List ℚ)) (column : ℕ) (at : ℤ) → IsWellFormed (reduced_of core) → IsTakenUp core node → core.tree.work ≡ region_of core.tree node → IsSplitBy (reduced_of core).integral core.tree.work point column at → IsSplitPlace (reduced_of core).integral (region_of core.tree node) (farthest core.tree.ids + 1) column at
core_place core node point column at formed up e r =
    rule_place (reduced_of core) core.tree.ids (region_of core.tree node) formed
    (λ k h. plain_stays (region_in core.tree.root) (node_changes core.tree node) k (ap (λ (n : Node). choice_at n.choices k) up.nodes.kept.root ∙ h))
    (work_node_of core node up).still_open
    (up.nodes.kept.near (shown core.tree node) (contains_here (shown core.tree node) core.tree.open_))
    point column at (subst (λ (r : Region). IsSplitBy (reduced_of core).integral r point column at) e r)

-- ---- the place that was chosen

module _ {R : Type 0} (col : R → ℕ) (at : R → ℤ) (result : Option R) (integral : List Bool) (work : Region) where
  -- by lists that are the region's
  pub placed : (whole : List Bool) (box : List Sides) (choices : List Choice) (point : Option (List ℚ)) → whole ≡ integral → box ≡ work.box → choices ≡ work.choices → MatchOption result (IsSettledBox whole box choices) (λ place. IsNodeRule whole box choices point (col place) (at place)) → MatchOption result (IsSettledBox integral work.box work.choices) (λ place. IsNodeRule integral work.box work.choices point (col place) (at place))
  placed whole box choices point w b k h =
      subst (λ (cs : List Choice). MatchOption result (IsSettledBox integral work.box cs) (λ place. IsNodeRule integral work.box cs point (col place) (at place))) k
      (subst (λ (ss : List Sides). MatchOption result (IsSettledBox integral ss choices) (λ place. IsNodeRule integral ss choices point (col place) (at place))) b
      (subst (λ (ws : List Bool). MatchOption result (IsSettledBox ws box choices) (λ place. IsNodeRule ws box choices point (col place) (at place))) w h))

  -- by the point of the region's linear program
  pub placed_by : (given : Option (List ℚ)) (point : List ℚ) → given ≡ Some point → MatchOption result (IsSettledBox integral work.box work.choices) (λ place. IsNodeRule integral work.box work.choices (Some point) (col place) (at place)) → MatchOption result (IsSettledBox integral work.box work.choices) (λ place. IsSplitBy integral work given (col place) (at place))
  placed_by given point e h =
      subst (λ (g : Option (List ℚ)). MatchOption result (IsSettledBox integral work.box work.choices) (λ place. IsSplitBy integral work g (col place) (at place))) (sym e) h

-- or by others, where it has none
pub placed_past : {R : Type 0} (col : R → ℕ) (at : R → ℤ) (result : Option R) (integral : List Bool) (work : Region) (last : Option (List ℚ)) → MatchOption result (IsSettledBox integral work.box work.choices) (λ place. IsNodeRule integral work.box work.choices last (col place) (at place)) → MatchOption result (IsSettledBox integral work.box work.choices) (λ place. IsSplitBy integral work None (col place) (at place))
placed_past col at None integral work last h = h
placed_past col at (Some place) integral work last h = (last, h)

-- a region isn't both settled and open
not_both : (integral : List Bool) (box : List Sides) (choices : List Choice) → IsOpenBox integral box choices → ¬ IsSettledBox integral box choices
not_both integral box choices (inl (column, first)) s = absurd (true≢false (sym first.passes ∙ s.no_two column first.within))
not_both integral box choices (inr (column, first)) s = absurd (true≢false (sym first.passes ∙ s.made column first.within))

pub not_settled : (integral : List Bool) (work region : Region) → work ≡ region → IsOpenBox integral region.box region.choices → ¬ IsSettledBox integral work.box work.choices
not_settled integral work region e o s = not_both integral region.box region.choices o (subst (λ (r : Region). IsSettledBox integral r.box r.choices) e s)
