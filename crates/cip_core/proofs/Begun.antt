-- A search begins with its root.
use Rattle.std.proofs.Common.{◌≡◌, ℕ, ◌^◌, Bool, true, false, List, [], ◌∷◌, Option, None, Some, IfSome, Result, Ok, Err, IfOk, refl, sym, ap, ◌∙◌, subst, arith}
use Rattle.std.specs.Prelude.{option_map, MatchBool}
use Rattle.cip_rational.specs.Rational.{ℚ, ◌≤ℚ◌}
use Rattle.cip_problem.specs.Program.{Program}
use Rattle.cip_problem.specs.Box.{sides_at}
use Rattle.cip_problem.specs.BoxBound.{box_bound}
use Rattle.cip_problem.specs.WellFormed.{IsWellFormed}
use Rattle.cip_problem.specs.Log.{Entry, Node}
use Rattle.cip_problem.proofs.BoxBound.BelowCosts.{root_bound_holds}
use Rattle.cip_problem.specs.Cuts.{HasWholeCosts}
use Rattle.cip_problem.specs.Improving.{IsBoundIn}
use Rattle.cip_problem.proofs.Covers.{the_only}
use Rattle.cip_search.specs.WideLeaf.{IsWideLeaf}
use Rattle.cip_lin.specs.declared.outcomes.Least.{Least}
use Rattle.cip_lin.specs.declared.outcomes.Least.TheVariants.{Value, NoBound, Wide}
use Rattle.cip_model.specs.Least.{least_cost_from}
use Rattle.cip_model.specs.Meaning.{BoundHolds}
use Rattle.cip_search.specs.Searched.{first_node}
use Rattle.cip_search.specs.SearchState.{IsWayBack, HasGivenBoxes}
use Rattle.cip_search.proofs.Kept as searching
use Rattle.cip_search.proofs.AsGiven as giving
use Rattle.cip_search.proofs.GivenBoxes as boxing
use Rattle.cip_presolve.specs.StepsBack.{StepsTaken, point_back, way_back}
use Rattle.cip_tree.specs.Nodes.{Nodes}
use Rattle.cip_tree.specs.Moves.{IsNew}
use Rattle.cip_node_rules.specs.RootBounds.{least_value, rounded_if}
use Rattle.cip_core.specs.Beginning.{root_value, IsRootBound, AreNearColumns}
use Rattle.cip_core.specs.Entering.{own_region}
use Rattle.cip_core.specs.KeptNodes.{farthest, state_of, IsNearBox, IsKept}
use Rattle.cip_core.proofs.KeptSteps.{no_farther}
use Rattle.cip_core.proofs.Rounded.{rounded_holds}
use Rattle.cip_domain.specs.Changes.{Region}

-- ---- sides that are near

near_box : (program : Program) → AreNearColumns program → IsNearBox program 1 program.bounds
near_box program h = λ column w. no_farther (2 ^ 100) (farthest 1) (sides_at program.bounds column) (omega arith) (h column w)

-- ---- the root's bound

pub value_holds : (program : Program) (least : Least) (whole : Bool) → IsWellFormed program → (whole ≡ true → HasWholeCosts program) → BoundHolds (box_bound program program.bounds) least → IfSome (option_map (rounded_if whole) (least_value least)) (IsBoundIn program None program.bounds)
value_holds program (Value v) whole formed w h = rounded_holds program None program.bounds v whole w (λ point i b. root_bound_holds program v formed h point i.feasible)
value_holds program NoBound whole formed w h = tt
value_holds program Wide whole formed w h = tt

pub when_true : {A : Type 0} (whole : Bool) → MatchBool whole A (¬ A) → whole ≡ true → A
when_true true m e = m
when_true false m e = absurd (cc)

unrounded : (o : Option ℚ) → option_map (rounded_if false) o ≡ o
unrounded None = refl
unrounded (Some b) = refl

root_case : (program : Program) (whole : Bool) (start : Option ℚ) → MatchBool whole (HasWholeCosts program) (¬ HasWholeCosts program) → start ≡ option_map (rounded_if whole) (root_value program) → IsRootBound program start
root_case program true start m e = record { whole = λ w. e; plain = λ n. absurd (n m) }
root_case program false start m e = record { whole = λ w. absurd (m w); plain = λ n. e ∙ unrounded (root_value program) }

pub root_is : (program : Program) (least : Least) (whole : Bool) (start : Option ℚ) → MatchBool whole (HasWholeCosts program) (¬ HasWholeCosts program) → least ≡ least_cost_from program.constant program.costs program.bounds → start ≡ option_map (rounded_if whole) (least_value least) → IsRootBound program start
root_is program least whole start m l e = root_case program whole start m (e ∙ ap (λ t. option_map (rounded_if whole) (least_value t)) l)

-- ---- the search

-- what is answered as Ok
pub if_ok : {A E : Type 0} (P Q : A → Type 0) (r : Result A E) → ((a : A) → P a → Q a) → IfOk r P → IfOk r Q
if_ok P Q (Ok a) f h = f a h
if_ok P Q (Err e) f h = tt

-- a bound below the costs of a program's points is one below those of the reduced program's
module _ (program reduced : Program) (steps : StepsTaken) (back : IsWayBack program reduced (way_back steps)) where
  comes_down : (bound : ℚ) → IsBoundIn program None program.bounds bound → IsBoundIn reduced None reduced.bounds bound
  comes_down bound h point i within =
      let relaxed = back.reduction.relaxed point (record { within = i.feasible.within; rows = i.feasible.rows }) in
      subst (λ c. bound ≤ℚ c) (back.reduction.cost point (record { within = i.feasible.within; rows = i.feasible.rows }))
      (h (point_back steps point) (record { feasible = back.reduction.feasible point i.feasible; cheaper = tt }) relaxed.within)

  pub holds_reduced : (start : Option ℚ) → IfSome start (IsBoundIn program None program.bounds) → IfSome start (IsBoundIn reduced None reduced.bounds)
  holds_reduced None h = tt
  holds_reduced (Some bound) h = comes_down bound h

-- a new tree is the root alone
module _ (program reduced : Program) (steps : StepsTaken) (tree : Nodes) (start : Option ℚ) (new : IsNew tree (own_region reduced) reduced.integral start) where
  first : Node
  first = first_node reduced start

  made : Node → List Bool → List Node → List Node → ℕ → List Entry → Nodes
  made root integral open_ parked ids log = record { root = root; integral = integral; open_ = open_; parked = parked; taken = tree.taken; ids = ids; log = log; work = tree.work }

  is_tree : tree ≡ made (first_node reduced start) reduced.integral (first_node reduced start ∷ []) [] 1 []
  unfolding first made
  is_tree =
      ap (λ r. made r tree.integral tree.open_ tree.parked tree.ids tree.log) new.root
      ∙ ap (λ i. made first i tree.open_ tree.parked tree.ids tree.log) new.integral_is
      ∙ ap (λ o. made first reduced.integral o tree.parked tree.ids tree.log) (new.open_ ∙ ap (λ r. r ∷ []) new.root)
      ∙ ap (λ p. made first reduced.integral (first ∷ []) p tree.ids tree.log) new.parked
      ∙ ap (λ n. made first reduced.integral (first ∷ []) [] n tree.log) new.ids
      ∙ ap (λ l. made first reduced.integral (first ∷ []) [] 1 l) new.log

  pub begun : AreNearColumns reduced → IsWayBack program reduced (way_back steps) → IfSome start (IsBoundIn program None program.bounds) → IsKept program reduced (way_back steps) tree None []
  unfolding made
  begun near back holds =
      subst (λ t. IsKept program reduced (way_back steps) t None []) (sym is_tree) (record {
        searched = searching.begun program reduced (way_back steps) IsWideLeaf start None back tt (holds_reduced program reduced steps back start holds);
        as_given = giving.begun reduced start None;
        root = refl;
        integral = refl;
        near = λ node c. subst (λ (n : Node). IsNearBox reduced 1 n.box) (the_only (first_node reduced start) node c) (near_box reduced near);
      })

  pub begun_boxes : HasGivenBoxes reduced tree.root.bound (state_of tree None [])
  unfolding made
  begun_boxes = subst (λ (t : Nodes). HasGivenBoxes reduced t.root.bound (state_of t None [])) (sym is_tree) (boxing.begun reduced start None)

-- the bound of a new tree's root is the one given
bound_there : (tree : Nodes) (region : Region) (integral : List Bool) (start : Option ℚ) → IsNew tree region integral start → start ≡ tree.root.bound
bound_there tree region integral start n = sym (ap (λ (r : Node). r.bound) n.root)

pub new_there : (tree : Nodes) (root region : Region) (whole integral : List Bool) (start : Option ℚ) → root ≡ region → whole ≡ integral → IsNew tree root whole start → IsNew tree region integral tree.root.bound
new_there tree root region whole integral start r w n =
    subst (IsNew tree region integral) (bound_there tree root whole start n)
    (subst (λ b. IsNew tree b integral start) r (subst (λ i. IsNew tree root i start) w n))

pub root_there : (program : Program) (tree : Nodes) (root : Region) (whole : List Bool) (start : Option ℚ) → IsRootBound program start → IsNew tree root whole start → IsRootBound program tree.root.bound
root_there program tree root whole start b n = subst (IsRootBound program) (bound_there tree root whole start n) b
