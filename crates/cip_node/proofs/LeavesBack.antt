-- A leaf of the reduced program comes back as one of the program as read.
use Rattle.std.proofs.Common.{◌≡◌, ℕ, zero, suc, Bool, true, false, List, [], ◌∷◌, length, All, Some, Result, Ok, Err, slice_get, refl, sym, ap, ◌∙◌, subst, arith, true≢false}
use Rattle.std.specs.Prelude.{IfOk}
use Rattle.std.specs.List.{AllZip}
use Rattle.std.proofs.lemmas.List.Elements.{All-head, All-tail}
use Rattle.std.proofs.lemmas.Option.{same_Some, none-some}
use Rattle.cip_rational.specs.Rational.{ℚ}
use Rattle.cip_rational.specs.Range.{fits_range}
use Rattle.cip_problem.specs.Program.{Sides, Choice, Plain, Open, Off, On, Program}
use Rattle.cip_problem.specs.Activity.{value_at}
use Rattle.cip_problem.specs.Log.{Node}
use Rattle.cip_problem.specs.Box.{sides_at}
use Rattle.cip_problem.specs.Choices.{AreMade, open_count, made_on}
use Rattle.cip_problem.specs.WellFormed.{IsWellFormed}
use Rattle.cip_problem.proofs.Choices.Decided.{length-made_on}
use Rattle.cip_search.specs.Leaf.{at_wholes, IsWholeBetween, IsLeafIn, IsLeaf, IsOnlyLeaf, Leaf, IsLeafOf}
use Rattle.cip_search.proofs.Returning.{length-with_wholes}
use Rattle.cip_core.specs.Pairs.{IsWholeIn, IsAssignment, own_sides}
use Rattle.cip_core.specs.WholeParts.{with_wholes}
use Rattle.cip_core.specs.StepsBack.{StepsTaken, point_back, whole_point, leaf_back}
use Rattle.cip_core.specs.CoreStates.{CoreState, IsReducedBy}
use Rattle.cip_core.specs.Later.{IsLater}
use Rattle.cip_node.specs.LeavesBack.{leaf_read, IsOnlyLeafBack}
use Rattle.cip_node.specs.LeafValues.{least_values}
use Rattle.cip_node.specs.SolvedLeaves.{HasOneLeaf}
use Rattle.cip_node.proofs.MadeChoices.{all_made, wholes_stay, only_there}
use Rattle.cip_node.proofs.OneLeaf.{only_leaf_of, wider_leaf}

-- ---- whole values that are put at their places

placed_in : (integral : List Bool) (box : List Sides) (values : List ℚ) (column : ℕ) → length box ≡ length integral → IsLeafIn integral box values → All (λ (v : ℚ). fits_range v ≡ true) values → slice_get integral column ≡ Some true → IsWholeIn (sides_at box column) (value_at (with_wholes integral values) column)
placed_in [] box values column e l f h = absurd (none-some true h)
placed_in (w ∷ ws) [] values column e l f h = absurd (omega (arith, e))
placed_in (true ∷ ws) (s ∷ ss) [] column e l f h = absurd l
placed_in (true ∷ ws) (s ∷ ss) (v ∷ vs) zero e l f h = record { whole = l.0.whole; in_range = All-head (λ (v : ℚ). fits_range v ≡ true) v vs f; between = l.0.between }
placed_in (true ∷ ws) (s ∷ ss) (v ∷ vs) (suc column) e l f h = placed_in ws ss vs column (omega (arith, e)) l.1 (All-tail (λ (v : ℚ). fits_range v ≡ true) v vs f) h
placed_in (false ∷ ws) (s ∷ ss) values zero e l f h = absurd (true≢false (sym (same_Some false true h)))
placed_in (false ∷ ws) (s ∷ ss) values (suc column) e l f h = placed_in ws ss values column (omega (arith, e)) l f h

-- a leaf in range is an assignment
pub leaf_assigned : (reduced : Program) (wholes : List Bool) (values : List ℚ) → IsWellFormed reduced → wholes ≡ reduced.integral → IsLeaf reduced values → All (λ (v : ℚ). fits_range v ≡ true) values → IsAssignment reduced (with_wholes wholes values)
leaf_assigned reduced wholes values formed e l f =
    subst (λ (ws : List Bool). IsAssignment reduced (with_wholes ws values)) (sym e) (record {
      long = length-with_wholes reduced.integral values ∙ formed.integral ∙ sym formed.bounds;
      values = λ column h. placed_in reduced.integral reduced.bounds values column (formed.bounds ∙ sym formed.integral) l f h;
    })

-- ---- whole values of an assignment

assigned_in : (integral : List Bool) (box : List Sides) (point : List ℚ) → length point ≡ length integral → length box ≡ length integral → ((column : ℕ) → slice_get integral column ≡ Some true → IsWholeIn (sides_at box column) (value_at point column)) → IsLeafIn integral box (at_wholes integral point)
assigned_in [] box point d e f = tt
assigned_in (w ∷ ws) [] point d e f = absurd (omega (arith, e))
assigned_in (w ∷ ws) (s ∷ ss) [] d e f = absurd (omega (arith, d))
assigned_in (true ∷ ws) (s ∷ ss) (v ∷ vs) d e f = (record { between = (f 0 refl).between; whole = (f 0 refl).whole }, assigned_in ws ss vs (omega (arith, d)) (omega (arith, e)) (λ column. f (suc column)))
assigned_in (false ∷ ws) (s ∷ ss) (v ∷ vs) d e f = assigned_in ws ss vs (omega (arith, d)) (omega (arith, e)) (λ column. f (suc column))

-- they are a leaf
assigned_leaf : (program : Program) (wholes : List Bool) (point : List ℚ) → IsWellFormed program → wholes ≡ program.integral → IsAssignment program point → IsLeaf program (at_wholes wholes point)
assigned_leaf program wholes point formed e a =
    subst (λ (ws : List Bool). IsLeaf program (at_wholes ws point)) (sym e)
    (assigned_in program.integral program.bounds point (a.long ∙ formed.bounds ∙ sym formed.integral) (formed.bounds ∙ sym formed.integral) a.values)

-- ---- semi-continuous columns

count_own : (choices : List Choice) → open_count choices ≡ length (own_sides choices)
count_own [] = refl
count_own (Plain ∷ cs) = count_own cs
count_own (Open own ∷ cs) = ap (λ n. suc n) (count_own cs)
count_own (Off ∷ cs) = count_own cs
count_own (On ∷ cs) = count_own cs

-- ---- a leaf

abbrev pub the_leaf : List ℚ → List Bool → Leaf
the_leaf values on = record { values = values; on = on }

-- whole values of the reduced program, which are an assignment, and the choices of a node come back as a leaf
leaf_comes_back : (program reduced : Program) (steps : StepsTaken) (now : List Choice) (left : Leaf) → IsWellFormed program → IsReducedBy program reduced steps → left.on ≡ made_on reduced.choices now → IsAssignment reduced (whole_point steps left.values) → IsLeafOf program (leaf_read steps left)
leaf_comes_back program reduced steps now left formed back e a = record {
  each = ap length e ∙ length-made_on reduced.choices now ∙ count_own reduced.choices ∙ ap length (sym back.pair.semi.own) ∙ sym (count_own program.choices);
  values = subst (λ sides. AllZip IsWholeBetween sides (leaf_back steps left.values)) (sym (wholes_stay program.choices program.integral program.bounds left.on formed.choices))
      (assigned_leaf program steps.whole (point_back steps (whole_point steps left.values)) formed back.whole (back.pair.assigned (whole_point steps left.values) a));
}

-- the least whole values of a box, and the choices there
module _ (program reduced : Program) (steps : StepsTaken) (box : List Sides) (now : List Choice) (values : List ℚ) (on : List Bool) (formed : IsWellFormed program) (inner : IsWellFormed reduced) (one : HasOneLeaf reduced box now) (back : IsReducedBy program reduced steps) (assigned : IsAssignment reduced (whole_point steps (least_values reduced.integral box))) (v : values ≡ leaf_back steps (least_values reduced.integral box)) (o : on ≡ made_on reduced.choices now) where
  abbrev left : Leaf
  left = the_leaf (least_values reduced.integral box) on

  as_read : the_leaf values on ≡ leaf_read steps left
  as_read = ap (λ (vs : List ℚ). the_leaf vs on) v

  pub leaf_there : IsLeafOf program (the_leaf values on)
  leaf_there = subst (λ (l : Leaf). IsLeafOf program l) (sym as_read) (leaf_comes_back program reduced steps now left formed back o assigned)

  pub one_leaf_back : (node : Node) → node.box ≡ box → node.choices ≡ now → IsOnlyLeafBack program reduced steps node (the_leaf values on)
  one_leaf_back node b h = record {
    left = left;
    only = only_there reduced node left (subst (λ (l : List Choice). AreMade l) (sym h) (all_made reduced now inner one.still_open one.settled.made)) (o ∙ ap (made_on reduced.choices) (sym h))
        (subst (λ (l : List Sides). IsOnlyLeaf reduced.integral l (least_values reduced.integral box)) (sym b) (only_leaf_of reduced.integral box one.wholes one.settled.no_two));
    is = as_read;
    is_leaf = leaf_there;
  }

-- the least whole values of such a box are a leaf of the program
pub least_leaf : (reduced : Program) (box : List Sides) (now : List Choice) → HasOneLeaf reduced box now → IsLeaf reduced (least_values reduced.integral box)
least_leaf reduced box now one = wider_leaf reduced.integral box reduced.bounds (least_values reduced.integral box) one.within (only_leaf_of reduced.integral box one.wholes one.settled.no_two).is_leaf

-- the programs and the way back stay
pub back_later : (old new : CoreState) (node : Node) (leaf : Leaf) → IsLater old new → IsOnlyLeafBack old.program old.reduced old.steps node leaf → IsOnlyLeafBack new.program new.reduced new.steps node leaf
back_later old new node leaf l h =
    subst (λ p. IsOnlyLeafBack p new.reduced new.steps node leaf) (sym l.program)
    (subst (λ r. IsOnlyLeafBack old.program r new.steps node leaf) (sym l.reduced)
    (subst (λ s. IsOnlyLeafBack old.program old.reduced s node leaf) (sym l.steps) h))

-- what holds holds where a result is there
pub whenever : {A E : Type 0} (result : Result A E) (Fact : Type 0) → Fact → IfOk result (λ value. Fact)
whenever (Ok value) Fact h = h
whenever (Err error) Fact h = tt
