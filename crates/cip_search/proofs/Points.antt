-- Points and their leaves.
use Rattle.std.proofs.Common.{◌≡◌, Bool, true, false, List, [], ◌∷◌, length, All, refl, sym, ap, ◌∙◌, subst, arith}
use Rattle.std.proofs.lemmas.List.Elements.{All-head, All-tail}
use Rattle.cip_rational.specs.Rational.{ℚ}
use Rattle.cip_problem.specs.Program.{Sides, Program}
use Rattle.cip_problem.specs.Box.{IsInBox}
use Rattle.cip_problem.specs.Points.{AreWhole, IsFeasible}
use Rattle.cip_problem.specs.Choices.{decided}
use Rattle.cip_problem.specs.Log.{Node}
use Rattle.cip_problem.specs.Statements.{IsNodeOf}
use Rattle.cip_problem.proofs.Choices.Decided.{made}
use Rattle.cip_problem.proofs.Points.AtPlaces.{IsInBox-long}
use Rattle.cip_search.specs.Leaf.{at_wholes, IsLeafIn, IsPointOf, IsOnlyLeaf, Leaf, IsPointOfLeaf, IsOnlyLeafOf}
use Rattle.cip_search.specs.LeafStatements.{HasLeaf}

-- the whole values of a point of a box are a leaf of it
pub own_leaf : (integral : List Bool) (box : List Sides) (point : List ℚ) → IsInBox box point → AreWhole integral point → IsLeafIn integral box (at_wholes integral point)
own_leaf [] box point h k = tt
own_leaf (w ∷ ws) [] [] h k = tt
own_leaf (w ∷ ws) [] (v ∷ vs) h k = absurd h
own_leaf (w ∷ ws) (s ∷ ss) [] h k = absurd h
own_leaf (true ∷ ws) (s ∷ ss) (v ∷ vs) h k = (record { between = h.0; whole = k.0 refl }, own_leaf ws ss vs h.1 k.1)
own_leaf (false ∷ ws) (s ∷ ss) (v ∷ vs) h k = own_leaf ws ss vs h.1 k.1

-- a feasible point has a leaf
pub feasible_leaf : (program : Program) (point : List ℚ) → IsFeasible program point → HasLeaf program point
feasible_leaf program point f =
    let d = made program point f in
    record {
      leaf = record { values = at_wholes program.integral point; on = d.on };
      is_leaf = record { each = d.each; values = own_leaf program.integral (decided program d.on).bounds point d.feasible.within d.feasible.whole };
      is_point = record { feasible = d.feasible; values = refl };
    }

-- in a box with one whole assignment there is one leaf
pub only_leaf : (integral : List Bool) (box : List Sides) (leaf point : List ℚ) → IsOnlyLeaf integral box leaf → IsInBox box point → AreWhole integral point → at_wholes integral point ≡ leaf
only_leaf integral box leaf point only h k = only.only (at_wholes integral point) (own_leaf integral box point h k)

-- in the box of a node with one leaf each feasible point has that leaf
pub only_leaf_of : (program : Program) (node : Node) (leaf : Leaf) (point : List ℚ) → IsNodeOf program node → IsOnlyLeafOf program node leaf → IsInBox node.box point → IsFeasible program point → IsPointOfLeaf program leaf point
only_leaf_of program node leaf point n only h f = record {
  feasible = record {
    within = subst (λ on. IsInBox (decided program on).bounds point) (sym only.on) (n.made only.made point h);
    whole = f.whole;
    choices = λ column. tt;
    rows = f.rows;
  };
  values = only_leaf program.integral node.box leaf.values point only.values h f.whole;
}

-- where every column is whole nothing is left out
pub all_wholes : {X : Type 0} (integral : List Bool) (entries : List X) → All (λ whole. whole ≡ true) integral → length entries ≡ length integral → at_wholes integral entries ≡ entries
all_wholes [] [] h e = refl
all_wholes [] (x ∷ xs) h e = absurd (omega (arith, e))
all_wholes (w ∷ ws) [] h e = refl
all_wholes (true ∷ ws) (x ∷ xs) h e =
    ap (λ t. x ∷ t) (all_wholes ws xs (All-tail (λ whole. whole ≡ true) true ws h) (omega (arith, e)))
all_wholes (false ∷ ws) (x ∷ xs) h e = let f : false ≡ true = All-head (λ whole. whole ≡ true) false ws h in absurd (cc)

-- a leaf without continuous columns has no point but its values
pub whole_leaf : (program : Program) (leaf point : List ℚ) → All (λ whole. whole ≡ true) program.integral → length program.integral ≡ length program.bounds → IsPointOf program leaf point → point ≡ leaf
whole_leaf program leaf point h e p =
    sym (all_wholes program.integral point h (IsInBox-long program.bounds point p.feasible.within ∙ sym e)) ∙ p.values
