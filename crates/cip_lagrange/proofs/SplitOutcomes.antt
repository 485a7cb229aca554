-- The outcome of a split, by those of its halves.
use Rattle.std.proofs.Common.{◌≡◌, ℕ, ◌+◌, ◌*◌, ◌^◌, ◌<◌, ◌≤◌, ℤ, Bool, true, false, List, length, Option, None, Some, Result, Ok, Err, Box, Global, sym, ap, ap₂, ◌∙◌}
use Rattle.std.specs.Prelude.{unsigned_abs}
use Rattle.std.proofs.lemmas.Bool.{ltb-true, leb-true, and_parts, false≢true}
use Rattle.cip_problem.specs.Program.{Sides, Choice, Plain, Open, Off, On}
use Rattle.cip_problem.specs.Choices.{choice_at, is_open}
use Rattle.cip_problem.specs.Log.{Node, low_node, high_node}
use Rattle.cip_cert.specs.declared.pricing.BoundTree.{BoundTree, Split}
use Rattle.cip_lagrange.specs.declared.answers.TreeBound.{TreeBound}
use Rattle.cip_lagrange.specs.declared.answers.TreeFault.{TreeFault}
use Rattle.cip_lagrange.specs.TreeOutcomes.{Asked, after, unless, can_split_at, can_split, split_fault, lesser_bound, tree_outcome}

module _ (asked : Asked) (number : ℕ) (tree : BoundTree) (column : ℕ) (at same : ℤ)
    (low high : Box BoundTree Global) (region : Node) (split : tree ≡ Split column at low high)
    (at_is : same ≡ at) where
  opened : tree_outcome asked number tree region
      ≡ unless (split_fault asked.integral number region column same)
      (after (tree_outcome asked (2 * number) low.value (low_node region column same))
      (λ below. after (tree_outcome asked (2 * number + 1) high.value (high_node region column same))
      (λ above. Ok (lesser_bound below above))))
  opened =
      ap (λ (t : BoundTree). tree_outcome asked number t region) split
      ∙ ap (λ (z : ℤ). unless (split_fault asked.integral number region column z)
      (after (tree_outcome asked (2 * number) low.value (low_node region column z))
      (λ below. after (tree_outcome asked (2 * number + 1) high.value (high_node region column z))
      (λ above. Ok (lesser_bound below above))))) (sym at_is)

  pub split_fails : (fault : TreeFault) → split_fault asked.integral number region column same ≡ Some fault
      → ◌≡◌ {A = Result TreeBound TreeFault} (Err fault) (tree_outcome asked number tree region)
  split_fails fault e =
      sym (opened ∙ ap (λ (f : Option TreeFault). unless f
      (after (tree_outcome asked (2 * number) low.value (low_node region column same))
      (λ below. after (tree_outcome asked (2 * number + 1) high.value (high_node region column same))
      (λ above. Ok (lesser_bound below above))))) e)

  module _ (none : split_fault asked.integral number region column same ≡ None) (first : BoundTree)
      (first_is : first ≡ low.value) where
    halves : tree_outcome asked number tree region
        ≡ after (tree_outcome asked (2 * number) first (low_node region column same))
        (λ below. after (tree_outcome asked (2 * number + 1) high.value (high_node region column same))
        (λ above. Ok (lesser_bound below above)))
    halves =
        opened ∙ ap₂ (λ (f : Option TreeFault) (t : BoundTree). unless f
        (after (tree_outcome asked (2 * number) t (low_node region column same))
        (λ below. after (tree_outcome asked (2 * number + 1) high.value (high_node region column same))
        (λ above. Ok (lesser_bound below above))))) none (sym first_is)

    pub low_fails : (fault : TreeFault)
        → Err fault ≡ tree_outcome asked (2 * number) first (low_node region column same)
        → ◌≡◌ {A = Result TreeBound TreeFault} (Err fault) (tree_outcome asked number tree region)
    low_fails fault e =
        ap (λ (r : Result TreeBound TreeFault). after r
        (λ below. after (tree_outcome asked (2 * number + 1) high.value (high_node region column same))
        (λ above. Ok (lesser_bound below above)))) e
        ∙ sym halves

    module _ (below : TreeBound) (shown : Ok below ≡ tree_outcome asked (2 * number) first
        (low_node region column same))
        (second : BoundTree) (second_is : second ≡ high.value) (room : ℕ) (room_is : room ≡ asked.room) (still : Node)
        (region_is : still ≡ region) where
      remaining : tree_outcome asked number tree region
          ≡ after (tree_outcome (record asked { room = room }) (2 * number + 1) second (high_node still column same))
          (λ above. Ok (lesser_bound below above))
      remaining =
          halves
          ∙ sym (ap (λ (r : Result TreeBound TreeFault). after r
          (λ below. after (tree_outcome asked (2 * number + 1) high.value (high_node region column same))
          (λ above. Ok (lesser_bound below above)))) shown)
          ∙ ap₂ (λ (t : BoundTree) (n : ℕ). after (tree_outcome (record asked { room = n }) (2 * number + 1) t
          (high_node region column same)) (λ above. Ok (lesser_bound below above))) (sym second_is) (sym room_is)
          ∙ ap (λ (n : Node). after (tree_outcome (record asked { room = room }) (2 * number + 1) second
          (high_node n column same)) (λ above. Ok (lesser_bound below above))) (sym region_is)

      pub high_fails : (fault : TreeFault)
          → Err fault
          ≡ tree_outcome (record asked { room = room }) (2 * number + 1) second (high_node still column same)
          → ◌≡◌ {A = Result TreeBound TreeFault} (Err fault) (tree_outcome asked number tree region)
      high_fails fault e =
          ap (λ (r : Result TreeBound TreeFault). after r (λ above. Ok (lesser_bound below above))) e ∙ sym remaining

      pub both_shown : (above : TreeBound)
          → Ok above
          ≡ tree_outcome (record asked { room = room }) (2 * number + 1) second (high_node still column same)
          → (bound : TreeBound) → bound ≡ lesser_bound below above
          → ◌≡◌ {A = Result TreeBound TreeFault} (Ok bound) (tree_outcome asked number tree region)
      both_shown above e bound b =
          ap (λ (t : TreeBound). (let r : Result TreeBound TreeFault = Ok t in r)) b
          ∙ ap (λ (r : Result TreeBound TreeFault). after r (λ above. Ok (lesser_bound below above))) e ∙ sym remaining

-- ---- which splits can be made

near_if : (choice : Choice) (whole : Bool) (sides : Sides) (at : ℤ) → can_split_at choice whole sides at ≡ true
    → is_open choice ≡ false → unsigned_abs at ≤ 2 ^ 101
near_if Plain whole sides at e f =
    leb-true (unsigned_abs at) (2 ^ 101) (and_parts _ _ (and_parts _ _ e).1).0
near_if (Open own) whole sides at e f = absurd (false≢true (sym f))
near_if Off whole sides at e f = absurd (false≢true e)
near_if On whole sides at e f = absurd (false≢true e)

-- a column that can be split is one of the box, and the number isn't too far from 0 unless its choice is open
pub split_inside : (integral : List Bool) (node : Node) (column : ℕ) (at : ℤ)
    → can_split integral node column at ≡ true → column < length node.box
split_inside integral node column at e = ltb-true column (length node.box) (and_parts _ _ e).0

pub split_near : (integral : List Bool) (node : Node) (column : ℕ) (at : ℤ)
    → can_split integral node column at ≡ true → is_open (choice_at node.choices column) ≡ false
    → unsigned_abs at ≤ 2 ^ 101
split_near integral node column at e f =
    near_if (choice_at node.choices column) _ _ at (and_parts _ _ e).1 f
