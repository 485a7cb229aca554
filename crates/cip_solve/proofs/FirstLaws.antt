-- Behind which nodes the gap that was asked for wasn't reached.
use Rattle.std.proofs.Common.{◌≡◌, ◌⊎◌, ℕ, zero, suc, ◌+◌, ◌<◌, ◌≤◌, true, false, Bool, true≢false, not, is_some, List, [], ◌++◌, length, take, Option, None, Some, MatchOption, inl, inr, sym, ap, ◌∙◌, arith}
use Rattle.std.proofs.lemmas.List.{take_all}
use Rattle.cip_rational.specs.Rational.{ℚ}
use Rattle.cip_problem.specs.Program.{Program}
use Rattle.cip_problem.specs.Log.{Entry}
use Rattle.cip_incumbent.specs.HeldPoint.{Holding}
use Rattle.cip_tree.specs.Moves as tree
use Rattle.cip_tree.specs.Nodes.{Nodes}
use Rattle.cip_search.specs.SearchState.{WayBack}
use Rattle.cip_solve.specs.KeptNodes.{cost_held}
use Rattle.cip_endings.specs.LeastBounds.{least_of, bound_held, flat}
use Rattle.cip_endings.specs.Gaps.{reaches_gap}
use Rattle.cip_endings.specs.Worst.{worst_bound}
use Rattle.cip_endings.specs.declared.worst.Worst.{Worst}
use Rattle.cip_solve.specs.FirstStops.{IsLongerLog, IsFirstStop}
use Rattle.cip_solve.specs.Searching.{IsStill, ReachesGapAt, WasShortAt, WasShort}
use Rattle.cip_solve.proofs.LeastBounds.{same_least}
use Rattle.cip_solve.proofs.OpenBounds.{held_there, least_there}

-- no gap was asked for
pub none_asked : (asked : Option ℚ) (none : Bool) (tree_ : Nodes) (holding : Holding) → is_some asked ≡ not none → none ≡ true → ReachesGapAt asked tree_ holding → ⊥
none_asked None none tree_ holding e f near = true≢false (sym near.reached)
none_asked (Some gap) none tree_ holding e f near = true≢false (e ∙ ap not f)

-- it isn't reached by the bound that was found
pub far_there : (program reduced : Program) (way : WayBack) (start : Option ℚ) (asked : Option ℚ) (tree_ : Nodes) (holding : Holding) (worst : Option Worst) (waiting : Option (Option ℚ)) (bound : Option ℚ) → IsStill program reduced way start tree_ holding worst → MatchOption waiting (tree_.open_ ≡ []) (λ b. tree.IsLeastBound b tree_.open_) → bound ≡ flat (least_of (bound_held (cost_held holding)) (least_of waiting (worst_bound worst))) → reaches_gap asked (cost_held holding) bound ≡ false → ReachesGapAt asked tree_ holding → ⊥
far_there program reduced way start asked tree_ holding worst waiting bound k m e f near =
    let held = cost_held holding in
    let l = least_there program reduced way tree_ holding worst waiting bound (held_there asked held near.bound near.reached) k.is_worst m e in
    true≢false (sym (ap (reaches_gap asked held) (same_least held (tree_.open_ ++ tree_.parked) bound near.bound l near.least) ∙ near.reached) ∙ f)

-- logs that grow
pub same_log_longer : (old new : List Entry) → new ≡ old → IsLongerLog old new
same_log_longer old new e = λ n h. ap (take n) e

module _ (program reduced : Program) (way : WayBack) (start asked : Option ℚ) where
  -- what is so behind a front part of a log is so where entries are added
  pub short_on : (old new : List Entry) → IsLongerLog old new → (n : ℕ) → n ≤ length old → WasShortAt program reduced way start asked old n → WasShortAt program reduced way start asked new n
  short_on old new f n h s = record {
    tree = s.tree;
    holding = s.holding;
    worst = s.worst;
    still = s.still;
    logged = s.logged ∙ sym (f n h);
    short = s.short;
  }

  -- behind no node but the last, where a turn stopped
  pub first_stop : (old new : List Entry) → IsLongerLog old new → length new ≤ length old + 1 → ((n : ℕ) → 0 < n → n ≤ length old → WasShortAt program reduced way start asked old n) → WasShort program reduced way start asked new
  first_stop old new f h s = λ n p l.
      let b : n ≤ length old = omega (arith, l, h) in
      short_on old new f n b (s n p b)

  -- one node more, behind which it isn't reached
  pub short_more : (old : List Entry) (tree_ : Nodes) (holding : Holding) (worst : Option Worst) → IsLongerLog old tree_.log → length tree_.log ≡ length old + 1 → IsStill program reduced way start tree_ holding worst → (ReachesGapAt asked tree_ holding → ⊥) → ((n : ℕ) → 0 < n → n ≤ length old → WasShortAt program reduced way start asked old n) → (n : ℕ) → 0 < n → n ≤ length tree_.log → WasShortAt program reduced way start asked tree_.log n
  short_more old tree_ holding worst f e k r s n p h = elim (le_or_next n (length old) (omega (arith, h, e))) [
    | inl few ↦ short_on old tree_.log f n few (s n p few)
    | inr same ↦ record {
      tree = tree_;
      holding = holding;
      worst = worst;
      still = k;
      logged = sym (take_all n tree_.log (omega (arith, same, e)));
      short = r;
    }
  ]
    where
      le_or_next : (n m : ℕ) → n ≤ m + 1 → (n ≤ m) ⊎ (n ≡ m + 1)
      le_or_next zero m h = inl (omega (arith))
      le_or_next (suc n) zero h = inr (omega (arith, h))
      le_or_next (suc n) (suc m) h = elim (le_or_next n m (omega (arith, h))) [
        | inl b ↦ inl (omega (arith, b))
        | inr e ↦ inr (omega (arith, e))
      ]

  -- nothing was logged yet
  pub none_short : (log : List Entry) → log ≡ [] → (n : ℕ) → 0 < n → n ≤ length log → WasShortAt program reduced way start asked log n
  none_short log e n p h = absurd (omega (arith, p, h, ap length e))

pub first_of_none : (program : Program) (start asked : Option ℚ) → IsFirstStop program start asked []
first_of_none program start asked = λ n p l. absurd (omega (arith, p, l))
