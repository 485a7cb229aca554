-- The search cover, its steps, and what it says.
use Rattle.std.proofs.Common.{◌≡◌, ℕ, zero, suc, ℤ, false, List, [], ◌∷◌, ◌++◌, Option, None, Some, IfSome, Contains, refl, sym, ◌∙◌, subst, arith, slice_get, inl, inr, ◌⊎◌}
use Rattle.std.specs.List.Sorted.{IsPermutation}
use Rattle.std.proofs.lemmas.Option.{none-some, same_Some}
use Rattle.std.proofs.lemmas.List.Elements.{Contains-append_left, Contains-append_right, Contains-append_cases}
use Rattle.std.proofs.lemmas.List.Sorted.{Contains-permutation, IsPermutation-sym}
use Rattle.cip_rational.specs.Rational.{ℚ, ◌≤ℚ◌}
use Rattle.cip_rational.proofs.Rational.Order.{≤ℚ_trans, le_or_lt}
use Rattle.cip_problem.specs.Program.{Sides, Program}
use Rattle.cip_problem.specs.WellFormed.{IsWellFormed}
use Rattle.cip_problem.specs.Box.{IsInBox}
use Rattle.cip_problem.specs.BoxBound.{box_bound}
use Rattle.cip_problem.specs.Points.{IsFeasible, cost_of, IsLowerBound}
use Rattle.cip_problem.specs.Choices.{choice_at, AreStillOpen}
use Rattle.cip_problem.specs.Log.{Node, root, low_node, high_node, CanSplitAt, matters}
use Rattle.cip_problem.proofs.BoxBound.BelowCosts.{root_bound_holds}
use Rattle.cip_problem.proofs.Log.Given.{keeps_now}
use Rattle.cip_problem.proofs.Log.Halves as halves
use Rattle.cip_problem.specs.Improving.{IsImproving, HoldsInBox, IsBoundIn, HasNoImproving, IsNoDearer}
use Rattle.cip_problem.specs.Cover.{IsInOneOf, IsBounded, IsCover, IsReplacedBy, HasBoundFrom}
use Rattle.cip_problem.proofs.Improving.{fewer, holds_later}
use Rattle.cip_problem.proofs.Emptiness.{closed_by_bound}
use Rattle.cip_problem.proofs.Log.Entering.{contains_here, contains_cons, contains_later}

-- ---- which nodes a list holds

pub none_of_nothing : {X : Type 0} (x : X) → ¬ Contains [] x
none_of_nothing x h = absurd (omega (arith, h.1))

pub the_only : {X : Type 0} (y x : X) → Contains (y ∷ []) x → y ≡ x
the_only y x (zero, h, k) = k
the_only y x (suc j, h, k) = absurd (omega (arith, h))

one_of_two : {X : Type 0} (y z x : X) → Contains (y ∷ z ∷ []) x → (y ≡ x) ⊎ (z ≡ x)
one_of_two y z x (zero, h, k) = inl k
one_of_two y z x (suc zero, h, k) = inr k
one_of_two y z x (suc (suc j), h, k) = absurd (omega (arith, h))

in_first : (node : Node) (nodes : List Node) (point : List ℚ) → IsInBox node.box point → IsInOneOf (node ∷ nodes) point
in_first node nodes point w = record { node = node; among = contains_here node nodes; within = w }

in_second : (first second : Node) (point : List ℚ) → IsInBox second.box point → IsInOneOf (first ∷ second ∷ []) point
in_second first second point w = record { node = second; among = contains_later first second (second ∷ []) (contains_here second []); within = w }

-- ---- how a cover goes on

bounded_later : (program : Program) (now before : Option ℚ) (box : List Sides) (bound : Option ℚ) → IsNoDearer now before → IfSome bound (IsBoundIn program before box) → IfSome bound (IsBoundIn program now box)
bounded_later program now before box None h k = tt
bounded_later program now before box (Some b) h k = holds_later program now before box (λ point. b ≤ℚ cost_of program point) h k

pub cover_later : (program : Program) (now before : Option ℚ) (nodes : List Node) → IsNoDearer now before → IsCover program before nodes → IsCover program now nodes
cover_later program now before nodes h k = record {
  reached = λ point i. k.reached point (fewer program now before point h i);
  bounded = λ node c. bounded_later program now before node.box node.bound h (k.bounded node c);
}

pub cover_reordered : (program : Program) (held : Option ℚ) (nodes others : List Node) → IsPermutation nodes others → IsCover program held nodes → IsCover program held others
cover_reordered program held nodes others p k = record {
  reached = λ point i. let r = k.reached point i in record { node = r.node; among = Contains-permutation nodes others r.node p r.among; within = r.within };
  bounded = λ node c. k.bounded node (Contains-permutation others nodes node (IsPermutation-sym nodes others p) c);
}

root_bounded : (program : Program) (held : Option ℚ) (bound : Option ℚ) → IsWellFormed program → box_bound program program.bounds ≡ bound → IfSome bound (IsBoundIn program held program.bounds)
root_bounded program held None formed e = tt
root_bounded program held (Some b) formed e = λ point i w. root_bound_holds program b formed e point i.feasible

pub cover_start : (program : Program) (held : Option ℚ) → IsWellFormed program → IsCover program held (root program ∷ [])
cover_start program held formed = record {
  reached = λ point i. in_first (root program) [] point i.feasible.within;
  bounded = λ node c. subst (λ n. IsBounded program held n) (the_only (root program) node c) (root_bounded program held (box_bound program program.bounds) formed refl);
}

module _ (program : Program) (held : Option ℚ) (node : Node) (others news : List Node) (r : IsReplacedBy program held node news) (c : IsCover program held (node ∷ others)) where
  replaced : (point : List ℚ) → IsImproving program held point → (at : Node) → IsInBox at.box point → (node ≡ at) ⊎ Contains others at → IsInOneOf (news ++ others) point
  replaced point i at w (inl e) =
      let k = r.reached point i (subst (λ n. IsInBox n.box point) (sym e) w) in
      record { node = k.node; among = Contains-append_left news others k.node k.among; within = k.within }
  replaced point i at w (inr k) = record { node = at; among = Contains-append_right news others at k; within = w }

  still_bounded : (at : Node) → Contains news at ⊎ Contains others at → IsBounded program held at
  still_bounded at (inl k) = r.bounded (c.bounded node (contains_here node others)) at k
  still_bounded at (inr k) = c.bounded at (contains_later node at others k)

  pub cover_step : IsCover program held (news ++ others)
  cover_step = record {
    reached = λ point i. let k = c.reached point i in replaced point i k.node k.within (contains_cons node k.node others k.among);
    bounded = λ at k. still_bounded at (Contains-append_cases news others at k);
  }

-- ---- how a node is replaced

pub replaced_by_none : (program : Program) (held : Option ℚ) (node : Node) → HasNoImproving program held node.box → IsReplacedBy program held node []
replaced_by_none program held node h = record {
  reached = λ point i w. absurd (h point i w);
  bounded = λ b other c. absurd (none_of_nothing other c);
}

pub pruned : (program : Program) (held : Option ℚ) (node : Node) → IsBounded program held node → matters held node.bound ≡ false → IsReplacedBy program held node []
pruned program held node h e = replaced_by_none program held node (closed_by_bound program held node.box node.bound h e)

pub changed : (program : Program) (held : Option ℚ) (node other : Node) → HoldsInBox program held node.box (IsInBox other.box) → (IsBounded program held node → IsBounded program held other) → IsReplacedBy program held node (other ∷ [])
changed program held node other h f = record {
  reached = λ point i w. in_first other [] point (h point i w);
  bounded = λ b at c. subst (λ n. IsBounded program held n) (the_only other at c) (f b);
}

in_a_half : (low high : Node) (a b : List Sides) (point : List ℚ) → low.box ≡ a → high.box ≡ b → IsInBox a point ⊎ IsInBox b point → IsInOneOf (low ∷ high ∷ []) point
in_a_half low high a b point e f (inl h) = in_first low (high ∷ []) point (subst (λ box. IsInBox box point) (sym e) h)
in_a_half low high a b point e f (inr h) = in_second low high point (subst (λ box. IsInBox box point) (sym f) h)

either_bounded : (program : Program) (held : Option ℚ) (low high at : Node) → IsBounded program held low × IsBounded program held high → (low ≡ at) ⊎ (high ≡ at) → IsBounded program held at
either_bounded program held low high at h (inl e) = subst (λ n. IsBounded program held n) e h.0
either_bounded program held low high at h (inr e) = subst (λ n. IsBounded program held n) e h.1

pub split : (program : Program) (held : Option ℚ) (node low high : Node) (column : ℕ) (at : ℤ) → CanSplitAt (choice_at node.choices column) (slice_get program.integral column) → AreStillOpen program.choices node.choices → low.box ≡ (low_node node column at).box → high.box ≡ (high_node node column at).box → (IsBounded program held node → IsBounded program held low × IsBounded program held high) → IsReplacedBy program held node (low ∷ high ∷ [])
split program held node low high column at e s a b f = record {
  reached = λ point i w. in_a_half low high _ _ point a b (halves.halves_cover program.integral node column at point w i.feasible.whole (keeps_now program.choices node.choices point s i.feasible.choices) e);
  bounded = λ h other c. either_bounded program held low high other (f h) (one_of_two low high other c);
}

-- ---- what a cover says

no_improving : (program : Program) (held : Option ℚ) (point : List ℚ) → IsCover program held [] → ¬ IsImproving program held point
no_improving program held point c i = let r = c.reached point i in none_of_nothing r.node r.among

pub nothing_cheaper : (program : Program) (cost : ℚ) → IsCover program (Some cost) [] → IsLowerBound program cost
nothing_cheaper program cost c point h = elim (le_or_lt cost (cost_of program point)) [
  | inl l ↦ l
  | inr l ↦ absurd (no_improving program (Some cost) point c (record { feasible = h; cheaper = l }))
]

pub no_point : (program : Program) (point : List ℚ) → IsCover program None [] → ¬ IsFeasible program point
no_point program point c h = no_improving program None point c (record { feasible = h; cheaper = tt })

node_bound : (program : Program) (held : Option ℚ) (b : ℚ) (node : Node) (bound : Option ℚ) (point : List ℚ) → node.bound ≡ bound → HasBoundFrom b node → IfSome bound (IsBoundIn program held node.box) → IsImproving program held point → IsInBox node.box point → b ≤ℚ cost_of program point
node_bound program held b node None point e h k i w = absurd (none-some h.bound (sym e ∙ h.is_bound))
node_bound program held b node (Some c) point e h k i w =
    let same : c ≡ h.bound = same_Some c h.bound (sym e ∙ h.is_bound) in
    ≤ℚ_trans h.from (subst (λ t. t ≤ℚ cost_of program point) same (k point i w))

improving_bound : (program : Program) (held : Option ℚ) (nodes : List Node) (b : ℚ) → IsCover program held nodes → ((node : Node) → Contains nodes node → HasBoundFrom b node) → (point : List ℚ) → IsImproving program held point → b ≤ℚ cost_of program point
improving_bound program held nodes b c f point i =
    let r = c.reached point i in
    node_bound program held b r.node r.node.bound point refl (f r.node r.among) (c.bounded r.node r.among) i r.within

pub cover_bound : (program : Program) (held : Option ℚ) (nodes : List Node) (b : ℚ) → IsCover program held nodes → IfSome held (λ cost. b ≤ℚ cost) → ((node : Node) → Contains nodes node → HasBoundFrom b node) → IsLowerBound program b
cover_bound program None nodes b c h f point k = improving_bound program None nodes b c f point (record { feasible = k; cheaper = tt })
cover_bound program (Some cost) nodes b c h f point k = elim (le_or_lt cost (cost_of program point)) [
  | inl l ↦ ≤ℚ_trans h l
  | inr l ↦ improving_bound program (Some cost) nodes b c f point (record { feasible = k; cheaper = l })
]
