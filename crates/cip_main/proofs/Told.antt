-- What is left of a search tells the bound, and whether there is a point.
use Rattle.std.proofs.Common.{◌≡◌, inl, inr, ℕ, List, [], ◌∷◌, Option, None, Some, sym, ap, ◌∙◌, subst}
use Rattle.std.specs.Prelude.{option_map}
use Rattle.std.specs.List.{Contains}
use Rattle.cip_rational.specs.Rational.{ℚ}
use Rattle.cip_problem.specs.Program.{Program}
use Rattle.cip_problem.specs.Points.{printed}
use Rattle.cip_problem.specs.Log.{Closed, Parked, Entry, Node, node_of}
use Rattle.cip_problem.proofs.Log.Entering.{contains_here, contains_cons}
use Rattle.cip_problem.proofs.Covers.{none_of_nothing}
use Rattle.cip_search.specs.Searched.{first_node, nodes_given, IsLeast, IsCovered, IsInOpen, IsInParked}
use Rattle.cip_search.proofs.OneMore.{node_of_among}
use Rattle.cip_search.specs.Headline.{cost_of_printed}
use Rattle.cip_main.specs.Statements.{BoundsAreTold, root_closed, PointsAreTold}
use Rattle.cip_solve.proofs.LeastBounds.{no_more_both}

one_least : (program : Program) (start : Option ℚ) (log : List Entry) (held b c : Option ℚ) → IsLeast program start log held b → IsLeast program start log held c → b ≡ c
one_least program start log held b c l k = no_more_both b c (l.least c k.one) (k.least b l.one)

pub bounds_are_told : BoundsAreTold
bounds_are_told program start log figures other a b e n m =
    let l = a.least n.feasible n.no_ray in
    let k = b.least m.feasible m.no_ray in
    let is_least : IsLeast program start log (cost_of_printed program figures.held) k.bound = subst (λ held. IsLeast program start log (cost_of_printed program held) k.bound) (sym e) k.is_least in
    l.is_printed ∙ (ap (option_map (printed program)) (one_least program start log (cost_of_printed program figures.held) l.bound k.bound l.is_least is_least) ∙ sym k.is_printed)

-- ---- the root, closed

only_root : (program : Program) (start bound : Option ℚ) (number : ℕ) (node : Node) → node_of (nodes_given program start (root_closed bound)) number ≡ Some node → number ≡ 0
only_root program start bound number node e =
    let among = node_of_among (first_node program start ∷ []) number node e in
    elim (contains_cons (first_node program start) node [] among.0) [
      | inl same ↦ sym among.1 ∙ sym (ap (λ (n : Node). n.number) same)
      | inr more ↦ absurd (none_of_nothing node more)
    ]

none_open : (program : Program) (start bound : Option ℚ) (point : List ℚ) → ¬ IsInOpen program start (root_closed bound) point
none_open program start bound point o =
    o.left.not_taken (subst (Contains {X = ℕ} (0 ∷ [])) (sym (only_root program start bound o.node.number o.node o.left.given)) (contains_here 0 []))

not_parked : (bound : Option ℚ) (entry : Entry) → Contains (root_closed bound) entry → entry.end ≡ Parked → ⊥
not_parked bound entry c p = elim (contains_cons _ entry [] c) [
  | inl same ↦ apart (ap (λ (e : Entry). e.end) same ∙ p)
  | inr more ↦ absurd (none_of_nothing entry more)
]
  where
    apart : Closed ≡ Parked → ⊥
    apart e = cc

none_parked : (program : Program) (start bound : Option ℚ) (point : List ℚ) → ¬ IsInParked program start (root_closed bound) point
none_parked program start bound point p = not_parked bound p.entry p.leaf.among p.leaf.parked

pub points_are_told : PointsAreTold
points_are_told program start bound figures point f n t e =
    let cover : IsCovered program start (root_closed bound) None = subst (λ held. IsCovered program start (root_closed bound) (cost_of_printed program held)) e (t.cover n) in
    elim (cover.reached point (record { feasible = f; cheaper = tt })) [
      | inl o ↦ none_open program start bound point o
      | inr p ↦ none_parked program start bound point p
    ]
