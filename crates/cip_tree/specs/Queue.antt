-- The order in which open nodes are taken.
use Rattle.std.specs.Prelude.{◌≡◌, ℕ, ◌≤◌, Bool, true, List, Option, None, Some, All, Contains, refl, if◌then◌else◌}
use Rattle.std.specs.Cmp.{IsTotalOrder, IsEquivalence, IsPartialEquivalence, IsPartialOrder, partial_equiv_from_equiv, partial_order_from_total, eq_by_cmp_equiv, on_total, then_total, back_total, nat_cmp_total}
use Rattle.std.specs.Cmp.Lexicographic.{options_total}
use Rattle.std.specs.Option.{option_cmp}
use Rattle.std.specs.Ordering.{nat_cmp, ordering_then, eq_by_cmp, as_partial_cmp}
use Rattle.std.specs.declared.cmp.Ordering.{Ordering}
use Rattle.std.specs.Coded.{Coded, code_by, coded×, coded_ℕ, coded_list, coded_option}
use Rattle.std.specs.BinaryHeap.{IsHeap}
use Rattle.cip_rational.specs.Rational.{ℚ, coded_ℚ, compare_rational, lt_test}
use Rattle.cip_rational.proofs.Rational.Compare.{compare_total}
use Rattle.cip_tree.specs.Bounds.{IsBoundAtMost}
use Rattle.cip_tree.specs.declared.queue.OpenNode.{OpenNode}

-- the node that is taken first is the greater one
abbrev pub order : OpenNode → OpenNode → Ordering
order x y = ordering_then (option_cmp compare_rational y.bound x.bound) (nat_cmp y.id x.id)

pub order_total : IsTotalOrder order
order_total =
    back_total (then_total (on_total (λ e. e.bound) (options_total compare_total)) (on_total (λ e. e.id) nat_cmp_total))

pub order_equivalence : IsEquivalence (eq_by_cmp order)
order_equivalence = eq_by_cmp_equiv order_total

pub order_partial_equivalence : IsPartialEquivalence (eq_by_cmp order)
order_partial_equivalence = partial_equiv_from_equiv order_equivalence

pub order_partial : IsPartialOrder (eq_by_cmp order) (as_partial_cmp order)
order_partial = partial_order_from_total order_total

-- a node is taken before another
pub record ComesFirst (node other : OpenNode) : Type 0 where
  pub bounds : IsBoundAtMost node.bound other.bound
  pub ids : node.bound ≡ other.bound → node.id ≤ other.id

-- and before all of these
abbrev pub IsFirst : OpenNode → List OpenNode → Type 0
IsFirst node others = All (ComesFirst node) others

-- a bound is below a cost, as it is where there is none
abbrev pub bound_below : ℚ → Option ℚ → Bool
bound_below cost None = true
bound_below cost (Some bound) = lt_test bound cost

-- so is the bound of a node
abbrev pub is_below : ℚ → OpenNode → Bool
is_below cost node = bound_below cost node.bound

-- the greater of two bounds, where none is less than each that is there
abbrev pub greater_bound : Option ℚ → Option ℚ → Option ℚ
greater_bound None bound = bound
greater_bound (Some a) None = Some a
greater_bound (Some a) (Some b) = if lt_test a b then Some b else Some a

-- open nodes, in no order, and for how many more there is room
pub record Waiting : Type 0 where
  pub nodes : List OpenNode
  pub spare : ℕ

-- bound, id and place
abbrev open_code : Coded OpenNode
open_code =
    code_by (Option ℚ × (ℕ × ℕ)) (coded× (coded_option coded_ℚ) (coded× coded_ℕ coded_ℕ))
    (λ e. (e.bound, (e.id, e.place))) (λ p. record { bound = p.0; id = p.1.0; place = p.1.1 }) (λ _. refl)

abbrev pub waiting_code : Coded Waiting
waiting_code =
    code_by (List OpenNode × ℕ) (coded× (coded_list open_code) coded_ℕ)
    (λ w. (w.nodes, w.spare)) (λ p. record { nodes = p.0; spare = p.1 }) (λ _. refl)

-- the nodes are a heap, and none has a bound above the greatest
pub record IsQueue (nodes : List OpenNode) (most : Option ℚ) : Type 0 where
  pub heap : IsHeap order nodes
  pub most_is : All (λ node. IsBoundAtMost node.bound most) nodes

-- a bound is the least of the nodes' bounds
pub record IsLeast (bound : Option ℚ) (nodes : List OpenNode) : Type 0 where
  pub node : OpenNode
  pub among : Contains nodes node
  pub is : bound ≡ node.bound
  pub least : All (λ other. IsBoundAtMost bound other.bound) nodes
