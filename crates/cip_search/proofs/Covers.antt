-- What a cover says.
use Rattle.std.proofs.Common.{inl, inr, List, Option, None, Some, IfSome, refl}
use Rattle.cip_rational.specs.Rational.{ℚ, ◌≤ℚ◌, ◌<ℚ◌}
use Rattle.cip_rational.proofs.Rational.Order.{≤ℚ_trans, le_or_lt}
use Rattle.cip_problem.specs.Program.{Program}
use Rattle.cip_problem.specs.Points.{IsFeasible, cost_of, IsLowerBound}
use Rattle.cip_problem.specs.Log.{Entry}
use Rattle.cip_problem.specs.Improving.{IsImproving}
use Rattle.cip_problem.proofs.Emptiness.{bounded_at}
use Rattle.cip_search.specs.Searched.{OpenMatters, ParkedMatters, NoMore, IsOneOf, IsLeast, IsInOpen, IsInParked, IsCovered, AreTrueEntries}
use Rattle.cip_search.specs.Wide.{IsWide}
use Rattle.cip_search.specs.LeafStatements.{HasWideLeafAt}
use Rattle.cip_search.proofs.Bounds.{matters_at}

-- a bound that is no more than one below a cost is below the cost
no_more_below : (b : ℚ) (bound : Option ℚ) (cost : ℚ) → NoMore (Some b) bound → IfSome bound (λ c. c ≤ℚ cost) → b ≤ℚ cost
no_more_below b None cost h k = absurd h
no_more_below b (Some c) cost h k = ≤ℚ_trans h k

module _ (program : Program) (start : Option ℚ) (log : List Entry) (held : Option ℚ) (point : List ℚ) (cover : IsCovered program start log held) (i : IsImproving program held point) where
  -- an improving point in an open node, or in a parked leaf, makes it matter
  open_matters : IsInOpen program start log point → OpenMatters program start log held
  open_matters o = record {
    node = o.node;
    left = o.left;
    matter = matters_at program held o.node.bound point i (bounded_at program held o.node.bound o.node.box point (cover.open_bounds o.node o.left) i o.within);
  }

  parked_matters : IsInParked program start log point → ParkedMatters log held
  parked_matters o = record {
    entry = o.entry;
    among = o.leaf.among;
    parked = o.leaf.parked;
    matter = matters_at program held o.entry.bound point i (bounded_at program held o.entry.bound o.node.box point (cover.parked_bounds o.entry o.node o.leaf) i o.within);
  }

  -- where no node and no leaf matters there is no improving point
  none_left : ¬ OpenMatters program start log held → ¬ ParkedMatters log held → ⊥
  none_left no_open no_parked = elim (cover.reached point i) [
    | inl o ↦ no_open (open_matters o)
    | inr o ↦ no_parked (parked_matters o)
  ]

  -- a bound no more than those of all is no more than the cost
  below : (b : ℚ) → ((other : Option ℚ) → IsOneOf program start log held other → NoMore (Some b) other) → b ≤ℚ cost_of program point
  below b least = elim (cover.reached point i) [
    | inl o ↦ no_more_below b o.node.bound (cost_of program point)
        (least o.node.bound (inr (inl (record { node = o.node; left = o.left; is_bound = refl }))))
        (bounded_at program held o.node.bound o.node.box point (cover.open_bounds o.node o.left) i o.within)
    | inr o ↦ no_more_below b o.entry.bound (cost_of program point)
        (least o.entry.bound (inr (inr (record { entry = o.entry; among = o.leaf.among; parked = o.leaf.parked; is_bound = refl }))))
        (bounded_at program held o.entry.bound o.node.box point (cover.parked_bounds o.entry o.node o.leaf) i o.within)
  ]

  wide_here : AreTrueEntries program IsWide start log held → ¬ OpenMatters program start log held → HasWideLeafAt program point
  wide_here true_entries no_open = elim (cover.reached point i) [
    | inl o ↦ absurd (no_open (open_matters o))
    | inr o ↦
        let leaf = (true_entries o.entry o.node o.leaf.among o.leaf.given).parked o.leaf.parked in
        record { leaf = leaf.leaf; has = leaf.leads point i o.within; wide = leaf.wide }
  ]

-- a point that costs less than the cost held improves
improves : (program : Program) (cost : ℚ) (point : List ℚ) → IsFeasible program point → cost_of program point <ℚ cost → IsImproving program (Some cost) point
improves program cost point f l = record { feasible = f; cheaper = l }

improves_none : (program : Program) (point : List ℚ) → IsFeasible program point → IsImproving program None point
improves_none program point f = record { feasible = f; cheaper = tt }

pub nothing_cheaper : (program : Program) (start : Option ℚ) (log : List Entry) (cost : ℚ) → IsCovered program start log (Some cost) → ¬ OpenMatters program start log (Some cost) → ¬ ParkedMatters log (Some cost) → IsLowerBound program cost
nothing_cheaper program start log cost cover no_open no_parked = λ point f. elim (le_or_lt cost (cost_of program point)) [
  | inl l ↦ l
  | inr l ↦ absurd (none_left program start log (Some cost) point cover (improves program cost point f l) no_open no_parked)
]

pub no_point : (program : Program) (start : Option ℚ) (log : List Entry) → IsCovered program start log None → ¬ OpenMatters program start log None → ¬ ParkedMatters log None → (point : List ℚ) → ¬ IsFeasible program point
no_point program start log cover no_open no_parked point f =
    none_left program start log None point cover (improves_none program point f) no_open no_parked

bound_for : (program : Program) (start : Option ℚ) (log : List Entry) (held : Option ℚ) (b : ℚ) → IsCovered program start log held → ((other : Option ℚ) → IsOneOf program start log held other → NoMore (Some b) other) → IsLowerBound program b
bound_for program start log None b cover least = λ point f. below program start log None point cover (improves_none program point f) b least
bound_for program start log (Some cost) b cover least = λ point f. elim (le_or_lt cost (cost_of program point)) [
  | inl l ↦ ≤ℚ_trans (least (Some cost) (inl (record { cost = cost; is_held = refl; is_bound = refl }))) l
  | inr l ↦ below program start log (Some cost) point cover (improves program cost point f l) b least
]

pub bound_holds : (program : Program) (start : Option ℚ) (log : List Entry) (held : Option ℚ) (b : ℚ) → IsCovered program start log held → IsLeast program start log held (Some b) → IsLowerBound program b
bound_holds program start log held b cover l = bound_for program start log held b cover l.least

pub wide_leaf : (program : Program) (start : Option ℚ) (log : List Entry) (held : Option ℚ) (point : List ℚ) → IsCovered program start log held → AreTrueEntries program IsWide start log held → ¬ OpenMatters program start log held → IsImproving program held point → HasWideLeafAt program point
wide_leaf program start log held point cover true_entries no_open i = wide_here program start log held point cover i true_entries no_open
