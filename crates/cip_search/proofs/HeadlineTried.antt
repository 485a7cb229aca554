-- The definitions tried on programs.
use Rattle.std.proofs.Common.{◌≡◌, inl, inr, ℕ, List, [], ◌∷◌, None, Some, refl, sym, ap, ◌∙◌, subst, arith}
use Rattle.std.specs.List.{Contains}
use Rattle.cip_rational.specs.Rational.{ℚ, ◌+ℚ◌, ◌*ℚ◌, integer, whole, ratio, negate, numerator, denominator, le_test, lt_test, zeroℚ, oneℚ, ◌≤ℚ◌, ◌<ℚ◌}
use Rattle.cip_rational.specs.Sums.{dot}
use Rattle.cip_rational.specs.Gcd.{gcd}
use Rattle.cip_rational.proofs.Linear.{linear_le}
use Rattle.cip_rational.proofs.Rational.Order.{not_le_of_lt, ≤ℚ_of_lt, ≤ℚ_refl}
use Rattle.cip_rational.proofs.Rational.Whole.{IsWhole-zero}
use Rattle.cip_rational.proofs.Rational.Ring.{+ℚ_assoc, zero-+ℚ, *ℚ-zero, *ℚ-one}
use Rattle.cip_problem.specs.Points.{IsFeasible, cost_of}
use Rattle.cip_problem.specs.Log.{Parked, Entry, Node, node_of}
use Rattle.cip_search.specs.LinearProgram.{LinearProgram, moved}
use Rattle.cip_problem.proofs.Rays.{ray_cost}
use Rattle.cip_search.specs.Leaf.{IsLeafIn}
use Rattle.cip_search.specs.Wide.{InRow, InCost}
use Rattle.cip_search.specs.Searched.{first_node, nodes_given, OpenMatters, NoMore, IsFirstLeast, LeadsTo}
use Rattle.cip_search.proofs.Points.{only_leaf_of}
use Rattle.cip_problem.proofs.Log.Given.{node_of_log}
use Rattle.cip_problem.proofs.Log.Entering.{contains_here, contains_cons}
use Rattle.cip_problem.proofs.Covers.{none_of_nothing}
use Rattle.cip_search.proofs.OneMore.{node_of_among}
use Rattle.cip_search.specs.WideLeaf.{Shown, AtPlace, AfterMoves, IsWideBy}
use Rattle.cip_search.specs.LeafProgramExamples.{steep, endless}
use Rattle.cip_search.proofs.LeafProgramsTried as leaves
use Rattle.cip_search.specs.Figures.{AtMoves, Held}
use Rattle.cip_search.specs.Headline.{IsEndless, ShowsOverflow, overflow_at}
use Rattle.cip_search.specs.HeadlineExamples.{at_zeros, along, up, down, root_parked, no_choices, Examples}

-- ---- the ray

gone : (far : ℚ) → moved (zeroℚ ∷ zeroℚ ∷ []) far up ≡ zeroℚ ∷ far ∷ []
gone far =
    let a : zeroℚ +ℚ far *ℚ zeroℚ ≡ zeroℚ = zero-+ℚ (far *ℚ zeroℚ) ∙ *ℚ-zero far in
    let b : zeroℚ +ℚ far *ℚ oneℚ ≡ far = zero-+ℚ (far *ℚ oneℚ) ∙ *ℚ-one far in
    pair a b
  where
    pair : {a b c d : ℚ} → a ≡ c → b ≡ d → a ∷ b ∷ [] ≡ c ∷ d ∷ []
    pair e f = cc

kept : (far : ℚ) → zeroℚ ≤ℚ far → IsFeasible endless (zeroℚ ∷ far ∷ [])
kept far p = record {
  within = (record { above = linear_le [] (λ s w. omega arith); below = linear_le [] (λ s w. omega arith) }, (record { above = p; below = tt }, tt));
  whole = (λ e. IsWhole-zero, (λ e. absurd (cc), tt));
  choices = λ column. tt;
  rows = tt;
}

-- the columns of the program as a linear program
abbrev columns : LinearProgram
columns = record { rows = []; bounds = endless.bounds; costs = endless.costs }

cost_gone : (far : ℚ) → cost_of endless (moved (zeroℚ ∷ zeroℚ ∷ []) far up) ≡ cost_of endless (zeroℚ ∷ zeroℚ ∷ []) +ℚ far *ℚ dot endless.costs up
cost_gone far =
    ap (λ t. zeroℚ +ℚ t) (ray_cost columns (zeroℚ ∷ zeroℚ ∷ []) up far)
    ∙ sym (+ℚ_assoc zeroℚ (dot endless.costs (zeroℚ ∷ zeroℚ ∷ [])) (far *ℚ dot endless.costs up))

falls : dot endless.costs up <ℚ zeroℚ
unfolding ratio integer whole zeroℚ oneℚ ◌+ℚ◌ ◌*ℚ◌ negate numerator denominator le_test lt_test gcd
falls = record { lt = tt }

rises : zeroℚ <ℚ dot endless.costs down
unfolding ratio integer whole zeroℚ oneℚ ◌+ℚ◌ ◌*ℚ◌ negate numerator denominator le_test lt_test gcd
rises = record { lt = tt }

endless_up : IsEndless endless (along up (Some at_zeros)) up
endless_up = record {
  shown = record {
    held = at_zeros;
    is_held = refl;
    falls = record { points = λ far p. subst (IsFeasible endless) (sym (gone far)) (kept far p); cost = cost_gone; falls = falls };
  };
  no_bound = refl;
}

-- ---- the wide leaf

by_moves : (by : Shown) (number : ℕ) → AtMoves number ≡ overflow_at steep.row_names by → by ≡ AfterMoves number
by_moves (AtPlace (InRow n)) number e = absurd (cc)
by_moves (AtPlace InCost) number e = absurd (cc)
by_moves (AfterMoves n) number e = let f : number ≡ n = cc in sym (ap AfterMoves f)

only_root : (number : ℕ) (node : Node) → node_of (nodes_given steep (Some zeroℚ) root_parked) number ≡ Some node → number ≡ 0
only_root number node e =
    let among = node_of_among (first_node steep (Some zeroℚ) ∷ []) number node e in
    elim (contains_cons (first_node steep (Some zeroℚ)) node [] among.0) [
      | inl same ↦ sym among.1 ∙ sym (ap (λ (n : Node). n.number) same)
      | inr more ↦ absurd (none_of_nothing node more)
    ]

root_taken : Contains {X = ℕ} (0 ∷ []) 0
root_taken = contains_here 0 []

none_open : ¬ OpenMatters steep (Some zeroℚ) root_parked None
none_open o = o.left.not_taken (subst (Contains {X = ℕ} (0 ∷ [])) (sym (only_root o.node.number o.node o.left.given)) root_taken)

abbrev root_entry : Entry
root_entry = record { node = 0; bound = Some zeroℚ; end = Parked }

abbrev IsNoDearerThan : Entry → Type 0
IsNoDearerThan other = NoMore (Some zeroℚ) other.bound

no_dearer : (other : Entry) → Contains root_parked other → IsNoDearerThan other
no_dearer other c = elim (contains_cons root_entry other [] c) [
  | inl e ↦ subst IsNoDearerThan e (≤ℚ_refl zeroℚ)
  | inr d ↦ absurd (none_of_nothing other d)
]

chosen : IsFirstLeast root_parked root_entry
chosen = record {
  before = [];
  after = [];
  placed = refl;
  parked = refl;
  least = λ other c p. no_dearer other c;
  first = λ other c p. absurd (none_of_nothing other c);
}

one_leaf : (leaf : List ℚ) → IsLeafIn steep.integral steep.bounds leaf → leaf ≡ []
one_leaf [] h = refl
one_leaf (value ∷ values) h = absurd h

-- each feasible point is one of the leaf of no values and no choices
leads_here : LeadsTo steep None (first_node steep (Some zeroℚ)) no_choices
leads_here point i w = record {
  point = point;
  is_point = only_leaf_of steep (first_node steep (Some zeroℚ)) no_choices point (node_of_log steep (Some zeroℚ) [] 0 (first_node steep (Some zeroℚ)) tt refl)
      (record { made = λ column. refl; on = refl; values = record { is_leaf = tt; only = one_leaf } }) w i.feasible;
  no_dearer = ≤ℚ_refl (cost_of steep point);
}

by_one_move : ShowsOverflow steep (Some zeroℚ) root_parked None no_choices (AtMoves 1)
by_one_move = record {
  none_open = none_open;
  matter = record { entry = root_entry; among = contains_here root_entry []; parked = refl; matter = refl };
  by = AfterMoves 1;
  is_printed = refl;
  shown = record {
    entry = root_entry;
    node = first_node steep (Some zeroℚ);
    chosen = chosen;
    given = refl;
    leads = leads_here;
    is_leaf = record { each = refl; values = tt };
    wide = leaves.examples.wide;
  };
}

not_by_two : ¬ ShowsOverflow steep (Some zeroℚ) root_parked None no_choices (AtMoves 2)
not_by_two h = leaves.examples.not_two (subst (IsWideBy steep []) (by_moves h.by 2 h.is_printed) h.shown.wide)

root_open : OpenMatters steep (Some zeroℚ) [] None
root_open = record {
  node = first_node steep (Some zeroℚ);
  left = record { given = refl; not_taken = λ c. none_of_nothing 0 c };
  matter = refl;
}

no_point : {held : Held} → None ≡ Some held → ⊥
no_point e = cc

pub examples : Examples
examples = record {
  endless_up = endless_up;
  not_down = λ h. not_le_of_lt rises (≤ℚ_of_lt h.shown.falls.falls);
  not_without_point = λ h. no_point h.shown.is_held;
  by_one_move = by_one_move;
  not_by_two = not_by_two;
  not_before = λ h. h.none_open root_open;
}
