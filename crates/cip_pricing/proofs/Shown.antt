-- What multipliers and prices show.
use Rattle.std.proofs.Common.{◌≡◌, ℕ, List, [], ◌∷◌, length, Option, None, Some, sym, ◌∙◌, arith}
use Rattle.cip_rational.specs.Rational.{ℚ, ◌+ℚ◌, ◌-ℚ◌, zeroℚ, ◌≤ℚ◌, ◌<ℚ◌}
use Rattle.cip_rational.specs.Sums.{dot}
use Rattle.cip_rational.proofs.Rational.Order.{≤ℚ_refl, not_le_of_lt}
use Rattle.cip_rational.proofs.Rational.Monotone.{+ℚ_mono}
use Rattle.cip_rational.proofs.Linear.{linear_le}
use Rattle.cip_problem.specs.Program.{Sides, Program}
use Rattle.cip_problem.specs.Activity.{value_at}
use Rattle.cip_problem.specs.Box.{IsInBox}
use Rattle.cip_problem.specs.BoxBound.{least_costs}
use Rattle.cip_problem.specs.Points.{IsFeasible, cost_of}
use Rattle.cip_problem.proofs.BoxBound.BelowCosts.{least_costs_hold}
use Rattle.cip_pricing.specs.Decomposition.{Decomposition, picked, IsDecomposed, master_rows, IsBlockPoint}
use Rattle.cip_pricing.specs.Mixtures.{Held, IsPointAmong, IsMixture, MeetsMaster}
use Rattle.cip_pricing.specs.LeastCosts.{side_total, row_total, AreRests, sum_below, price_total, ArePrices, ShowsLeast}
use Rattle.cip_pricing.proofs.Picked.{length_picked, block_part, meets_master}
use Rattle.cip_pricing.proofs.Parts.{sum_below_mono, dot_parts}
use Rattle.cip_pricing.proofs.Mixing.{convex_low, feasible_mixture}
use Rattle.cip_pricing.proofs.Rests.{sides_hold}

added_up : (least sides free prices parts rests costs rows : ℚ) → least ≤ℚ (sides +ℚ free) +ℚ prices
    → prices ≤ℚ parts → rests ≡ free +ℚ parts → rests ≡ costs -ℚ rows → sides ≤ℚ rows → least ≤ℚ costs
added_up least sides free prices parts rests costs rows h k e f l =
    linear_le (least ∷ sides ∷ free ∷ prices ∷ parts ∷ rests ∷ costs ∷ rows ∷ [])
    (λ s w. omega (arith, s.le_out, s.same_out))

pub least_shown : (program : Program) (blocks : Decomposition) (box : List Sides) (among : Option (List Held))
    (costs ys prices point : List ℚ) (least : ℚ) → IsDecomposed program blocks
    → ShowsLeast program blocks box among costs ys prices least → IsMixture program blocks box among point
    → MeetsMaster program blocks point → least ≤ℚ dot costs point
least_shown program blocks box among costs ys prices point least d s m h =
    let part : ℕ → ℚ = λ k. dot (picked (Some k) blocks.columns s.rests) (picked (Some k) blocks.columns point) in
    added_up least s.sides (dot (picked None blocks.columns s.rests) (picked None blocks.columns point))
    (price_total blocks prices) (sum_below blocks.count part) (dot s.rests point) (dot costs point)
    (row_total ys (master_rows program blocks) point)
    (s.free (picked None blocks.columns point) m.free)
    (sum_below_mono blocks.count (value_at prices) part
    (λ k l. convex_low (IsPointAmong program blocks box among k) (picked (Some k) blocks.columns s.rests)
    (picked (Some k) blocks.columns point) (value_at prices k) (m.convex k l) (λ p q. s.priced k p l q)))
    (dot_parts blocks.count blocks.columns s.rests point d.column_owners (omega (arith, s.are_rests.long)))
    (s.are_rests.form point)
    (sides_hold ys (master_rows program blocks) point s.sides h s.side_sum)

pub none_shown : (program : Program) (blocks : Decomposition) (box : List Sides) (among : Option (List Held))
    (ys prices point : List ℚ) (least : ℚ) → IsDecomposed program blocks
    → ShowsLeast program blocks box among [] ys prices least → zeroℚ <ℚ least
    → IsMixture program blocks box among point → ¬ MeetsMaster program blocks point
none_shown program blocks box among ys prices point least d s p m h =
    not_le_of_lt p (least_shown program blocks box among [] ys prices point least d s m h)

-- ---- the Lagrangian bound

pub free_part : (sides free rest prices : ℚ) → free ≤ℚ rest → (sides +ℚ free) +ℚ prices ≤ℚ (sides +ℚ rest) +ℚ prices
free_part sides free rest prices h = linear_le (sides ∷ free ∷ rest ∷ prices ∷ []) (λ s w. omega (arith, s.le_out))

pub lagrange_shows : (program : Program) (blocks : Decomposition) (box : List Sides) (ys rests prices : List ℚ)
    (sides free : ℚ) → AreRests (length blocks.columns) program.costs ys (master_rows program blocks) rests
    → side_total ys (master_rows program blocks) ≡ Some sides → length box ≡ length blocks.columns
    → least_costs (picked None blocks.columns rests) (picked None blocks.columns box) ≡ Some free
    → ArePrices program blocks box None rests prices
    → ShowsLeast program blocks box None program.costs ys prices ((sides +ℚ free) +ℚ price_total blocks prices)
lagrange_shows program blocks box ys rests prices sides free r e l f p = record {
  rests = rests;
  sides = sides;
  are_rests = r;
  side_sum = e;
  priced = p;
  free = λ values w. free_part sides free (dot (picked None blocks.columns rests) values) (price_total blocks prices)
      (least_costs_hold (picked None blocks.columns rests) (picked None blocks.columns box) values free
      (length_picked None blocks.columns rests box (r.long ∙ sym l)) w f);
}

pub feasible_shown : (program : Program) (blocks : Decomposition) (box : List Sides) (ys prices point : List ℚ)
    (least : ℚ) → IsDecomposed program blocks → length box ≡ length blocks.columns
    → ShowsLeast program blocks box None program.costs ys prices least → IsFeasible program point
    → IsInBox box point → program.constant +ℚ least ≤ℚ cost_of program point
feasible_shown program blocks box ys prices point least d l s f w =
    +ℚ_mono (≤ℚ_refl program.constant)
    (least_shown program blocks box None program.costs ys prices point least d s
    (feasible_mixture program blocks box point d l f w) (meets_master program blocks point f))

pub no_block_point : (program : Program) (blocks : Decomposition) (box : List Sides) (block : ℕ) (point : List ℚ)
    → IsDecomposed program blocks → ((part : List ℚ) → ¬ IsBlockPoint program blocks box block part)
    → IsFeasible program point → ¬ IsInBox box point
no_block_point program blocks box block point d h f w = h _ (block_part program blocks box point block d f w)
