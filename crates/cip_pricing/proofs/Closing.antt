-- Pricing closes.
use Rattle.std.proofs.Common.{◌≡◌, List, [], length, Option, None, Some, subst}
use Rattle.cip_rational.specs.Rational.{ℚ, ◌+ℚ◌, zeroℚ, ◌≤ℚ◌, ◌<ℚ◌}
use Rattle.cip_rational.proofs.Rational.Order.{≤ℚ_refl}
use Rattle.cip_rational.proofs.Rational.Monotone.{+ℚ_mono}
use Rattle.cip_problem.specs.Program.{Sides, Program}
use Rattle.cip_problem.specs.Box.{IsInBox}
use Rattle.cip_problem.specs.Points.{IsFeasible, cost_of}
use Rattle.cip_pricing.specs.Decomposition.{Decomposition, IsDecomposed, master_rows}
use Rattle.cip_pricing.specs.Mixtures.{Held, IsMixture, MeetsMaster}
use Rattle.cip_pricing.specs.LeastCosts.{AreRests, ArePrices, ShowsLeast, IsLeastMixture}
use Rattle.cip_pricing.proofs.Picked.{meets_master}
use Rattle.cip_pricing.proofs.Mixing.{feasible_mixture}
use Rattle.cip_pricing.proofs.Rests.{rests_unique}
use Rattle.cip_pricing.proofs.Shown.{least_shown, none_shown}

-- what is shown of held points is shown of all, where the prices are those of all
pub shown_of_all : (program : Program) (blocks : Decomposition) (box : List Sides) (held : List Held)
    (costs ys rests prices : List ℚ) (least : ℚ) → ShowsLeast program blocks box (Some held) costs ys prices least
    → AreRests (length blocks.columns) costs ys (master_rows program blocks) rests
    → ArePrices program blocks box None rests prices → ShowsLeast program blocks box None costs ys prices least
shown_of_all program blocks box held costs ys rests prices least s r p =
    let same : rests ≡ s.rests = rests_unique (length blocks.columns) costs ys (master_rows program blocks) rests
    s.rests r s.are_rests in
    record {
      rests = s.rests;
      sides = s.sides;
      are_rests = s.are_rests;
      side_sum = s.side_sum;
      priced = subst (λ t. ArePrices program blocks box None t prices) same p;
      free = s.free;
    }

pub closed_least : (program : Program) (blocks : Decomposition) (box : List Sides) (held : List Held)
    (ys rests prices point : List ℚ) (least : ℚ) → IsDecomposed program blocks
    → IsMixture program blocks box (Some held) point → MeetsMaster program blocks point
    → ShowsLeast program blocks box (Some held) program.costs ys prices least
    → cost_of program point ≡ program.constant +ℚ least
    → AreRests (length blocks.columns) program.costs ys (master_rows program blocks) rests
    → ArePrices program blocks box None rests prices
    → IsLeastMixture program blocks box (Some held) point (program.constant +ℚ least)
closed_least program blocks box held ys rests prices point least d m h s e r p = record {
  mixture = m;
  meets = h;
  cost_is = e;
  least = λ other k l.
      +ℚ_mono (≤ℚ_refl program.constant)
      (least_shown program blocks box None program.costs ys prices other least d
      (shown_of_all program blocks box held program.costs ys rests prices least s r p) k l);
}

pub closed_bound : (program : Program) (blocks : Decomposition) (box : List Sides) (among : Option (List Held))
    (mixture point : List ℚ) (cost : ℚ) → IsDecomposed program blocks → length box ≡ length blocks.columns
    → IsLeastMixture program blocks box among mixture cost → IsFeasible program point → IsInBox box point
    → cost ≤ℚ cost_of program point
closed_bound program blocks box among mixture point cost d l m f w =
    m.least point (feasible_mixture program blocks box point d l f w) (meets_master program blocks point f)

pub closed_empty : (program : Program) (blocks : Decomposition) (box : List Sides) (held : List Held)
    (ys rests prices point : List ℚ) (least : ℚ) → IsDecomposed program blocks → length box ≡ length blocks.columns
    → ShowsLeast program blocks box (Some held) [] ys prices least → zeroℚ <ℚ least
    → AreRests (length blocks.columns) [] ys (master_rows program blocks) rests
    → ArePrices program blocks box None rests prices → IsFeasible program point → ¬ IsInBox box point
closed_empty program blocks box held ys rests prices point least d l s p r q f w =
    none_shown program blocks box None ys prices point least d
    (shown_of_all program blocks box held [] ys rests prices least s r q) p
    (feasible_mixture program blocks box point d l f w)
    (meets_master program blocks point f)
