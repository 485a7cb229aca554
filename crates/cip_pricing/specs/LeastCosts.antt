-- What mixtures that satisfy the master rows cost at least (the Lagrangian bound): multipliers of the master rows, what
-- they leave of the costs, and a price for each block.
use Rattle.std.specs.Prelude.{◌≡◌, ℕ, zero, suc, ◌<◌, List, [], ◌∷◌, length, Option, None, Some, if◌then◌else◌}
use Rattle.cip_rational.specs.Rational.{ℚ, ◌+ℚ◌, ◌-ℚ◌, ◌*ℚ◌, zeroℚ, ◌≤ℚ◌, lt_test}
use Rattle.cip_rational.specs.Sums.{dot}
use Rattle.cip_problem.specs.Program.{Sides, Row, Program}
use Rattle.cip_problem.specs.Activity.{activity, value_at}
use Rattle.cip_problem.specs.Box.{IsInBox}
use Rattle.cip_problem.specs.BoxBound.{sum_if_both, product_at}
use Rattle.cip_problem.specs.Points.{cost_of}
use Rattle.cip_pricing.specs.Decomposition.{Decomposition, picked, master_rows}
use Rattle.cip_pricing.specs.Mixtures.{Held, IsPointAmong, IsMixture, MeetsMaster}

-- ---- multipliers

-- a multiplier times the side that it uses: the low one where it is above 0, the high one where it is below 0; none
-- where that is open
abbrev pub side_product : ℚ → Row → Option ℚ
side_product multiplier row =
    if lt_test zeroℚ multiplier then product_at multiplier row.low
    else (if lt_test multiplier zeroℚ then product_at multiplier row.high else Some zeroℚ)

-- the sum of these products
abbrev pub side_total : List ℚ → List Row → Option ℚ
side_total [] rows = Some zeroℚ
side_total (y ∷ ys) [] = Some zeroℚ
side_total (y ∷ ys) (row ∷ rows) = sum_if_both (side_product y row) (side_total ys rows)

-- the sum of the activities, each times its multiplier
abbrev pub row_total : List ℚ → List Row → List ℚ → ℚ
row_total [] rows point = zeroℚ
row_total (y ∷ ys) [] point = zeroℚ
row_total (y ∷ ys) (row ∷ rows) point = y *ℚ activity row.terms point +ℚ row_total ys rows point

-- what is left of the costs: as linear forms, and so at each point, they are the costs less the rows times their
-- multipliers; there is one for each of so many columns
pub record AreRests (columns : ℕ) (costs multipliers : List ℚ) (rows : List Row) (rests : List ℚ) : Type 0 where
  pub long : length rests ≡ columns
  pub form : (point : List ℚ) → dot rests point ≡ dot costs point -ℚ row_total multipliers rows point

-- ---- the bound

-- the sum of f 0, .., f (n - 1)
abbrev pub sum_below : ℕ → (ℕ → ℚ) → ℚ
sum_below zero f = zeroℚ
sum_below (suc n) f = sum_below n f +ℚ f n

-- the sum of a price for each block
abbrev pub price_total : Decomposition → List ℚ → ℚ
price_total blocks prices = sum_below blocks.count (value_at prices)

-- each point of a block, among those held if there are such, comes to at least the block's price at what is left of the
-- costs
abbrev pub ArePrices : Program → Decomposition → List Sides → Option (List Held) → (rests prices : List ℚ) → Type 0
ArePrices program blocks box among rests prices =
    (block : ℕ) (point : List ℚ) → block < blocks.count
    → IsPointAmong program blocks box among block point
    → value_at prices block ≤ℚ dot (picked (Some block) blocks.columns rests) point

-- multipliers and prices show that costs come to a number at least: the multipliers' rows have the sides that they use,
-- each block's points come to its price at what is left of the costs, and with values for the columns of no block, the
-- sides, what is left there and the prices sum to that number
pub record ShowsLeast (program : Program) (blocks : Decomposition) (box : List Sides) (among : Option (List Held))
    (costs multipliers prices : List ℚ) (least : ℚ) : Type 0 where
  pub rests : List ℚ
  pub sides : ℚ
  pub are_rests : AreRests (length blocks.columns) costs multipliers (master_rows program blocks) rests
  pub side_sum : side_total multipliers (master_rows program blocks) ≡ Some sides
  pub priced : ArePrices program blocks box among rests prices
  pub free : (values : List ℚ) → IsInBox (picked None blocks.columns box) values
      → least ≤ℚ (sides +ℚ dot (picked None blocks.columns rests) values) +ℚ price_total blocks prices

-- ---- least mixtures

-- a mixture that satisfies the master rows costs this much, and none that satisfies them costs less
pub record IsLeastMixture (program : Program) (blocks : Decomposition) (box : List Sides) (among : Option (List Held))
    (point : List ℚ) (cost : ℚ) : Type 0 where
  pub mixture : IsMixture program blocks box among point
  pub meets : MeetsMaster program blocks point
  pub cost_is : cost_of program point ≡ cost
  pub least : (other : List ℚ) → IsMixture program blocks box None other → MeetsMaster program blocks other
      → cost ≤ℚ cost_of program other
