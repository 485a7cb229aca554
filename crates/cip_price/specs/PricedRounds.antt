-- Rounds of pricing, one after another, and how they end.
use Rattle.std.specs.Prelude.{◌≡◌, ◌≢◌, ℕ, zero, suc, ◌<◌, ◌≤◌, Bool, true, false, List, [], ◌++◌, length, Option, None, Some, Result, Ok, Err}
use Rattle.cip_rational.specs.Rational.{ℚ}
use Rattle.cip_problem.specs.Choices.{greater}
use Rattle.cip_problem.specs.WellFormed.{columns}
use Rattle.cip_cert.specs.declared.pricing.BoundTree.{BoundTree}
use Rattle.cip_columns.specs.PoolPoints.{PoolPoint}
use Rattle.cip_lagrange.specs.declared.answers.TreeBound.{TreeBound}
use Rattle.cip_lagrange.specs.declared.answers.TreeBound.TheVariants.{Finite, NoPoint as NoneThere}
use Rattle.cip_lagrange.specs.declared.answers.LagrangeFault.{LagrangeFault}
use Rattle.cip_lagrange.specs.declared.answers.LagrangeFault.TheVariants.{Wide as SumWide}
use Rattle.cip_lagrange.specs.LagrangeOutcomes.{lagrange_outcome}
use Rattle.cip_master.specs.MasterTasks.{Task}
use Rattle.cip_master.specs.declared.tasks.Shown.{Shown}
use Rattle.cip_master.specs.MasterAnswers.{IsMasterAnswer}
use Rattle.cip_master.specs.declared.answers.Weights.{Weights}
use Rattle.cip_master.specs.declared.answers.MasterCause.{MasterCause}
use Rattle.cip_master.specs.declared.answers.MasterCause.TheVariants.{Wide}
use Rattle.cip_master.specs.declared.answers.MasterAnswer.{MasterAnswer}
use Rattle.cip_master.specs.declared.answers.MasterAnswer.TheVariants.{Prices, Farkas, Unsolved}
use Rattle.cip_price.specs.Asks.{Asked, Told, Tells, MayTellTo}
use Rattle.cip_price.specs.PriceRounds.{AreAsks, told_in, first_open, shows_none, trees_in, IsGrown}
use Rattle.cip_price.specs.declared.offering.Growth.{Growth}
use Rattle.cip_price.specs.declared.offering.Growth.TheVariants.{Same, Grown, Full}
use Rattle.cip_price.specs.CrossedSides.{has_crossed}
use Rattle.cip_price.specs.PriceAnswers.{holding}
use Rattle.cip_price.specs.declared.answers.PriceCause.{PriceCause}
use Rattle.cip_price.specs.declared.answers.PriceCause.TheVariants.{Rounds, PricerGap, PoolFull, Master}
use Rattle.cip_price.specs.declared.answers.PriceAnswer.{PriceAnswer}
use Rattle.cip_price.specs.declared.answers.PriceAnswer.TheVariants.{Closed, Bounded, NoPoint, NoBound}

-- ---- the bound of a round

-- the Lagrangian bound of multipliers and trees
abbrev pub sum_of_round : Task → List ℚ → List BoundTree → Result TreeBound LagrangeFault
sum_of_round task multipliers trees =
    lagrange_outcome (columns task.program) task.program task.kept task.box multipliers trees

-- as a number, if it is one
abbrev pub number_if : Result TreeBound LagrangeFault → Option ℚ
number_if (Ok (Finite bound)) = Some bound
number_if (Ok NoneThere) = None
number_if (Err fault) = None

abbrev pub number_by : Task → List ℚ → Option (List BoundTree) → Option ℚ
number_by task multipliers None = None
number_by task multipliers (Some trees) = number_if (sum_of_round task multipliers trees)

-- that of a round, behind this answer of the master program and with these asks: there is one at prices alone, where a
-- tree of each block is accepted
abbrev pub number_of_round : Task → MasterAnswer → List Asked → Option ℚ
number_of_round task (Prices shown weights cost) asks =
    number_by task shown.multipliers.items (trees_in task asks)
number_of_round task (Farkas shown) asks = None
number_of_round task (Unsolved cause) asks = None

-- it is out of range
abbrev pub IsWideBy : Task → List ℚ → Option (List BoundTree) → Type 0
IsWideBy task multipliers None = ⊥
IsWideBy task multipliers (Some trees) = sum_of_round task multipliers trees ≡ Err SumWide

abbrev pub IsWideSum : Task → MasterAnswer → List Asked → Type 0
IsWideSum task (Prices shown weights cost) asks = IsWideBy task shown.multipliers.items (trees_in task asks)
IsWideSum task (Farkas shown) asks = ⊥
IsWideSum task (Unsolved cause) asks = ⊥

-- ---- one round

-- what an answer of the master program shows, if it isn't a cause
abbrev pub shown_in : MasterAnswer → Option Shown
shown_in (Prices shown weights cost) = Some shown
shown_in (Farkas shown) = Some shown
shown_in (Unsolved cause) = None

-- an answer of the master program of the points held, and asks of blocks at what it leaves of the costs
pub record IsAskedBehind (limit : ℕ) (task : Task) (points : List PoolPoint) (answer : MasterAnswer) (shown : Shown)
    (asks : List Asked) : Type 0 where
  pub answered : IsMasterAnswer limit (holding task points) answer
  pub shown_is : shown_in answer ≡ Some shown
  pub are_asks : AreAsks task shown.rests.items 0 asks

-- a whole round: each block was asked once, and the pool took the points
pub record IsWholeRound (limit : ℕ) (task : Task) (points next : List PoolPoint) (answer : MasterAnswer)
    (shown : Shown) (asks : List Asked) (growth : Growth) : Type 0 where
  pub behind : IsAskedBehind limit task points answer shown asks
  pub all : length asks ≡ length task.kept.subproblems.items
  pub grown : IsGrown task asks points next growth
  pub going : growth ≢ Full

-- the first block that nothing closes, in a round in which no tree shows that its block has no point
pub record HasGap (task : Task) (shown : Shown) (asks : List Asked) (block : ℕ) : Type 0 where
  pub gap : first_open task shown.prices.items asks ≡ Some block
  pub some : shows_none task asks ≡ false

-- ---- rounds

-- so many rounds were asked, each of which added a point to the pool, left a block that nothing closes and has no bound
-- out of range: their asks, the points that are held then, and the greatest of their bounds
pub data Ran (limit : ℕ) (task : Task) (first : List PoolPoint)
    : ℕ → List Asked → List PoolPoint → Option ℚ → Type 0 where
  None_asked : Ran limit task first zero [] first None
  One_more : (n : ℕ) (asks more : List Asked) (points next : List PoolPoint) (best : Option ℚ)
      (answer : MasterAnswer) (shown : Shown) (block : ℕ)
      → Ran limit task first n asks points best
      → IsWholeRound limit task points next answer shown more Grown → HasGap task shown more block
      → ¬ IsWideSum task answer more
      → Ran limit task first (suc n) (asks ++ more) next (greater best (number_of_round task answer more))

-- with the greatest bound, if there is one
abbrev pub with_cause : Option ℚ → PriceCause → PriceAnswer
with_cause None cause = NoBound cause
with_cause (Some bound) cause = Bounded bound cause

-- ---- how they end

pub data Ends (limit rounds : ℕ) (task : Task) (first : List PoolPoint)
    : List Asked → List PoolPoint → PriceAnswer → Type 0 where
  -- as many rounds as are allowed added a point each
  Out_of_rounds : (asks : List Asked) (points : List PoolPoint) (best : Option ℚ)
      → Ran limit task first rounds asks points best
      → Ends limit rounds task first asks points (with_cause best Rounds)
  -- the master program isn't solved
  Is_unsolved : (n : ℕ) (asks : List Asked) (points : List PoolPoint) (best : Option ℚ) (cause : MasterCause)
      → n < rounds → Ran limit task first n asks points best
      → IsMasterAnswer limit (holding task points) (Unsolved cause)
      → Ends limit rounds task first asks points (with_cause best (Master cause))
  -- a point has no room
  Is_full : (n : ℕ) (asks more : List Asked) (points next : List PoolPoint) (best : Option ℚ) (answer : MasterAnswer)
      (shown : Shown)
      → n < rounds → Ran limit task first n asks points best → IsAskedBehind limit task points answer shown more
      → length more ≤ length task.kept.subproblems.items → IsGrown task more points next Full
      → Ends limit rounds task first (asks ++ more) next (with_cause best PoolFull)
  -- a tree shows that its block has no point
  Has_none : (n : ℕ) (asks more : List Asked) (points next : List PoolPoint) (best : Option ℚ) (answer : MasterAnswer)
      (shown : Shown) (growth : Growth)
      → n < rounds → Ran limit task first n asks points best
      → IsWholeRound limit task points next answer shown more growth
      → shows_none task more ≡ true
      → Ends limit rounds task first (asks ++ more) next NoPoint
  -- each block is closed at prices
  Closes : (n : ℕ) (asks more : List Asked) (points next : List PoolPoint) (best : Option ℚ) (shown : Shown)
      (weights : Weights) (cost : ℚ) (growth : Growth)
      → n < rounds → Ran limit task first n asks points best
      → IsWholeRound limit task points next (Prices shown weights cost) shown more growth
      → first_open task shown.prices.items more ≡ None
      → shows_none task more ≡ false
      → Ends limit rounds task first (asks ++ more) next (Closed cost weights)
  -- each block is closed where there is no mixture of held points
  Closes_none : (n : ℕ) (asks more : List Asked) (points next : List PoolPoint) (best : Option ℚ) (shown : Shown)
      (growth : Growth)
      → n < rounds → Ran limit task first n asks points best
      → IsWholeRound limit task points next (Farkas shown) shown more growth
      → first_open task shown.prices.items more ≡ None
      → Ends limit rounds task first (asks ++ more) next NoPoint
  -- the Lagrangian bound is out of range
  Sum_is_wide : (n : ℕ) (asks more : List Asked) (points next : List PoolPoint) (best : Option ℚ)
      (answer : MasterAnswer) (shown : Shown) (growth : Growth) (block : ℕ)
      → n < rounds → Ran limit task first n asks points best
      → IsWholeRound limit task points next answer shown more growth → HasGap task shown more block
      → IsWideSum task answer more
      → Ends limit rounds task first (asks ++ more) next (with_cause best (Master Wide))
  -- no point was new, and nothing closes this block
  Has_gap : (n : ℕ) (asks more : List Asked) (points next : List PoolPoint) (best : Option ℚ) (answer : MasterAnswer)
      (shown : Shown) (block : ℕ)
      → n < rounds → Ran limit task first n asks points best
      → IsWholeRound limit task points next answer shown more Same → HasGap task shown more block
      → ¬ IsWideSum task answer more
      → Ends limit rounds task first (asks ++ more) next
      (with_cause (greater best (number_of_round task answer more)) (PricerGap block))

-- the asks, each with its points that are dropped, are told behind what was told before, and the rounds end so
pub record IsRunBy (limit rounds : ℕ) (task : Task) (told telling : Option (List Told))
    (first points : List PoolPoint) (answer : PriceAnswer) : Type 0 where
  pub asks : List Asked
  pub tells : Tells told (told_in task asks) telling
  pub ends : Ends limit rounds task first asks points answer

-- so it is, unless sides cross: then nobody is asked, and there is no point
abbrev pub IsPricedUnless : Bool → (limit rounds : ℕ) → Task → (told telling : Option (List Told))
    → (first points : List PoolPoint) → PriceAnswer → Type 0
IsPricedUnless true limit rounds task told telling first points answer =
    Tells told [] telling × (points ≡ first) × (answer ≡ NoPoint)
IsPricedUnless false limit rounds task told telling first points answer =
    IsRunBy limit rounds task told telling first points answer

abbrev pub IsPricedBy : (limit rounds : ℕ) → Task → (told telling : Option (List Told))
    → (first points : List PoolPoint) → PriceAnswer → Type 0
IsPricedBy limit rounds task told telling first points answer =
    IsPricedUnless (has_crossed task) limit rounds task told telling first points answer

-- want of memory cut a round short: of this one a front part is told of what there is to tell
pub record IsCutShort (limit : ℕ) (task : Task) (told telling : Option (List Told)) (first : List PoolPoint)
    : Type 0 where
  pub n : ℕ
  pub asks : List Asked
  pub more : List Asked
  pub points : List PoolPoint
  pub best : Option ℚ
  pub ran : Ran limit task first n asks points best
  pub rests : List ℚ
  pub are_asks : AreAsks task rests 0 more
  pub few : length more ≤ length task.kept.subproblems.items
  pub tells : MayTellTo (told_in task asks) (told_in task more) told telling
