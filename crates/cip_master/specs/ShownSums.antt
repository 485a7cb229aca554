-- What multipliers and prices show as one computation, or the first fault; and what it says of mixtures.
use Rattle.std.specs.Prelude.{◌≡◌, ℕ, List, [], ◌∷◌, length, Some, Result, Ok, if◌then◌else◌, slice_set}
use Rattle.cip_rational.specs.Rational.{ℚ, ◌+ℚ◌, zeroℚ, minimum}
use Rattle.cip_rational.specs.Sums.{dot}
use Rattle.cip_frac.specs.Outcomes.{sum_outcome, dot_from}
use Rattle.cip_problem.specs.Program.{Sides}
use Rattle.cip_problem.specs.Activity.{value_at}
use Rattle.cip_pricing.specs.Decomposition.{picked, master_rows}
use Rattle.cip_pricing.specs.LeastCosts.{AreRests, ShowsLeast}
use Rattle.cip_columns.specs.PoolPoints.{PoolPoint}
use Rattle.cip_lagrange.specs.Decompositions.{owners_in}
use Rattle.cip_lagrange.specs.declared.parts.Decomposed.{Decomposed}
use Rattle.cip_lagrange.specs.declared.answers.LagrangeFault.{LagrangeFault}
use Rattle.cip_lagrange.specs.LagrangeOutcomes.{chain, in_range, Reduced, multipliers_used, free_added}
use Rattle.cip_master.specs.KeptMasters.{is_held_in}
use Rattle.cip_master.specs.declared.tasks.Shown.{Shown}
use Rattle.cip_master.specs.MasterTasks.{Task, held_by}

-- ---- prices

-- what is left of the costs at a point that is held
abbrev pub rest_at : Decomposed → List ℚ → PoolPoint → Result ℚ LagrangeFault
rest_at kept rests held =
    in_range (dot_from zeroℚ (picked (Some held.block) kept.column_owners.items rests) held.point)

-- prices with that of a block lowered to a value
abbrev pub lowered_to : ℕ → List ℚ → ℚ → List ℚ
lowered_to block prices value = slice_set prices block (minimum (value_at prices block) value)

-- prices lowered to what is left at a point, if it lies in the box
abbrev pub lowered_by : Decomposed → List Sides → List ℚ → PoolPoint → List ℚ → Result (List ℚ) LagrangeFault
lowered_by kept box rests held prices =
    if is_held_in kept.column_owners.items box held
    then chain (rest_at kept rests held) (λ value. Ok (lowered_to held.block prices value)) else Ok prices

-- so by each point, one after another
abbrev pub lowered : Decomposed → List Sides → List ℚ → List PoolPoint → List ℚ → Result (List ℚ) LagrangeFault
lowered kept box rests [] prices = Ok prices
lowered kept box rests (held ∷ others) prices =
    chain (lowered_by kept box rests held prices) (lowered kept box rests others)

-- a sum with prices added, one after another
abbrev pub prices_added : List ℚ → ℚ → Result ℚ LagrangeFault
prices_added [] sum = Ok sum
prices_added (price ∷ prices) sum = chain (in_range (sum_outcome sum price)) (prices_added prices)

-- ---- the whole

-- what is left of the costs, the prices, and the sum
pub record Worked : Type 0 where
  pub rests : List ℚ
  pub prices : List ℚ
  pub sum : ℚ

-- a number with the multipliers' sides and the least on the columns of no block added; and what is left of the costs
abbrev pub reduced_by : Task → (start : ℚ) → (costs multipliers : List ℚ) → Result Reduced LagrangeFault
reduced_by task start costs multipliers =
    chain
    (multipliers_used task.program.rows task.kept.blocks.master_rows multipliers
    (record { total = start; rests = costs }))
    (λ used. chain (free_added used.rests task.box task.kept.blocks.free_columns used.total)
    (λ total. Ok (record { total = total; rests = used.rests })))

-- then the prices, lowered at what is left
abbrev pub priced_out : Task → (prices : List ℚ) → Reduced → Result Worked LagrangeFault
priced_out task prices reduced =
    chain (lowered task.kept task.box reduced.rests task.points prices)
    (λ after. chain (prices_added after reduced.total)
    (λ sum. Ok (record { rests = reduced.rests; prices = after; sum = sum })))

abbrev pub worked_out : Task → (start : ℚ) → (costs multipliers prices : List ℚ) → Result Worked LagrangeFault
worked_out task start costs multipliers prices =
    chain (reduced_by task start costs multipliers) (priced_out task prices)

-- ---- what it says

-- beside a number to begin with, costs come to the rest of the sum at least, at each mixture of held points that
-- satisfies the master rows: the multipliers and the prices show it
pub record IsShown (task : Task) (costs : List ℚ) (shown : Shown) (start sum : ℚ) : Type 0 where
  pub least : ℚ
  pub sum_is : sum ≡ start +ℚ least
  pub are_rests : AreRests (length task.kept.column_owners.items) costs shown.multipliers.items
      (master_rows task.program (owners_in task.kept)) shown.rests.items
  pub shows : ShowsLeast task.program (owners_in task.kept) task.box (Some (held_by task)) costs
      shown.multipliers.items shown.prices.items least
  pub each_multiplier : length shown.multipliers.items ≡ length task.kept.blocks.master_rows
  pub each_price : length shown.prices.items ≡ length task.kept.subproblems.items

-- so for all costs that are, as a linear form, those to begin with
abbrev pub ShowsFrom : Task → (costs : List ℚ) → (start : ℚ) → Shown → (sum : ℚ) → Type 0
ShowsFrom task first start shown sum =
    (costs : List ℚ) → ((point : List ℚ) → dot first point ≡ dot costs point) → IsShown task costs shown start sum
