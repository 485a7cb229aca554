-- What is answered behind a round.
use Rattle.std.specs.Prelude.{◌≡◌, ℕ, Bool, true, false, not, ◌&&◌, List, Option, None, Some, is_some, MatchOption}
use Rattle.cip_rational.specs.Rational.{ℚ}
use Rattle.cip_problem.specs.Choices.{greater}
use Rattle.cip_columns.specs.PoolPoints.{PoolPoint}
use Rattle.cip_master.specs.MasterTasks.{Task}
use Rattle.cip_master.specs.declared.tasks.Shown.{Shown}
use Rattle.cip_master.specs.declared.answers.MasterCause.TheVariants.{Wide}
use Rattle.cip_master.specs.declared.answers.MasterAnswer.{MasterAnswer}
use Rattle.cip_master.specs.declared.answers.MasterAnswer.TheVariants.{Prices, Farkas, Unsolved}
use Rattle.cip_price.specs.Asks.{Told}
use Rattle.cip_price.specs.PriceRounds.{IsRound}
use Rattle.cip_price.specs.declared.offering.Growth.{Growth}
use Rattle.cip_price.specs.declared.offering.Growth.TheVariants.{Same, Grown, Full}
use Rattle.cip_price.specs.declared.block_rounds.Round.{Round}
use Rattle.cip_price.specs.PricedRounds.{with_cause}
use Rattle.cip_price.specs.Summing.{IsSummed}
use Rattle.cip_price.specs.declared.bounding.Summed.{Summed}
use Rattle.cip_price.specs.declared.bounding.Summed.TheVariants.{Number, Nothing, Wide as SumWide}
use Rattle.cip_price.specs.declared.answers.PriceCause.TheVariants.{PricerGap, PoolFull, Master}
use Rattle.cip_price.specs.declared.answers.PriceAnswer.{PriceAnswer}
use Rattle.cip_price.specs.declared.answers.PriceAnswer.TheVariants.{Closed, NoPoint}

-- the greatest bound, with that of a round
abbrev pub raised : Option ℚ → Summed → Option ℚ
raised best (Number bound) = greater best (Some bound)
raised best Nothing = best
raised best SumWide = best

-- where nothing closes a block, and the sum is in range: no point was new, or another round is to be asked
abbrev pub gap_decision : ℕ → Growth → Option ℚ → Option PriceAnswer
gap_decision block Same best = Some (with_cause best (PricerGap block))
gap_decision block Grown best = None
gap_decision block Full best = None

-- so for any sum; the greatest bound has that of the round
abbrev pub decision_at : ℕ → Growth → Summed → Option ℚ → Option PriceAnswer
decision_at block became (Number bound) best = gap_decision block became (greater best (Some bound))
decision_at block became Nothing best = gap_decision block became best
decision_at block became SumWide best = Some (with_cause best (Master Wide))

abbrev pub decision_by : Option ℕ → Growth → Summed → Option ℚ → PriceAnswer → Option PriceAnswer
decision_by None became summed best closed = Some closed
decision_by (Some block) became summed best closed = decision_at block became summed best

abbrev pub decision_unless : Bool → Option ℕ → Growth → Summed → Option ℚ → PriceAnswer → Option PriceAnswer
decision_unless true gap became summed best closed = Some NoPoint
decision_unless false gap became summed best closed = decision_by gap became summed best closed

-- the answer behind a round, where this is what closed blocks come to; none where another round is to be asked
abbrev pub decision : Round → Summed → Option ℚ → PriceAnswer → Growth → Option PriceAnswer
decision round summed best closed Full = Some (with_cause best PoolFull)
decision round summed best closed Same = decision_unless round.is_empty round.gap Same summed best closed
decision round summed best closed Grown = decision_unless round.is_empty round.gap Grown summed best closed

-- what closed blocks come to
abbrev pub closed_by : MasterAnswer → PriceAnswer
closed_by (Prices shown weights cost) = Closed cost weights
closed_by (Farkas shown) = NoPoint
closed_by (Unsolved cause) = NoPoint

-- nothing ended the round before its bound is asked for: the pool isn't full, no tree shows that its block has no
-- point, and there is a block that nothing closes
abbrev pub is_open_at : Growth → Bool → Option ℕ → Bool
is_open_at Full empty gap = false
is_open_at Same empty gap = not empty && is_some gap
is_open_at Grown empty gap = not empty && is_some gap

abbrev pub is_open : Round → Bool
is_open round = is_open_at round.growth round.is_empty round.gap

-- the bound of the round: at prices that of its trees, where there are
abbrev pub IsSumOf : Task → MasterAnswer → Round → Summed → Type 0
IsSumOf task (Prices shown weights cost) round summed =
    is_open round ≡ true
    → MatchOption round.trees (summed ≡ Nothing) (λ trees. IsSummed task shown.multipliers.items trees.items summed)
IsSumOf task (Farkas shown) round summed = summed ≡ Nothing
IsSumOf task (Unsolved cause) round summed = summed ≡ Nothing

-- a round behind an answer of the master program, with what is answered, and the greatest bound then
pub record IsRoundBehind (task : Task) (answer : MasterAnswer) (shown : Shown) (told telling : Option (List Told))
    (points next : List PoolPoint) (best after : Option ℚ) (found : Option PriceAnswer) : Type 0 where
  pub round : Round
  pub is_round : IsRound task shown.rests.items shown.prices.items told telling points next round
  pub summed : Summed
  pub sum_is : IsSumOf task answer round summed
  pub decided : found ≡ decision round summed best (closed_by answer) round.growth
  pub after_is : after ≡ raised best summed
