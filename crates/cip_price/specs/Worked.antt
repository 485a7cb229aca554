-- What pricing works in is made for a task, and its master program kept for the points that are held.
use Rattle.std.specs.Prelude.{◌≡◌, ℕ, ◌≤◌, List, [], length, Option, None, Some, IfSome}
use Rattle.cip_rational.specs.Rational.{ℚ}
use Rattle.cip_problem.specs.WellFormed.{columns}
use Rattle.cip_columns.specs.PoolPoints.{PoolPoint}
use Rattle.cip_lagrange.specs.Scratches.{FitsScratch}
use Rattle.cip_master.specs.MasterTasks.{Task}
use Rattle.cip_master.specs.declared.tasks.Shown.{Shown}
use Rattle.cip_master.specs.MasterSolving.{IsKept}
use Rattle.cip_master.specs.MasterAnswers.{IsMasterAnswer}
use Rattle.cip_master.specs.declared.answers.MasterCause.{MasterCause}
use Rattle.cip_master.specs.declared.answers.MasterAnswer.{MasterAnswer}
use Rattle.cip_master.specs.declared.answers.MasterAnswer.TheVariants.{Unsolved}
use Rattle.cip_price.specs.Asks.{Asked, Told, MayTellTo}
use Rattle.cip_price.specs.PriceRounds.{AreAsks, told_in}
use Rattle.cip_price.specs.PriceAnswers.{holding, BoundsBox, PriceHolds}
use Rattle.cip_price.specs.PricedRounds.{with_cause, shown_in}
use Rattle.cip_price.specs.RoundEnds.{IsRoundBehind}
use Rattle.cip_price.specs.declared.answers.PriceCause.TheVariants.{Master}
use Rattle.cip_price.specs.declared.answers.PriceAnswer.{PriceAnswer}
use Rattle.cip_price.specs.declared.work.PriceWork.{PriceWork}

pub record IsReady (task : Task) (work : PriceWork) : Type 0 where
  pub master : IsKept task work.master.program
  pub row : length work.scratch.row.entries ≡ columns task.program
  pub fits : FitsScratch task.program task.kept work.lagrange

-- what a round comes to: the master program isn't solved, or the blocks were asked behind its answer
pub data IsStep (limit : ℕ) (task : Task) (told telling : Option (List Told)) (points next : List PoolPoint)
    (best after : Option ℚ) (found : Option PriceAnswer) : Type 0 where
  At_cause : (cause : MasterCause) → IsMasterAnswer limit (holding task points) (Unsolved cause) → telling ≡ told
      → next ≡ points → after ≡ best → found ≡ Some (with_cause best (Master cause))
      → IsStep limit task told telling points next best after found
  At_round : (answer : MasterAnswer) (shown : Shown) → IsMasterAnswer limit (holding task points) answer
      → shown_in answer ≡ Some shown → IsRoundBehind task answer shown told telling points next best after found
      → IsStep limit task told telling points next best after found

-- want of memory cut it short
pub record MayStep (task : Task) (told telling : Option (List Told)) : Type 0 where
  pub rests : List ℚ
  pub asks : List Asked
  pub are_asks : AreAsks task rests 0 asks
  pub few : length asks ≤ length task.kept.subproblems.items
  pub tells : MayTellTo [] (told_in task asks) told telling

-- the greatest bound, if there is one, is one of the box
abbrev pub BestHolds : Task → Option ℚ → Type 0
BestHolds task best = IfSome best (BoundsBox task)

-- what stands behind a round: an answer that holds, or what pricing works in is ready for the next one
abbrev pub StandsBehind : Task → List PoolPoint → PriceWork → Option PriceAnswer → Type 0
StandsBehind task points work None = IsReady (holding task points) work × BestHolds task work.best
StandsBehind task points work (Some answer) = PriceHolds task points answer
