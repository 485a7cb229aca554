-- What a point of the reduced program that is proposed comes to.
use Rattle.std.specs.Prelude.{◌≡◌, ◌≢◌, Bool, true, List, length, Option, None, Some}
use Rattle.cip_rational.specs.Rational.{ℚ, lt_test}
use Rattle.cip_problem.specs.WellFormed.{columns}
use Rattle.cip_core.specs.Verdicts.{verdict_of}
use Rattle.cip_core.specs.StepsBack.{point_back, FitsBack, OverflowsBack}
use Rattle.cip_core.specs.PostsolveFault.{PostsolveFault}
use Rattle.cip_core.specs.PostsolveFault.TheVariants.{Wide, NoMemory}
use Rattle.cip_core.specs.HeldPoint.{offered}
use Rattle.cip_core.specs.Offered.{Offered}
use Rattle.cip_core.specs.Offered.TheVariants.{Taken, NotBetter, Breaks}
use Rattle.cip_core.specs.CoreStates.{CoreState, reduced_of}
use Rattle.cip_core.specs.Steps.{IsOffered}
use Rattle.cip_calls.specs.declared.judged.NodeFault.{NodeFault}
use Rattle.cip_calls.specs.declared.judged.NodeFault.TheVariants.{BadLength, NoSuchColumn, TooFar}
use Rattle.cip_calls.specs.declared.judged.JudgeFault.{JudgeFault}
use Rattle.cip_calls.specs.declared.judged.JudgeFault.TheVariants as fault
use Rattle.cip_calls.specs.declared.judged.Judged.{Judged}
use Rattle.cip_calls.specs.declared.judged.Judged.TheVariants as judged

-- a cost is less than the one held, as each is where none is
abbrev pub costs_less : ℚ → Option ℚ → Bool
costs_less cost None = true
costs_less cost (Some held) = lt_test cost held

-- an offer's answer as one of the judge
abbrev pub judged_as : Offered → Judged
judged_as Taken = judged.Accepted
judged_as NotBetter = judged.NotBetter
judged_as (Breaks verdict) = judged.Refused (fault.Offer verdict)

-- a point has a value for each column of the reduced program and comes back in range, and where what it comes back as
-- is offered this is answered
pub record IsTestedBack (core : CoreState) (values : List ℚ) (answer : Offered) : Type 0 where
  pub long : length values ≡ columns (reduced_of core)
  pub fits : FitsBack core.steps values
  pub tested : answer ≡ offered core.incumbent.best (verdict_of core.program (point_back core.steps values))

-- it has too few values, or too many
abbrev pub IsMislong : CoreState → List ℚ → NodeFault → Type 0
IsMislong core values BadLength = length values ≢ columns (reduced_of core)
IsMislong core values NoSuchColumn = ⊥
IsMislong core values TooFar = ⊥

-- it has a value for each column, and a number overflows on the way back
abbrev pub IsLost : CoreState → List ℚ → PostsolveFault → Type 0
IsLost core values Wide = (length values ≡ columns (reduced_of core)) × OverflowsBack core.steps values
IsLost core values NoMemory = ⊥

-- why it is refused: by its number of values first, then by the way back, and then by the test of what comes back
abbrev pub IsGuessRefused : CoreState → List ℚ → JudgeFault → Type 0
IsGuessRefused core values (fault.Node of) = IsMislong core values of
IsGuessRefused core values (fault.Postsolve of) = IsLost core values of
IsGuessRefused core values (fault.Offer of) = IsTestedBack core values (Breaks of)
IsGuessRefused core values (fault.Check of) = ⊥
IsGuessRefused core values fault.Full = ⊥
IsGuessRefused core values (fault.Split of) = ⊥
IsGuessRefused core values (fault.SplitForm of) = ⊥

-- what it comes back as is feasible and cheaper than the point held, or no cheaper; or it is refused
abbrev pub IsGuessJudged : CoreState → List ℚ → Judged → Type 0
IsGuessJudged core values judged.Accepted = IsTestedBack core values Taken
IsGuessJudged core values judged.NotBetter = IsTestedBack core values NotBetter
IsGuessJudged core values judged.Emptied = ⊥
IsGuessJudged core values judged.Known = ⊥
IsGuessJudged core values (judged.Refused of) = IsGuessRefused core values of

-- a point of the program as read that is taken was offered; after any other answer nothing has changed
abbrev pub IsAfterGuess : Judged → CoreState → CoreState → List ℚ → Type 0
IsAfterGuess judged.Accepted old new point = IsOffered old new point Taken
IsAfterGuess judged.Emptied old new point = new ≡ old
IsAfterGuess judged.Known old new point = new ≡ old
IsAfterGuess judged.NotBetter old new point = new ≡ old
IsAfterGuess (judged.Refused of) old new point = new ≡ old
