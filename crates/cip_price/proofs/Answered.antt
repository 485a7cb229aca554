-- What a pricer's answer for a block comes to, told.
use Rattle.std.proofs.Common.{◌≡◌, ℕ, List, [], ◌∷◌, Option, Some, Result, Ok, Err, subst}
use Rattle.std.specs.Prelude.{IfOk, MatchResult}
use Rattle.cip_rational.specs.Rational.{ℚ}
use Rattle.cip_problem.specs.Program.{Sides}
use Rattle.cip_cert.specs.declared.pricing.Priced.{Priced}
use Rattle.cip_columns.specs.PoolPoints.{PoolPoint}
use Rattle.cip_master.specs.MasterTasks.{Task}
use Rattle.cip_price.specs.Asks.{Told, Asks, Tells, MayTellTo}
use Rattle.cip_price.specs.OfferedPoints.{drops_from}
use Rattle.cip_price.specs.BlockAsks.{ask_at, IsBlockAnswer, AnswersBlock, MayAnswer}
use Rattle.cip_price.specs.declared.block_answers.BlockAnswer.{BlockAnswer}
use Rattle.cip_price.proofs.Telling.{tells_from, front_from}

-- what is told, by equal parts
pub tells_as : (told telling : Option (List Told)) (block : ℕ) (costs costs' : List ℚ) (box box' : List Sides)
    (answer answer' : Option Priced) → costs ≡ costs' → box ≡ box' → answer ≡ answer'
    → Tells told (Asks (record { block = block; costs = costs; box = box; answer = answer }) ∷ []) telling
    → Tells told (Asks (record { block = block; costs = costs'; box = box'; answer = answer' }) ∷ []) telling
tells_as told telling block costs costs' box box' answer answer' e f g h =
    subst (λ (a : Option Priced).
    Tells told (Asks (record { block = block; costs = costs'; box = box'; answer = a }) ∷ []) telling) g
    (subst (λ (b : List Sides).
    Tells told (Asks (record { block = block; costs = costs'; box = b; answer = answer }) ∷ []) telling) f
    (subst (λ (cs : List ℚ).
    Tells told (Asks (record { block = block; costs = cs; box = box; answer = answer }) ∷ []) telling) e h))

-- an answer that was taken, or that want of memory cut short
pub answered : {E : Type 0} (task : Task) (costs : List ℚ) (block : ℕ) (told middle telling : Option (List Told))
    (before after : List PoolPoint) (priced : Priced) (result : Result BlockAnswer E)
    → Tells told (Asks (ask_at task costs block (Some priced)) ∷ []) middle
    → MatchResult result (λ _. Tells middle (drops_from task block 0 priced.points.items) telling)
    (λ _. MayTellTo [] (drops_from task block 0 priced.points.items) middle telling)
    → IfOk result (IsBlockAnswer task costs block (Some priced) before after)
    → MatchResult result (AnswersBlock task costs block told telling before after)
    (λ _. MayAnswer task costs block told telling)
answered task costs block told middle telling before after priced (Ok found) t d h = record {
  answer = Some priced;
  tells =
      tells_from told middle telling (Asks (ask_at task costs block (Some priced)) ∷ [])
      (drops_from task block 0 priced.points.items) t d;
  comes = h;
}
answered task costs block told middle telling before after priced (Err e) t d h = record {
  answer = Some priced;
  tells =
      front_from told middle telling (Asks (ask_at task costs block (Some priced)) ∷ [])
      (drops_from task block 0 priced.points.items) t d;
}
