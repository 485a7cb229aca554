-- What a plugin tells of its callbacks before and after some of them.
use Rattle.std.specs.Prelude.{◌≡◌, ℕ, ◌+◌, ◌≤◌, List, [], ◌∷◌, ◌++◌, Option, None, Some, IsSome, Bool, true, false, IsTrue, All}
use Rattle.cip_plugin.specs.Calls.{Call, Init, InitSolve, Asked, ExitSolve, Exit, NoAnswer}

-- behind these calls a plugin that told so, tells so: one that tells nothing goes on so, and one that tells adds
-- exactly the calls, or ends its telling
abbrev pub HeardBy : Option (List Call) → List Call → Option (List Call) → Type 0
HeardBy before calls None = Unit {0}
HeardBy None calls (Some after) = ⊥
HeardBy (Some before) calls (Some after) = after ≡ before ++ calls

-- the callback had the memory that it wanted
abbrev pub answered : Call → Bool
answered (Init was) = was
answered (InitSolve was) = was
answered (Asked ask NoAnswer) = false
answered (Asked ask given) = true
answered ExitSolve = true
answered Exit = true

-- how many of the calls are the two last ones of a life
abbrev pub endings : List Call → ℕ
endings [] = 0
endings (ExitSolve ∷ calls) = 1 + endings calls
endings (Exit ∷ calls) = 1 + endings calls
endings (call ∷ calls) = endings calls

-- how many of those it has told
abbrev pub told_endings : Option (List Call) → ℕ
told_endings None = 0
told_endings (Some calls) = endings calls

-- a plugin has to go on telling: it told, each callback had its memory, and for the two last ones it keeps room
pub record HasToTell (before : Option (List Call)) (calls : List Call) : Type 0 where
  pub told : IsSome before
  pub answered : All (λ call. IsTrue (answered call)) calls
  pub endings : told_endings before + endings calls ≤ 2

-- what is told behind these calls
pub record Heard (before : Option (List Call)) (calls : List Call) (after : Option (List Call)) : Type 0 where
  pub by : HeardBy before calls after
  pub tells : HasToTell before calls → IsSome after
