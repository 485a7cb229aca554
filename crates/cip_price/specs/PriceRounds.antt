-- A round of pricing: an ask of each block in order, with what came of the answers.
use Rattle.std.specs.Prelude.{◌≡◌, ℕ, suc, ◌<◌, ◌≤◌, Bool, true, false, ◌||◌, List, [], ◌∷◌, ◌++◌, length, Option, None, Some, if◌then◌else◌, ⊤, Vec}
use Rattle.std.specs.Global.{Global}
use Rattle.std.specs.List.{AllByRecursion}
use Rattle.cip_rational.specs.Rational.{ℚ}
use Rattle.cip_problem.specs.Activity.{value_at}
use Rattle.cip_cert.specs.declared.pricing.BoundTree.{BoundTree}
use Rattle.cip_columns.specs.PoolPoints.{PoolPoint}
use Rattle.cip_lagrange.specs.declared.answers.TreeBound.{TreeBound}
use Rattle.cip_lagrange.specs.declared.answers.TreeBound.TheVariants.{Finite, NoPoint}
use Rattle.cip_master.specs.MasterTasks.{Task}
use Rattle.cip_price.specs.Asks.{Asked, Told, Tells, MayTellTo}
use Rattle.cip_price.specs.OfferedPoints.{Grows, AreIn, IsLeftOut, joint}
use Rattle.cip_price.specs.BlockAsks.{costs_in, ask_of, points_in, tree_in, told_of, shown_in, closes, bound_in, AnswersBlock}
use Rattle.cip_price.specs.declared.offering.Growth.{Growth}
use Rattle.cip_price.specs.declared.offering.Growth.TheVariants.{Same, Grown, Full}
use Rattle.cip_price.specs.declared.block_answers.Accepted.{Accepted}
use Rattle.cip_price.specs.declared.block_answers.BlockAnswer.{BlockAnswer}
use Rattle.cip_price.specs.declared.block_rounds.Round.{Round}

-- each is the ask of its block at what is left of the costs, the blocks counted from a first one
abbrev pub AreAsks : Task → List ℚ → (first : ℕ) → List Asked → Type 0
AreAsks task rests first [] = ⊤
AreAsks task rests first (asked ∷ asks) =
    (asked ≡ ask_of task rests first asked.answer) × AreAsks task rests (suc first) asks

-- what is told of asks: each, with its points that are dropped
abbrev pub told_in : Task → List Asked → List Told
told_in task [] = []
told_in task (asked ∷ asks) = told_of task asked ++ told_in task asks

-- ---- what the trees show

-- the first block that nothing closes at its price
abbrev pub first_open : Task → (prices : List ℚ) → List Asked → Option ℕ
first_open task prices [] = None
first_open task prices (asked ∷ asks) =
    if closes (value_at prices asked.block) (shown_in task asked) then first_open task prices asks
    else Some asked.block

-- a tree shows that its block has no point
abbrev pub is_empty_bound : Option TreeBound → Bool
is_empty_bound None = false
is_empty_bound (Some NoPoint) = true
is_empty_bound (Some (Finite bound)) = false

abbrev pub shows_none : Task → List Asked → Bool
shows_none task [] = false
shows_none task (asked ∷ asks) = is_empty_bound (shown_in task asked) || shows_none task asks

-- the trees of all, where the check accepts each
abbrev pub cons_tree : Option BoundTree → Option TreeBound → Option (List BoundTree) → Option (List BoundTree)
cons_tree (Some tree) (Some bound) (Some trees) = Some (tree ∷ trees)
cons_tree (Some tree) (Some bound) None = None
cons_tree (Some tree) None trees = None
cons_tree None shown trees = None

abbrev pub trees_in : Task → List Asked → Option (List BoundTree)
trees_in task [] = Some []
trees_in task (asked ∷ asks) = cons_tree (tree_in asked.answer) (shown_in task asked) (trees_in task asks)

-- ---- what becomes of the pool

-- each point of its block that was answered is held
abbrev pub AreHeldOf : Task → List PoolPoint → List Asked → Type 0
AreHeldOf task points asks = AllByRecursion (λ (a : Asked). AreIn task a.block points (points_in a.answer)) asks

-- the pool is full, and a point of its block that was answered to the last ask isn't held
pub record LeavesOut (task : Task) (asks : List Asked) (points : List PoolPoint) : Type 0 where
  pub earlier : List Asked
  pub last : Asked
  pub asks_are : asks ≡ earlier ++ last ∷ []
  pub left_out : IsLeftOut task last.block points (points_in last.answer)

-- the pool before and after the asks: it is as it was, and holds what was answered; it has grown, and holds it; or it
-- is full, with a point of the last ask left out
abbrev pub IsGrown : Task → List Asked → List PoolPoint → List PoolPoint → Growth → Type 0
IsGrown task asks before after Same = (after ≡ before) × AreHeldOf task after asks
IsGrown task asks before after Grown = Grows before after × (length before < length after) × AreHeldOf task after asks
IsGrown task asks before after Full = Grows before after × LeavesOut task asks after

-- ---- what is put together, block by block

-- the first block that nothing closes: one of before, or this one
abbrev pub first_gap : Option ℕ → ℕ → Bool → Option ℕ
first_gap (Some before) block closed = Some before
first_gap None block true = None
first_gap None block false = Some block

-- the tree of one more block
abbrev pub IsTreePut : Option (Vec BoundTree Global) → Option Accepted → Option (Vec BoundTree Global) → Type 0
IsTreePut None accepted after = after ≡ None
IsTreePut (Some trees) None after = after ≡ None
IsTreePut (Some trees) (Some accepted) None = ⊥
IsTreePut (Some trees) (Some accepted) (Some after) = after.items ≡ trees.items ++ accepted.tree ∷ []

-- what came of the answer for one more block, at this price
pub record ArePut (block : ℕ) (price : ℚ) (found : BlockAnswer) (before after : Round) : Type 0 where
  pub growth : after.growth ≡ joint before.growth found.growth
  pub gap : after.gap ≡ first_gap before.gap block (closes price (bound_in found.accepted))
  pub none : after.is_empty ≡ (before.is_empty || is_empty_bound (bound_in found.accepted))
  pub trees : IsTreePut before.trees found.accepted after.trees

-- one more block was asked, and what came of its answer is put
pub record IsBlockPut (task : Task) (rests prices : List ℚ) (block : ℕ) (told telling : Option (List Told))
    (points next : List PoolPoint) (before after : Round) : Type 0 where
  pub found : BlockAnswer
  pub answers : AnswersBlock task (costs_in task rests block) block told telling points next found
  pub put : ArePut block (value_at prices block) found before after

-- these are the trees, if there are any
abbrev pub AreTrees : Option (List BoundTree) → Option (Vec BoundTree Global) → Type 0
AreTrees trees None = trees ≡ None
AreTrees trees (Some kept) = trees ≡ Some kept.items

-- ---- a round

-- what the asks come to: the first block that nothing closes, whether one has no point, and the trees
pub record IsTold (task : Task) (prices : List ℚ) (asks : List Asked) (round : Round) : Type 0 where
  pub gap : round.gap ≡ first_open task prices asks
  pub none : round.is_empty ≡ shows_none task asks
  pub trees : AreTrees (trees_in task asks) round.trees

-- the asks of a round: of all blocks, or as far as the pool took the points
abbrev pub AreAll : Task → (prices : List ℚ) → List Asked → Round → Growth → Type 0
AreAll task prices asks round Same =
    (length asks ≡ length task.kept.subproblems.items) × IsTold task prices asks round
AreAll task prices asks round Grown =
    (length asks ≡ length task.kept.subproblems.items) × IsTold task prices asks round
AreAll task prices asks round Full = length asks ≤ length task.kept.subproblems.items

-- what came of a round: all blocks were asked, unless the pool is full
pub record IsRound (task : Task) (rests prices : List ℚ) (told telling : Option (List Told))
    (before after : List PoolPoint) (round : Round) : Type 0 where
  pub asks : List Asked
  pub are_asks : AreAsks task rests 0 asks
  pub tells : Tells told (told_in task asks) telling
  pub grown : IsGrown task asks before after round.growth
  pub all : AreAll task prices asks round round.growth

-- a round that want of memory cut short: of some blocks a front part is told of what there is to tell, if anything is
-- still told
pub record MayRound (task : Task) (rests : List ℚ) (told telling : Option (List Told)) : Type 0 where
  pub asks : List Asked
  pub are_asks : AreAsks task rests 0 asks
  pub few : length asks ≤ length task.kept.subproblems.items
  pub tells : MayTellTo [] (told_in task asks) told telling
