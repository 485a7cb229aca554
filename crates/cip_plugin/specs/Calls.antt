-- The callbacks of a plugin, each with what it was asked and what it answered, as lists without a place in memory.
use Rattle.std.specs.Prelude.{ℕ, List, Option, Bool, ℤ}
use Rattle.cip_rational.specs.Rational.{ℚ}
use Rattle.cip_cert.specs.Lent.{Multiples}
use Rattle.cip_cert.specs.declared.splits.FormTerm.{FormTerm}
use Rattle.cip_model.specs.Side.{Side}
use Rattle.cip_events.specs.declared.events.Event.{Event}
use Rattle.cip_plugin.specs.declared.proposals.Split.{Split}
use Rattle.cip_plugin.specs.declared.proposals.Wish.{Wish}

-- what a plugin is asked for
pub data Ask : Type 0 where
  Separate : Ask
  Propagate : Ask
  Price : (block : ℕ) (costs : List ℚ) → Ask
  Search : Ask
  Branch : Ask
  Enforce : Ask
  OnEvent : (event : Event) → Ask

-- a split: its form and number, and the combination and the factor of each side
pub record ToldSplit : Type 0 where
  pub form : List FormTerm
  pub k : ℤ
  pub left : Multiples
  pub left_factor : ℚ
  pub right : Multiples
  pub right_factor : ℚ

-- a cut: its combination, whether it is rounded and local, and its split, where there is one
pub record ToldCut : Type 0 where
  pub combo : Multiples
  pub round : Bool
  pub local : Bool
  pub split : Option ToldSplit

-- a reduction: the side of a column, and the combination
pub record ToldReduction : Type 0 where
  pub col : ℕ
  pub side : Side
  pub value : ℚ
  pub combo : Multiples

-- a proof of a bound over a block
pub data ToldTree : Type 0 where
  Bound : (combo : Multiples) → ToldTree
  Empty : (combo : Multiples) → ToldTree
  Halves : (col : ℕ) (at : ℤ) (low high : ToldTree) → ToldTree

-- points of a block, and a proof of a bound
pub record ToldPriced : Type 0 where
  pub points : List (List ℚ)
  pub tree : Option ToldTree

-- what a handler says of a point
pub data ToldEnforced : Type 0 where
  Cutoff : (combo : Multiples) → ToldEnforced
  Reduced : (reduction : ToldReduction) → ToldEnforced
  Separated : (cut : ToldCut) → ToldEnforced
  Branched : (split : Split) → ToldEnforced
  Infeasible : ToldEnforced
  Feasible : ToldEnforced

-- what a plugin answered; none where it wanted memory
pub data Answer : Type 0 where
  Cuts : List ToldCut → Answer
  Reductions : List ToldReduction → Answer
  Prices : ToldPriced → Answer
  Guesses : List (List ℚ) → Answer
  Splits : Option Split → Answer
  Says : ToldEnforced → Answer
  Wishes : List Wish → Answer
  NoAnswer : Answer

-- a callback; of the first two, whether memory was there
pub data Call : Type 0 where
  Init : (answered : Bool) → Call
  InitSolve : (answered : Bool) → Call
  Asked : (ask : Ask) (answer : Answer) → Call
  ExitSolve : Call
  Exit : Call
