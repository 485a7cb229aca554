-- Answers of callbacks as they are told.
use Rattle.std.specs.Prelude.{List, Option, None, Some, Result, Ok, Err, map}
use Rattle.cip_cert.specs.Lent.{multiples_of}
use Rattle.cip_cert.specs.declared.splits.SplitCut.{SplitCut}
use Rattle.cip_plugin.specs.declared.proposals.Cut.{Cut}
use Rattle.cip_plugin.specs.declared.proposals.Reduction.{Reduction}
use Rattle.cip_plugin.specs.declared.proposals.Guess.{Guess}
use Rattle.cip_plugin.specs.declared.proposals.Split.{Split}
use Rattle.cip_plugin.specs.declared.proposals.Wish.{Wish}
use Rattle.cip_plugin.specs.declared.proposals.Enforced.{Enforced}
use Rattle.cip_plugin.specs.declared.proposals.Enforced.TheVariants as enforcing
use Rattle.cip_cert.specs.declared.pricing.BoundTree.{BoundTree}
use Rattle.cip_cert.specs.declared.pricing.BoundTree as trees
use Rattle.cip_cert.specs.declared.pricing.Priced.{Priced}
use Rattle.cip_plugin.specs.Calls as calls
use Rattle.cip_plugin.specs.Calls.{ToldSplit, ToldCut, ToldReduction, ToldTree, ToldEnforced, Answer, Cuts, Reductions, Prices, Guesses, Splits, Says, Wishes, NoAnswer}

-- a split of a cut as it is told
abbrev pub told_split : SplitCut → ToldSplit
told_split split = record {
  form = split.form.items;
  k = split.k;
  left = multiples_of split.left;
  left_factor = split.left_factor;
  right = multiples_of split.right;
  right_factor = split.right_factor;
}

-- the split, where there is one
abbrev pub told_basis : Option SplitCut → Option ToldSplit
told_basis None = None
told_basis (Some split) = Some (told_split split)

-- a cut as it is told
abbrev pub told_cut : Cut → ToldCut
told_cut cut = record {
  combo = multiples_of cut.combo;
  round = cut.round;
  local = cut.local;
  split = told_basis cut.split;
}

-- a reduction as it is told
abbrev pub told_reduction : Reduction → ToldReduction
told_reduction reduction = record {
  col = reduction.col;
  side = reduction.side;
  value = reduction.value;
  combo = multiples_of reduction.combo;
}

-- a proof of a bound as it is told
abbrev pub told_tree : BoundTree → ToldTree
told_tree (trees.Bound combo) = calls.Bound (multiples_of combo)
told_tree (trees.Empty combo) = calls.Empty (multiples_of combo)
told_tree (trees.Split' col at _ low _ high) = calls.Halves col at (told_tree low) (told_tree high)

-- the proof, where there is one
abbrev pub told_proof : Option BoundTree → Option ToldTree
told_proof None = None
told_proof (Some tree) = Some (told_tree tree)

-- what a handler says, as it is told
abbrev pub told_enforced : Enforced → ToldEnforced
told_enforced (enforcing.Cutoff combo) = calls.Cutoff (multiples_of combo)
told_enforced (enforcing.Reduced reduction) = calls.Reduced (told_reduction reduction)
told_enforced (enforcing.Separated cut) = calls.Separated (told_cut cut)
told_enforced (enforcing.Branched split) = calls.Branched split
told_enforced enforcing.Infeasible = calls.Infeasible
told_enforced enforcing.Feasible = calls.Feasible

-- the answers of the seven kinds
abbrev pub cuts : List Cut → Answer
cuts xs = Cuts (map told_cut xs)

abbrev pub reductions : List Reduction → Answer
reductions xs = Reductions (map told_reduction xs)

abbrev pub priced : Priced → Answer
priced brought = Prices (record {
  points = map (λ p. p.values.items) brought.points.items;
  tree = told_proof brought.tree;
})

abbrev pub guesses : List Guess → Answer
guesses xs = Guesses (map (λ g. g.values.items) xs)

abbrev pub splits : Option Split → Answer
splits split = Splits split

abbrev pub enforced : Enforced → Answer
enforced said = Says (told_enforced said)

abbrev pub wishes : List Wish → Answer
wishes xs = Wishes xs

-- the answer of a result; none where memory was refused
abbrev pub answer : {A E : Type 0} → Result A E → (A → Answer) → Answer
answer (Ok x) said = said x
answer (Err error) said = NoAnswer
