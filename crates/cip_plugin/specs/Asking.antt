-- Questions and what is given, as they are told; which kind of plugin is asked what; and the first part of an answer.
use Rattle.std.specs.Prelude.{ℕ, ◌-◌, Bool, true, false, length, take}
use Rattle.cip_plugin.specs.declared.kinds.Kind.{Kind}
use Rattle.cip_plugin.specs.declared.kinds.Kind.TheVariants as kinds
use Rattle.cip_plugin.specs.declared.asking.Question.{Question}
use Rattle.cip_plugin.specs.declared.asking.Question.TheVariants as questions
use Rattle.cip_plugin.specs.declared.asking.Given.{Given}
use Rattle.cip_plugin.specs.declared.asking.Given.TheVariants as given
use Rattle.cip_plugin.specs.Answers.{cuts, reductions, priced, guesses, splits, enforced, wishes}
use Rattle.cip_plugin.specs.Calls.{Ask, Separate, Propagate, Price, Search, Branch, Enforce, OnEvent, Answer, Cuts, Reductions, Prices, Guesses, Wishes}

-- a question as it is told
abbrev pub ask_of : Question → Ask
ask_of questions.Separate = Separate
ask_of questions.Propagate = Propagate
ask_of (questions.Price block costs) = Price block costs.now
ask_of questions.Search = Search
ask_of questions.Branch = Branch
ask_of questions.Enforce = Enforce
ask_of (questions.OnEvent event) = OnEvent event

-- what is given, as it is told
abbrev pub answer_of : Given → Answer
answer_of (given.Cuts v) = cuts v.items
answer_of (given.Reductions v) = reductions v.items
answer_of (given.Priced brought) = priced brought
answer_of (given.Guesses v) = guesses v.items
answer_of (given.Split split) = splits split
answer_of (given.Enforced said) = enforced said
answer_of (given.Wishes v) = wishes v.items

-- whether a plugin of a kind is asked so
abbrev pub asks : Kind → Ask → Bool
asks kinds.Separator Separate = true
asks kinds.Propagator Propagate = true
asks kinds.Pricer (Price block costs) = true
asks kinds.Heuristic Search = true
asks kinds.BranchRule Branch = true
asks kinds.ConsHandler Enforce = true
asks kinds.ConsHandler Separate = true
asks kinds.ConsHandler Propagate = true
asks kinds.EventHandler (OnEvent event) = true
asks kind ask = false

-- the first 64 proposals or wishes of an answer
abbrev pub first_part : Answer → Answer
first_part (Cuts xs) = Cuts (take 64 xs)
first_part (Reductions xs) = Reductions (take 64 xs)
first_part (Prices brought) = Prices (record brought { points = take 64 brought.points })
first_part (Guesses xs) = Guesses (take 64 xs)
first_part (Wishes xs) = Wishes (take 64 xs)
first_part other = other

-- how many there are past them
abbrev pub count_past : Answer → ℕ
count_past (Cuts xs) = length xs - 64
count_past (Reductions xs) = length xs - 64
count_past (Prices brought) = length brought.points - 64
count_past (Guesses xs) = length xs - 64
count_past (Wishes xs) = length xs - 64
count_past other = 0
