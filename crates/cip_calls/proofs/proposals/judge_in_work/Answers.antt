use Rattle.std.proofs.lemmas.Grind.{common_steps}
use Rattle.std.proofs.Common.{◌≡◌, None, IfOk, sym, ◌∙◌, subst, arith}
use Rattle.cip_plugin.specs.declared.proposals.Proposal.{Proposal}
use Rattle.cip_calls.specs.ProposalsJudged.{IsJudged, split_in}
use Rattle.cip_calls.proofs.Going.{cut_judged, cut_result, cut_err, side_judged, side_result, side_err, guess_judged, guess_result, guess_err}
use Rattle.cip_calls.proofs.proposals.judge_in_work.Goals as goal

-- ---- cuts

pub judge_cut-requires-clause-at_work : goal.judge_cut-requires-clause-at_work
judge_cut-requires-clause-at_work c = c.requires.at_work

pub judge_cut-requires-clause-room : goal.judge_cut-requires-clause-room
judge_cut-requires-clause-room c = c.requires.room

pub returns-in-Cut-clause-judged : goal.returns-in-Cut-clause-judged
returns-in-Cut-clause-judged c =
    let core = c.args.core.now in
    let node = c.args.node.now in
    subst (λ (p : Proposal). IfOk c.judge_cut.result (IsJudged core c.judge_cut.new.core node node p)) (sym c.in-Cut.is)
    (cut_judged c.judge_cut.result core c.judge_cut.new.core node c.in-Cut.cut c.judge_cut.ensures.judged)

pub returns-in-Cut-clause-goes_on : goal.returns-in-Cut-clause-goes_on
returns-in-Cut-clause-goes_on c =
    cut_result c.judge_cut.result c.args.core.now c.judge_cut.new.core c.args.node.now c.in-Cut.cut c.judge_cut.ensures.later c.judge_cut.ensures.frame c.judge_cut.ensures.judged

pub returns-in-Cut-clause-err : goal.returns-in-Cut-clause-err
returns-in-Cut-clause-err c =
    cut_err c.judge_cut.result c.args.core.now c.judge_cut.new.core c.args.node.now c.in-Cut.cut c.judge_cut.ensures.frame c.judge_cut.ensures.judged

pub returns-in-Cut-clause-later : goal.returns-in-Cut-clause-later
returns-in-Cut-clause-later c = c.judge_cut.ensures.later

pub returns-in-Cut-clause-scratches : goal.returns-in-Cut-clause-scratches
returns-in-Cut-clause-scratches c = c.judge_cut.ensures.scratches

-- ---- sides

pub judge_reduction-requires-clause-at_work : goal.judge_reduction-requires-clause-at_work
judge_reduction-requires-clause-at_work c = c.requires.at_work

pub judge_reduction-requires-clause-room : goal.judge_reduction-requires-clause-room
judge_reduction-requires-clause-room c = c.requires.room.first

pub returns-in-Reduction-clause-judged : goal.returns-in-Reduction-clause-judged
returns-in-Reduction-clause-judged c =
    let core = c.args.core.now in
    let node = c.args.node.now in
    subst (λ (p : Proposal). IfOk c.judge_reduction.result (IsJudged core c.judge_reduction.new.core node c.judge_reduction.new.node p)) (sym c.in-Reduction.is)
    (side_judged c.judge_reduction.result core c.judge_reduction.new.core node c.judge_reduction.new.node c.in-Reduction.told c.judge_reduction.ensures.answer c.judge_reduction.ensures.after)

pub returns-in-Reduction-clause-goes_on : goal.returns-in-Reduction-clause-goes_on
returns-in-Reduction-clause-goes_on c =
    side_result c.judge_reduction.result c.args.core.now c.judge_reduction.new.core c.args.node.now c.judge_reduction.new.node c.in-Reduction.told c.judge_reduction.ensures.later c.judge_reduction.ensures.after c.judge_reduction.ensures.emptied

pub returns-in-Reduction-clause-err : goal.returns-in-Reduction-clause-err
returns-in-Reduction-clause-err c =
    side_err c.judge_reduction.result c.args.core.now c.judge_reduction.new.core c.args.node.now c.judge_reduction.new.node c.in-Reduction.told c.judge_reduction.ensures.after

pub returns-in-Reduction-clause-later : goal.returns-in-Reduction-clause-later
returns-in-Reduction-clause-later c = c.judge_reduction.ensures.later

pub returns-in-Reduction-clause-scratches : goal.returns-in-Reduction-clause-scratches
returns-in-Reduction-clause-scratches c = record { first = c.judge_reduction.ensures.scratch ∙ c.requires.room.first; second = c.requires.room.second }

-- ---- points

pub judge_guess-requires : goal.judge_guess-requires
judge_guess-requires c = record { at_work = c.requires.at_work }

pub returns-in-Guess-clause-judged : goal.returns-in-Guess-clause-judged
returns-in-Guess-clause-judged c =
    let core = c.args.core.now in
    let node = c.args.node.now in
    subst (λ (p : Proposal). IfOk c.judge_guess.result (IsJudged core c.judge_guess.new.core node node p)) (sym c.in-Guess.is)
    (guess_judged c.judge_guess.result core c.judge_guess.new.core node _ _ c.judge_guess.ensures.judged c.judge_guess.ensures.after)

pub returns-in-Guess-clause-goes_on : goal.returns-in-Guess-clause-goes_on
returns-in-Guess-clause-goes_on c =
    guess_result c.judge_guess.result c.args.core.now c.judge_guess.new.core c.args.node.now _ _ c.judge_guess.ensures.later c.judge_guess.ensures.judged c.judge_guess.ensures.after

pub returns-in-Guess-clause-err : goal.returns-in-Guess-clause-err
returns-in-Guess-clause-err c = guess_err c.judge_guess.result c.args.core.now c.judge_guess.new.core c.args.node.now _ c.judge_guess.ensures.after

pub returns-in-Guess-clause-later : goal.returns-in-Guess-clause-later
returns-in-Guess-clause-later c = c.judge_guess.ensures.later

pub returns-in-Guess-clause-scratches : goal.returns-in-Guess-clause-scratches
returns-in-Guess-clause-scratches c = c.requires.room

-- ---- what a handler says

pub judge_said-requires-clause-at_work : goal.judge_said-requires-clause-at_work
judge_said-requires-clause-at_work c = c.requires.at_work

pub judge_said-requires-clause-room : goal.judge_said-requires-clause-room
judge_said-requires-clause-room c = c.requires.room

pub judge_said-requires-clause-no_split : goal.judge_said-requires-clause-no_split
judge_said-requires-clause-no_split c = sym (subst (λ (p : Proposal). None ≡ split_in p) c.in-Enforcement.is (sym c.requires.no_split))

pub returns-in-Enforcement-clause-judged : goal.returns-in-Enforcement-clause-judged
returns-in-Enforcement-clause-judged c =
    subst (λ (p : Proposal). IfOk c.judge_said.result (IsJudged c.args.core.now c.judge_said.new.core c.args.node.now c.judge_said.new.node p)) (sym c.in-Enforcement.is)
    c.judge_said.ensures.judged

pub returns-in-Enforcement-clause-goes_on : goal.returns-in-Enforcement-clause-goes_on
returns-in-Enforcement-clause-goes_on c = c.judge_said.ensures.goes_on

pub returns-in-Enforcement-clause-err : goal.returns-in-Enforcement-clause-err
returns-in-Enforcement-clause-err c = c.judge_said.ensures.err

pub returns-in-Enforcement-clause-later : goal.returns-in-Enforcement-clause-later
returns-in-Enforcement-clause-later c = c.judge_said.ensures.later

pub returns-in-Enforcement-clause-scratches : goal.returns-in-Enforcement-clause-scratches
returns-in-Enforcement-clause-scratches c = c.judge_said.ensures.scratches

pub unreachable-requires : goal.unreachable-requires
unreachable-requires c = grind (arith, common_steps)
