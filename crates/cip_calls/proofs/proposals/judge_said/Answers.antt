use Rattle.std.proofs.lemmas.Grind.{common_steps}
use Rattle.std.proofs.Common.{IfOk, refl, sym, ◌∙◌, subst, arith}
use Rattle.cip_core.proofs.Relations.{later_at_itself}
use Rattle.cip_plugin.specs.declared.proposals.Enforced.{Enforced}
use Rattle.cip_calls.specs.ProposalsJudged.{IsSaid}
use Rattle.cip_calls.proofs.Going.{same_goes_on, word_goes_on, cut_judged, cut_result, cut_err, side_judged, side_result, side_err}
use Rattle.cip_calls.proofs.proposals.judge_said.Goals as goal

-- ---- a combination

pub judge_cutoff-requires-clause-at_work : goal.judge_cutoff-requires-clause-at_work
judge_cutoff-requires-clause-at_work c = c.requires.at_work

pub judge_cutoff-requires-clause-room : goal.judge_cutoff-requires-clause-room
judge_cutoff-requires-clause-room c = c.requires.room.first

pub returns-in-Cutoff-clause-judged : goal.returns-in-Cutoff-clause-judged
returns-in-Cutoff-clause-judged c =
    let core = c.args.core.now in
    let node = c.args.node.now in
    subst (λ (s : Enforced). IsSaid core core node node s c.judge_cutoff.result) (sym c.in-Cutoff.is) (record { core = refl; node = refl }, c.judge_cutoff.ensures.answer)

pub returns-in-Cutoff-clause-goes_on : goal.returns-in-Cutoff-clause-goes_on
returns-in-Cutoff-clause-goes_on c =
    same_goes_on c.args.core.now c.args.node.now c.judge_cutoff.result c.requires.at_work c.judge_cutoff.ensures.emptied

pub returns-in-Cutoff-clause-later : goal.returns-in-Cutoff-clause-later
returns-in-Cutoff-clause-later c = later_at_itself c.args.core.now c.args.node.now c.requires.at_work

pub returns-in-Cutoff-clause-scratches : goal.returns-in-Cutoff-clause-scratches
returns-in-Cutoff-clause-scratches c = record { first = c.judge_cutoff.ensures.scratch ∙ c.requires.room.first; second = c.requires.room.second }

-- ---- a side

pub judge_reduction-requires-clause-at_work : goal.judge_reduction-requires-clause-at_work
judge_reduction-requires-clause-at_work c = c.requires.at_work

pub judge_reduction-requires-clause-room : goal.judge_reduction-requires-clause-room
judge_reduction-requires-clause-room c = c.requires.room.first

pub returns-in-Reduced-clause-judged : goal.returns-in-Reduced-clause-judged
returns-in-Reduced-clause-judged c =
    let core = c.args.core.now in
    let node = c.args.node.now in
    subst (λ (s : Enforced). IfOk c.judge_reduction.result (IsSaid core c.judge_reduction.new.core node c.judge_reduction.new.node s)) (sym c.in-Reduced.is)
    (side_judged c.judge_reduction.result core c.judge_reduction.new.core node c.judge_reduction.new.node c.in-Reduced.told c.judge_reduction.ensures.answer c.judge_reduction.ensures.after)

pub returns-in-Reduced-clause-goes_on : goal.returns-in-Reduced-clause-goes_on
returns-in-Reduced-clause-goes_on c =
    side_result c.judge_reduction.result c.args.core.now c.judge_reduction.new.core c.args.node.now c.judge_reduction.new.node c.in-Reduced.told c.judge_reduction.ensures.later c.judge_reduction.ensures.after c.judge_reduction.ensures.emptied

pub returns-in-Reduced-clause-err : goal.returns-in-Reduced-clause-err
returns-in-Reduced-clause-err c =
    side_err c.judge_reduction.result c.args.core.now c.judge_reduction.new.core c.args.node.now c.judge_reduction.new.node c.in-Reduced.told c.judge_reduction.ensures.after

pub returns-in-Reduced-clause-later : goal.returns-in-Reduced-clause-later
returns-in-Reduced-clause-later c = c.judge_reduction.ensures.later

pub returns-in-Reduced-clause-scratches : goal.returns-in-Reduced-clause-scratches
returns-in-Reduced-clause-scratches c = record { first = c.judge_reduction.ensures.scratch ∙ c.requires.room.first; second = c.requires.room.second }

-- ---- a row

pub judge_cut-requires-clause-at_work : goal.judge_cut-requires-clause-at_work
judge_cut-requires-clause-at_work c = c.requires.at_work

pub judge_cut-requires-clause-room : goal.judge_cut-requires-clause-room
judge_cut-requires-clause-room c = c.requires.room

pub returns-in-Separated-clause-judged : goal.returns-in-Separated-clause-judged
returns-in-Separated-clause-judged c =
    let core = c.args.core.now in
    let node = c.args.node.now in
    subst (λ (s : Enforced). IfOk c.judge_cut.result (IsSaid core c.judge_cut.new.core node node s)) (sym c.in-Separated.is)
    (cut_judged c.judge_cut.result core c.judge_cut.new.core node c.in-Separated.cut c.judge_cut.ensures.judged)

pub returns-in-Separated-clause-goes_on : goal.returns-in-Separated-clause-goes_on
returns-in-Separated-clause-goes_on c =
    cut_result c.judge_cut.result c.args.core.now c.judge_cut.new.core c.args.node.now c.in-Separated.cut c.judge_cut.ensures.later c.judge_cut.ensures.frame c.judge_cut.ensures.judged

pub returns-in-Separated-clause-err : goal.returns-in-Separated-clause-err
returns-in-Separated-clause-err c =
    cut_err c.judge_cut.result c.args.core.now c.judge_cut.new.core c.args.node.now c.in-Separated.cut c.judge_cut.ensures.frame c.judge_cut.ensures.judged

pub returns-in-Separated-clause-later : goal.returns-in-Separated-clause-later
returns-in-Separated-clause-later c = c.judge_cut.ensures.later

pub returns-in-Separated-clause-scratches : goal.returns-in-Separated-clause-scratches
returns-in-Separated-clause-scratches c = c.judge_cut.ensures.scratches

-- ---- a word

pub returns-in-Infeasible-clause-judged : goal.returns-in-Infeasible-clause-judged
returns-in-Infeasible-clause-judged c =
    rw c.in-Infeasible.is (record { core = refl; node = refl }, refl)

pub returns-in-Infeasible-clause-goes_on : goal.returns-in-Infeasible-clause-goes_on
returns-in-Infeasible-clause-goes_on c = word_goes_on c.args.core.now c.args.node.now c.requires.at_work

pub returns-in-Infeasible-clause-later : goal.returns-in-Infeasible-clause-later
returns-in-Infeasible-clause-later c = later_at_itself c.args.core.now c.args.node.now c.requires.at_work

pub returns-in-Feasible-clause-judged : goal.returns-in-Feasible-clause-judged
returns-in-Feasible-clause-judged c =
    rw c.in-Feasible.is (record { core = refl; node = refl }, refl)

pub returns-in-Feasible-clause-goes_on : goal.returns-in-Feasible-clause-goes_on
returns-in-Feasible-clause-goes_on c = word_goes_on c.args.core.now c.args.node.now c.requires.at_work

pub returns-in-Feasible-clause-later : goal.returns-in-Feasible-clause-later
returns-in-Feasible-clause-later c = later_at_itself c.args.core.now c.args.node.now c.requires.at_work

pub unreachable-requires : goal.unreachable-requires
unreachable-requires c = grind (arith, common_steps)

pub returns-in-Feasible-clause-err : goal.returns-in-Feasible-clause-err
returns-in-Feasible-clause-err c = grind (arith, common_steps)

pub returns-in-Infeasible-clause-err : goal.returns-in-Infeasible-clause-err
returns-in-Infeasible-clause-err c = grind (arith, common_steps)

pub returns-in-Cutoff-clause-err : goal.returns-in-Cutoff-clause-err
returns-in-Cutoff-clause-err c = grind (arith, common_steps)

pub returns-in-Feasible-clause-scratches : goal.returns-in-Feasible-clause-scratches
returns-in-Feasible-clause-scratches c = grind (arith, common_steps)

pub returns-in-Infeasible-clause-scratches : goal.returns-in-Infeasible-clause-scratches
returns-in-Infeasible-clause-scratches c = grind (arith, common_steps)
