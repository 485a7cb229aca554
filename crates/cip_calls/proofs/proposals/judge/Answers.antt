use Rattle.cip_core.specs.Steps.{IsBack}
use Rattle.std.proofs.lemmas.Result.{MatchResult-from_err}
use Rattle.std.proofs.lemmas.Grind.{common_steps}
use Rattle.cip_tree.specs.Nodes.{TakenNode}
use Rattle.cip_core.specs.CoreStates.{CoreState, IsGivenBound}
use Rattle.std.proofs.Common.{◌∙◌, sym, subst, arith}
use Rattle.cip_calls.specs.SplitsJudged.{IsSplitJudged}
use Rattle.cip_calls.proofs.Going.{whole_goes_on, whole_judged, back_touched}
use Rattle.cip_calls.proofs.proposals.judge.Goals as goal

pub returns-in-Whole-clause-ruled : goal.returns-in-Whole-clause-ruled
returns-in-Whole-clause-ruled c =
    let core = c.args.core.now in
    let new = c.judge_split.new.core in
    let split = c.in-Some.split in
    let h = subst (IsSplitJudged core new c.args.node split.col split.at) c.in-Whole.is c.in_ok-low.ensures.judged in (
      whole_judged core new c.args.node c.in-Whole.node c.args.proposal.now split c.in-Whole.fault (sym c.split_proposed.ensures ∙ c.in-Some.is) (record { core = h.0; node = h.1 }, h.2),
      whole_goes_on core new c.args.node c.in-Whole.node c.in-Whole.fault h.0 h.1 c.requires.at_work.0,
    )

pub go_back-requires-clause-given : goal.go_back-requires-clause-given
go_back-requires-clause-given c =
    let core = c.args.core.now in
    let kept = subst (λ (n : TakenNode). IsGivenBound core n.number c.args.given) (sym c.in-Err.ensures.err.1) c.requires.given in
    subst (λ (k : CoreState). IsGivenBound k c.judge_in_work.new.node.number c.args.given) (sym c.in-Err.ensures.err.0) kept

pub judge_split-requires-clause-given : goal.judge_split-requires-clause-given
judge_split-requires-clause-given c = c.requires.given

pub judge_split-requires-clause-at_work : goal.judge_split-requires-clause-at_work
judge_split-requires-clause-at_work c = c.requires.at_work

pub judge_in_work-requires-clause-at_work : goal.judge_in_work-requires-clause-at_work
judge_in_work-requires-clause-at_work c = c.requires.at_work.0

pub judge_in_work-requires-clause-no_split : goal.judge_in_work-requires-clause-no_split
judge_in_work-requires-clause-no_split c = sym c.split_proposed.ensures ∙ c.in_default.is

pub judge_in_work-requires-clause-room : goal.judge_in_work-requires-clause-room
judge_in_work-requires-clause-room c = c.requires.room

pub returns-in-Err-clause-scratches : goal.returns-in-Err-clause-scratches
returns-in-Err-clause-scratches c = omega arith

pub returns-in-Ok-clause-scratches : goal.returns-in-Ok-clause-scratches
returns-in-Ok-clause-scratches c = omega arith

pub returns-in-Err-clause-ruled : goal.returns-in-Err-clause-ruled
returns-in-Err-clause-ruled c =
    let core = c.args.core.now in
    let node = c.args.node in
    back_touched core c.go_back.new.self c.judge_in_work.new.core.touched node.number c.args.given c.judge_in_work.ensures.later.later.untouched
    (subst (λ (k : CoreState). IsBack k c.go_back.new.self node.number c.args.given) c.in-Err.ensures.err.0
    (subst (λ (n : TakenNode). IsBack c.judge_in_work.new.core c.go_back.new.self n.number c.args.given) c.in-Err.ensures.err.1 c.go_back.ensures.back))

pub returns-in-Halves-clause-ruled : goal.returns-in-Halves-clause-ruled
returns-in-Halves-clause-ruled c = grind (arith, common_steps)

pub returns-in-Ok-clause-ruled : goal.returns-in-Ok-clause-ruled
returns-in-Ok-clause-ruled c = grind (arith, common_steps)

pub go_back-requires-clause-up : goal.go_back-requires-clause-up
go_back-requires-clause-up c = grind (arith, common_steps)

pub returns-in_err-low-clause-scratches : goal.returns-in_err-low-clause-scratches
returns-in_err-low-clause-scratches c = c.requires.room

pub judge_split-requires-clause-wholes : goal.judge_split-requires-clause-wholes
judge_split-requires-clause-wholes c = grind (arith, common_steps)

pub returns-in_err-low-clause-ruled : goal.returns-in_err-low-clause-ruled
returns-in_err-low-clause-ruled c =
    MatchResult-from_err c.from_residual.result _ _ c.from_residual.ensures.0 (λ _. c.in_err-low.ensures.judged)

pub returns-in-Whole-clause-scratches : goal.returns-in-Whole-clause-scratches
returns-in-Whole-clause-scratches c = c.requires.room

pub returns-in-Halves-clause-scratches : goal.returns-in-Halves-clause-scratches
returns-in-Halves-clause-scratches c = c.requires.room
