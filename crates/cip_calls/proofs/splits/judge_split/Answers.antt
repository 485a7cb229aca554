use Rattle.std.proofs.lemmas.Result.{MatchResult-from_err}
use Rattle.cip_calls.proofs.SplitParts.{split_there, left_there}
use Rattle.std.proofs.lemmas.Grind.{common_steps}
use Rattle.std.proofs.Common.{arith}
use Rattle.cip_calls.specs.SplitsJudged.{IsPlace}
use Rattle.cip_calls.proofs.splits.judge_split.Goals as goal

pub split-requires-clause-place : goal.split-requires-clause-place
split-requires-clause-place c =
    let core = c.args.core.now in
    let split = c.args.split in
    let place : IsPlace core split.col split.at = c.in_default.ensures in
    split_there core c.args.node split.col split.at c.is_sound.ensures.reduced c.requires.at_work place

pub split-requires-clause-at_work : goal.split-requires-clause-at_work
split-requires-clause-at_work c = c.requires.at_work.0

pub split-requires-clause-given : goal.split-requires-clause-given
split-requires-clause-given c = c.requires.given

pub split-requires-clause-wholes : goal.split-requires-clause-wholes
split-requires-clause-wholes c = c.requires.wholes

pub split_refusal-requires : goal.split_refusal-requires
split_refusal-requires c = record { at_work = c.requires.at_work.0 }

pub returns-in-Some-clause-judged : goal.returns-in-Some-clause-judged
returns-in-Some-clause-judged c = grind (arith, common_steps)

pub returns-clause-frame : goal.returns-clause-frame
returns-clause-frame c = c.split.ensures.frame

pub returns-in-Some-clause-frame : goal.returns-in-Some-clause-frame
returns-in-Some-clause-frame c = grind (arith, common_steps)

pub returns-clause-judged : goal.returns-clause-judged
returns-clause-judged c =
    let place : IsPlace c.args.core.now c.args.split.col c.args.split.at = c.in_default.ensures in
    left_there c.args.core.now c.split.new.self c.args.node c.args.split.col c.args.split.at c.in_ok-low.low c.in_ok-low.high
    place.named.near c.in_ok-low.ensures.split

pub returns-in_err-low-clause-judged : goal.returns-in_err-low-clause-judged
returns-in_err-low-clause-judged c =
    MatchResult-from_err c.from_residual.result _ _ c.from_residual.ensures.0 (λ _. c.in_err-low.ensures.split)

pub returns-in_err-low-clause-frame : goal.returns-in_err-low-clause-frame
returns-in_err-low-clause-frame c = c.split.ensures.frame
