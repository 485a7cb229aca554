use Rattle.std.proofs.lemmas.Grind.{common_steps}
use Rattle.std.proofs.Common.{arith}
use Rattle.cip_input.specs.PointTexts.{steps_of, kept_of, values_of}
use Rattle.cip_text.proofs.Streams.{line_ended}
use Rattle.cip_input.proofs.point_text.PointText.end_line.Goals as goal

pub returns-clause-reads : goal.returns-clause-reads
returns-clause-reads c = λ s h.
    let text = c.args.self.now in
    line_ended (steps_of text) (kept_of text) _ _ _ (values_of text) _ c.read_unread-kind.result s c.args.tail.now c.requires.no_feed h c.in_ok-keep.ensures.kept c.read_unread-kind.ensures.read c.read_unread-kind.ensures.kept c.end_line.ensures

pub end_line-requires : goal.end_line-requires
end_line-requires c = grind (arith, common_steps)

pub returns-clause-size : goal.returns-clause-size
returns-clause-size c = grind (arith, common_steps)

pub invariant_of-self-2 : goal.invariant_of-self-2
invariant_of-self-2 c = grind (arith, common_steps)

pub returns-clause-same : goal.returns-clause-same
returns-clause-same c = grind (arith, common_steps)

pub invariant_of-self : goal.invariant_of-self
invariant_of-self c = grind (arith, common_steps)

pub keep-requires-clause-no_feed : goal.keep-requires-clause-no_feed
keep-requires-clause-no_feed c = grind (arith, common_steps)

pub returns-in_err-keep-clause-same : goal.returns-in_err-keep-clause-same
returns-in_err-keep-clause-same c = grind (arith, common_steps)

pub keep-requires-clause-few : goal.keep-requires-clause-few
keep-requires-clause-few c = grind (arith, common_steps)
