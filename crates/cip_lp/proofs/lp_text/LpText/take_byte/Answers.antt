use Rattle.std.proofs.lemmas.Grind.{common_steps}
use Rattle.std.proofs.Common.{ℕ, ◌+◌, ◌<◌, [], true, is_some, sym, ap, ◌∙◌, arith}
use Rattle.cip_problem.specs.Limits.{longest_text}
use Rattle.cip_text_rules.specs.LpBytes.{part_read}
use Rattle.cip_lp.specs.LpTexts.{stage_of, bytes_of}
use Rattle.cip_lp.proofs.ByteSteps.{taken_failed, taken_feed}
use Rattle.cip_lp.proofs.LpAnswers.{moved}
use Rattle.cip_lp.proofs.lp_text.LpText.take_byte.Goals as goal

pub returns-in-Some : goal.returns-in-Some
returns-in-Some c =
    let now = c.args.self.now in
    taken_failed now.fault (bytes_of now) c.args.byte (ap is_some c.in-Some.is)

pub returns-then-is_line_feed : goal.returns-then-is_line_feed
returns-then-is_line_feed c =
    let now = c.args.self.now in
    let then = c.read_rest.new.self in
    let few : now.size < longest_text = omega arith in
    moved then.fault (stage_of then) (part_read (bytes_of now)) (then.ended + 1) (now.ended + 1) true then.rest.items [] (then.size + 1) (now.size + 1) c.in_ok-read_rest-in-None.ensures.read
    (ap (λ (n : ℕ). n + 1) c.read_rest.ensures.ended) c.in_ok-read_rest-in-None.ensures.rest (ap (λ (n : ℕ). n + 1) c.read_rest.ensures.size)
    ∙ taken_feed now.fault (bytes_of now) c.args.byte c.in-None.is few (sym c.is_line_feed.ensures ∙ c.if-is_line_feed.true)

pub put-requires-clause-few : goal.put-requires-clause-few
put-requires-clause-few c = grind (arith, common_steps)

pub invariant_of-self : goal.invariant_of-self
invariant_of-self c = grind (arith, common_steps)

pub overflow_add-self-then-is_line_feed : goal.overflow_add-self-then-is_line_feed
overflow_add-self-then-is_line_feed c = grind (arith, common_steps)

pub overflow_add-self : goal.overflow_add-self
overflow_add-self c = grind (arith, common_steps)

pub returns-else-is_line_feed : goal.returns-else-is_line_feed
returns-else-is_line_feed c = grind (arith, common_steps)

pub returns-then-self-ge-LONGEST_TEXT : goal.returns-then-self-ge-LONGEST_TEXT
returns-then-self-ge-LONGEST_TEXT c = grind (arith, common_steps)

pub put-requires-clause-other : goal.put-requires-clause-other
put-requires-clause-other c = grind (arith, common_steps)

pub put_last-requires-clause-full : goal.put_last-requires-clause-full
put_last-requires-clause-full c = grind (arith, common_steps)

pub put-requires-clause-going : goal.put-requires-clause-going
put-requires-clause-going c = grind (arith, common_steps)

pub read_rest-requires : goal.read_rest-requires
read_rest-requires c = grind (arith, common_steps)

pub put_last-requires-clause-going : goal.put_last-requires-clause-going
put_last-requires-clause-going c = grind (arith, common_steps)
