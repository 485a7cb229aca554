use Rattle.std.proofs.lemmas.Grind.{common_steps}
use Rattle.std.proofs.Common.{ℕ, ◌+◌, sym, ap, ◌∙◌, arith}
use Rattle.cip_text.specs.PieceStands.{progress_of}
use Rattle.cip_text_rules.specs.LineStream.{Going}
use Rattle.cip_text_rules.specs.LpTokens.{tokens_from}
use Rattle.cip_text_rules.specs.LpBytes.{LpBytes, tokens_read, part_read, beyond}
use Rattle.cip_lp.specs.LpTexts.{stage_of, bytes_of}
use Rattle.cip_lp.proofs.ByteSteps.{none_is, taken_last}
use Rattle.cip_lp.proofs.LpAnswers.{beyond_going, beyond_failed}
use Rattle.cip_lp.proofs.lp_text.LpText.put_last.Goals as goal

pub returns-then-is_some : goal.returns-then-is_some
returns-then-is_some c =
    let now = c.args.self.now in
    let kept : LpBytes = record (bytes_of now) { rest = c.keep_last.new.rest.items } in
    let then = c.read_rest.new.self in
    let line = ap (λ (n : ℕ). n + 1) c.read_rest.ensures.ended in
    beyond_failed (stage_of then) (part_read kept) (bytes_of then) then.fault (then.ended + 1) (sym c.is_some.ensures ∙ c.if-is_some.true) c.in-Ok-read_rest.ensures.read
    ∙ (λ i. beyond (tokens_read (now.ended + 1) (Going (stage_of now)) (tokens_from now.front (c.in-Ok.ensures i))) (line i))
    ∙ taken_last c.args.self.now.fault (bytes_of c.args.self.now) c.args.byte c.requires.going c.requires.full

pub returns : goal.returns
returns c =
    let now = c.args.self.now in
    let kept : LpBytes = record (bytes_of now) { rest = c.keep_last.new.rest.items } in
    let then = c.read_rest.new.self in
    let line = ap (λ (n : ℕ). n + 1) c.read_rest.ensures.ended in
    beyond_going (stage_of then) (part_read kept) (bytes_of then) then.fault (then.ended + 1) (none_is then.fault (sym c.is_some.ensures ∙ c.if-is_some.false)) c.in-Ok-read_rest.ensures.read
    ∙ (λ i. beyond (tokens_read (now.ended + 1) (Going (stage_of now)) (tokens_from now.front (c.in-Ok.ensures i))) (line i))
    ∙ taken_last c.args.self.now.fault (bytes_of c.args.self.now) c.args.byte c.requires.going c.requires.full

pub invariant_of-self : goal.invariant_of-self
invariant_of-self c = grind (arith, common_steps)

pub overflow_add-self : goal.overflow_add-self
overflow_add-self c = omega arith

pub read_rest-requires : goal.read_rest-requires
read_rest-requires c = grind (arith, common_steps)
