use Rattle.std.proofs.lemmas.Grind.{common_steps}
use Rattle.std.proofs.Common.{ℕ, ◌+◌, List, [], ◌∷◌, ◌++◌, false, ap, sym, ◌∙◌, arith}
use Rattle.cip_text_rules.specs.LpBytes.{part_read, in_comment}
use Rattle.cip_lp.specs.LpTexts.{stage_of, bytes_of}
use Rattle.cip_lp.proofs.LpAnswers.{moved}
use Rattle.cip_lp.proofs.ByteSteps.{put_comment, put_cut, put_longer, taken_put}
use Rattle.cip_lp.proofs.lp_text.LpText.put.Goals as goal

pub returns-then-in_comment : goal.returns-then-in_comment
returns-then-in_comment c =
    let now = c.args.self.now in
    put_comment now.fault (bytes_of now) c.args.byte c.requires.going (ap in_comment (sym c.as_slice.ensures.value) ∙ sym c.in_comment.ensures ∙ c.if-in_comment.true)
    ∙ taken_put now.fault (bytes_of now) c.args.byte c.requires.going c.requires.few c.requires.other

pub returns-then-is_cut : goal.returns-then-is_cut
returns-then-is_cut c =
    let now = c.args.self.now in
    let then = c.read_rest.new.self in
    put_cut _ (bytes_of now) c.args.byte (ap in_comment (sym c.as_slice.ensures.value) ∙ sym c.in_comment.ensures ∙ c.if-in_comment.false) (sym c.is_cut.ensures ∙ c.if-is_cut.true)
    (moved then.fault (stage_of then) (part_read (bytes_of now)) then.ended now.ended false _ (c.args.byte ∷ []) (then.size + 1) (now.size + 1) c.in-Ok.ensures.read c.read_rest.ensures.ended
    (c.in-Ok-push.ensures.items ∙ ap (λ (rest : List ℕ). rest ++ c.args.byte ∷ []) c.in-Ok.ensures.rest)
    (ap (λ (n : ℕ). n + 1) c.read_rest.ensures.size))
    ∙ taken_put now.fault (bytes_of now) c.args.byte c.requires.going c.requires.few c.requires.other

pub returns : goal.returns
returns c =
    let now = c.args.self.now in
    put_longer now.fault (bytes_of now) c.args.byte _ c.requires.going (ap in_comment (sym c.as_slice.ensures.value) ∙ sym c.in_comment.ensures ∙ c.if-in_comment.false) (sym c.is_cut.ensures ∙ c.if-is_cut.false) c.in-Ok-push-2.ensures.items
    ∙ taken_put now.fault (bytes_of now) c.args.byte c.requires.going c.requires.few c.requires.other

pub invariant_of-self-then-is_cut : goal.invariant_of-self-then-is_cut
invariant_of-self-then-is_cut c = grind (arith, common_steps)

pub overflow_add-self-then-is_cut : goal.overflow_add-self-then-is_cut
overflow_add-self-then-is_cut c = grind (arith, common_steps)

pub invariant_of-self-2 : goal.invariant_of-self-2
invariant_of-self-2 c = grind (arith, common_steps)

pub overflow_add-self-2 : goal.overflow_add-self-2
overflow_add-self-2 c = grind (arith, common_steps)

pub overflow_add-self : goal.overflow_add-self
overflow_add-self c = grind (arith, common_steps)

pub invariant_of-self : goal.invariant_of-self
invariant_of-self c = grind (arith, common_steps)

pub read_rest-requires : goal.read_rest-requires
read_rest-requires c = grind (arith, common_steps)
