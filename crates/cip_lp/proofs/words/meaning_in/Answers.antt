use Rattle.std.proofs.lemmas.Grind.{common_steps}
use Rattle.std.proofs.Common.{sym, ◌∙◌, true≢false, arith}
use Rattle.std.specs.Str.{str_to_ascii_lowercase}
use Rattle.cip_lp.specs.LpKinds.{word_shown}
use Rattle.cip_lp.proofs.WordLaws.{meant_here, meant_later}
use Rattle.cip_lp.proofs.words.meaning_in.Goals as goal

pub returns-then-eq_ignore_ascii_case : goal.returns-then-eq_ignore_ascii_case
returns-then-eq_ignore_ascii_case c =
    sym (meant_here (λ known. word_shown known.0.now known.1) c.args.words.now c.loop-known.known-index _ (str_to_ascii_lowercase c.args.word.now) c.loop-known-test.true (c.eq_ignore_ascii_case.ensures.test.0 c.if-eq_ignore_ascii_case.true))
    ∙ c.loop-known.invariant

pub loop-known-preserved : goal.loop-known-preserved
loop-known-preserved c =
    sym (meant_later (λ known. word_shown known.0.now known.1) c.args.words.now c.loop-known.known-index _ (str_to_ascii_lowercase c.args.word.now) c.loop-known-test.true (λ e. true≢false (sym (c.eq_ignore_ascii_case.ensures.test.1 e) ∙ c.if-eq_ignore_ascii_case.false)))
    ∙ c.loop-known.invariant

pub returns : goal.returns
returns c = grind (arith, common_steps)

pub offset_bounds-words-known-index : goal.offset_bounds-words-known-index
offset_bounds-words-known-index c = grind (arith, common_steps)
