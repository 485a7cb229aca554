use Rattle.std.proofs.lemmas.Grind.{common_steps}
use Rattle.std.proofs.Common.{sym, ◌∙◌, arith}
use Rattle.cip_mps_lines.specs.MpsKinds.{bound_word}
use Rattle.cip_mps_lines.proofs.WordTables.{meant_here, meant_later}
use Rattle.cip_mps_lines.proofs.words.bound_kind_among.Goals as goal

pub returns-then-eq : goal.returns-then-eq
returns-then-eq c =
    sym (meant_here (λ known. bound_word known.0.now known.1) c.args.words.now c.loop-known.known-index _ c.args.word.now c.loop-known-test.true (sym c.eq.ensures ∙ c.if-eq.true))
    ∙ c.loop-known.invariant

pub loop-known-preserved : goal.loop-known-preserved
loop-known-preserved c =
    sym (meant_later (λ known. bound_word known.0.now known.1) c.args.words.now c.loop-known.known-index _ c.args.word.now c.loop-known-test.true (sym c.eq.ensures ∙ c.if-eq.false))
    ∙ c.loop-known.invariant

pub returns : goal.returns
returns c = grind (arith, common_steps)

pub offset_bounds-words-known-index : goal.offset_bounds-words-known-index
offset_bounds-words-known-index c = grind (arith, common_steps)
