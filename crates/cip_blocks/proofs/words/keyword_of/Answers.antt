use Rattle.std.proofs.Common.{false, true, ap, ◌∙◌, arith}
use Rattle.std.specs.Str.{bytes_eq}
use Rattle.std.proofs.lemmas.Grind.{common_steps}
use Rattle.cip_blocks.proofs.BlockNumbers.{words_tried}
use Rattle.cip_blocks.proofs.words.keyword_of.Goals as goal

pub returns-then-eq-3 : goal.returns-then-eq-3
returns-then-eq-3 c = grind (arith, common_steps)

pub returns-then-eq-2 : goal.returns-then-eq-2
returns-then-eq-2 c = grind (arith, common_steps)

pub returns-then-eq : goal.returns-then-eq
returns-then-eq c = grind (arith, common_steps)

pub returns-else-eq-4 : goal.returns-else-eq-4
returns-else-eq-4 c =
    words_tried _ _ _ _ false _ _ _ _ _
    (c.if-eq.ensures ∙ ap (bytes_eq c.args.word.now) c.as_slice.ensures)
    (c.if-eq-2.ensures ∙ ap (bytes_eq c.args.word.now) c.as_slice-else-eq.ensures)
    (c.if-eq-3.ensures ∙ ap (bytes_eq c.args.word.now) c.as_slice-else-eq-2.ensures)
    (c.if-eq-4.ensures ∙ ap (bytes_eq c.args.word.now) c.as_slice-else-eq-3.ensures)

pub returns-then-eq-4 : goal.returns-then-eq-4
returns-then-eq-4 c =
    words_tried _ _ _ _ true _ _ _ _ _
    (c.if-eq.ensures ∙ ap (bytes_eq c.args.word.now) c.as_slice.ensures)
    (c.if-eq-2.ensures ∙ ap (bytes_eq c.args.word.now) c.as_slice-else-eq.ensures)
    (c.if-eq-3.ensures ∙ ap (bytes_eq c.args.word.now) c.as_slice-else-eq-2.ensures)
    (c.if-eq-4.ensures ∙ ap (bytes_eq c.args.word.now) c.as_slice-else-eq-3.ensures)
