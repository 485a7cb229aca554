use Rattle.std.proofs.lemmas.Grind.{common_steps}
use Rattle.std.proofs.Common.{◌≡◌, get_or, sym, ap, ◌∙◌, arith}
use Rattle.std.specs.Prelude.{fold}
use Rattle.std.proofs.lemmas.List.Sums.{fold_more, fold-append}
use Rattle.cip_text_rules.specs.LineStream.{Going}
use Rattle.cip_text_rules.specs.LpBytes.{first_bytes, byte_taken}
use Rattle.cip_lp.specs.LpTexts.{shown_of}
use Rattle.cip_lp.proofs.lp_text.LpTextPieceText.take.Goals as goal

pub loop-byte-preserved : goal.loop-byte-preserved
loop-byte-preserved c =
    let piece = c.args.piece.now in
    let index = c.loop-byte.byte-index in
    c.in_ok-take_byte.ensures
    ∙ ap (λ p. byte_taken p (get_or piece index 0)) c.loop-byte.invariant
    ∙ sym (fold_more byte_taken (shown_of c.args.self.now) piece index 0 c.loop-byte-test.true)

pub returns-clause-reads : goal.returns-clause-reads
returns-clause-reads c =
    let piece = c.args.piece.now in
    let folded : shown_of c.loop-byte.self ≡ fold byte_taken (shown_of c.args.self.now) piece = grind (arith, common_steps) in
    λ bytes h. folded ∙ ap (λ s. fold byte_taken s piece) h ∙ sym (fold-append byte_taken (Going first_bytes) bytes piece)
