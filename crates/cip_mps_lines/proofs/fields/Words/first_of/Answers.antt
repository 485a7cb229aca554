use Rattle.std.proofs.lemmas.Grind.{common_steps}
use Rattle.std.proofs.Common.{arith}
use Rattle.cip_text.specs.TextLines.{fields_left}
use Rattle.cip_mps_lines.specs.FirstWords.{words_of}
use Rattle.cip_mps_lines.proofs.FieldCuts.{all_words, six_words}
use Rattle.cip_mps_lines.proofs.fields.Words.first_of.Goals as goal

pub returns-in_default : goal.returns-in_default
returns-in_default c =
    let kept = c.loop-kept.kept in
    all_words (words_of kept) (fields_left c.loop-kept.left) (fields_left c.args.fields.now) c.loop-kept.invariant.joined (c.in_default.ensures).0 (omega (arith, c.loop-kept.invariant.as_many, kept.counted))

pub returns : goal.returns
returns c =
    let kept = c.loop-kept.kept in
    six_words (words_of kept) (fields_left c.loop-kept.left) (fields_left c.args.fields.now) c.loop-kept.invariant.joined (omega (arith, c.loop-kept.invariant.as_many, c.loop-kept-test.false, kept.counted))

pub loop-kept-preserved : goal.loop-kept-preserved
loop-kept-preserved c = grind (arith, common_steps)

pub loop-kept-smaller : goal.loop-kept-smaller
loop-kept-smaller c = grind (arith, common_steps)

pub push-requires : goal.push-requires
push-requires c = grind (arith, common_steps)

pub loop-kept-init : goal.loop-kept-init
loop-kept-init c = grind (arith, common_steps)
