use Rattle.std.proofs.Common.{◌≡◌, drop, map}
use Rattle.cip_text_rules.specs.MpsWords.{meaning_in}
use Rattle.cip_mps_lines.specs.MpsKinds.{section_word}
use Rattle.cip_mps_lines.proofs.words.section_in.Given as goal

abbrev pub invariant-loop-known : goal.invariant-loop-known
invariant-loop-known l =
    meaning_in (map (λ known. section_word known.0.now known.1) (drop l.known-index l.words)) l.word
    ≡ meaning_in (map (λ known. section_word known.0.now known.1) l.words) l.word
