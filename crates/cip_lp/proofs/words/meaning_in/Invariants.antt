use Rattle.std.proofs.Common.{◌≡◌, drop, map}
use Rattle.std.specs.Str.{str_to_ascii_lowercase}
use Rattle.cip_text_rules.specs.MpsWords.{meaning_in}
use Rattle.cip_lp.specs.LpKinds.{word_shown}
use Rattle.cip_lp.proofs.words.meaning_in.Given as goal

abbrev pub invariant-loop-known : goal.invariant-loop-known
invariant-loop-known l =
    meaning_in (map (λ known. word_shown known.0.now known.1) (drop l.known-index l.words)) (str_to_ascii_lowercase l.word)
    ≡ meaning_in (map (λ known. word_shown known.0.now known.1) l.words) (str_to_ascii_lowercase l.word)
