use Rattle.std.proofs.lemmas.Grind.{common_steps}
use Rattle.std.proofs.Common.{◌≡◌, length, arith}
use Rattle.std.proofs.lemmas.List.{map-set, length-map, take_more_set}
use Rattle.cip_mps_lines.specs.FirstWords.{texts}
use Rattle.cip_mps_lines.proofs.fields.Words.push.Goals as goal

pub returns-clause-words : goal.returns-clause-words
returns-clause-words c =
    let kept = c.args.self.now in
    let six : length (texts kept.words) ≡ 6 = cc (length-map kept.words (λ word. word.now)) in
    rw (map-set (λ word. word.now) kept.words kept.count c.args.word) (take_more_set (texts kept.words) kept.count c.args.word.now (omega (arith, six, c.requires)))

pub overflow_add-self : goal.overflow_add-self
overflow_add-self c = grind (arith, common_steps)

pub offset_bounds-self-self : goal.offset_bounds-self-self
offset_bounds-self-self c = grind (arith, common_steps)

pub bounds-self-self : goal.bounds-self-self
bounds-self-self c = grind (arith, common_steps)

pub returns-clause-counted : goal.returns-clause-counted
returns-clause-counted c = grind (arith, common_steps)
