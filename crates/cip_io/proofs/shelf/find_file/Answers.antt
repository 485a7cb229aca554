use Rattle.std.proofs.lemmas.Grind.{common_steps}
use Rattle.std.proofs.Common.{◌≡◌, ◌∙◌, rules, true, arith}
use Rattle.std.specs.Prelude.{string_bytes}
use Rattle.std.specs.Str.{bytes_eq}
use Rattle.cip_io.proofs.FilesLemmas.{held_here}
use Rattle.cip_io.proofs.shelf.find_file.Goals as goal

pub returns-then-eq : goal.returns-then-eq
returns-then-eq c =
    let same : bytes_eq (string_bytes c.index-files-i.result.name) c.args.name.now ≡ true = search rules in
    let here = held_here c.args.files.now c.args.name.now c.loop-i.i c.index-files-i.result c.loop-i-test.true c.index-files-i.is same in
    (c.loop-i-test.true, c.loop-i.invariant ∙ here)

pub loop-i-preserved : goal.loop-i-preserved
loop-i-preserved c = grind (arith, common_steps)

pub returns : goal.returns
returns c = grind (arith, common_steps)

pub bounds-files-i : goal.bounds-files-i
bounds-files-i c = grind (arith, common_steps)

pub offset_bounds-files-i : goal.offset_bounds-files-i
offset_bounds-files-i c = grind (arith, common_steps)
