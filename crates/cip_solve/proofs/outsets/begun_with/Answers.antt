use Rattle.std.proofs.Common.{arith}
use Rattle.std.proofs.lemmas.Grind.{common_steps}
use Rattle.cip_solve.proofs.BegunLaws.{at_root, of_reduced}
use Rattle.cip_solve.proofs.outsets.begun_with.Goals as goal

pub returns-in-Ok : goal.returns-in-Ok
returns-in-Ok c =
    let presolved = c.args.presolved.now in
    let sound = c.is_sound.ensures in
    let core = c.in-Ok.work.core in
    record {
      program_is = c.in-Ok.ensures.program_is;
      root = at_root c.args.program.now presolved.reduced presolved.steps core c.in-Ok.ensures sound.sound sound.formed sound.reduced;
      back = of_reduced c.args.program.now presolved core c.in-Ok.ensures c.requires.back sound.formed sound.reduced;
      point = grind (arith, common_steps);
    }

pub new-requires-clause-near : goal.new-requires-clause-near
new-requires-clause-near c = grind (arith, common_steps)

pub new-requires-clause-back : goal.new-requires-clause-back
new-requires-clause-back c = grind (arith, common_steps)
