use Rattle.std.proofs.lemmas.Grind.{common_steps}
use Rattle.std.proofs.Common.{◌∙◌, ap, map, sym, arith}
use Rattle.cip_input.specs.Jobs.{are_among, off_in}
use Rattle.cip_input.specs.WordsRead.{meant}
use Rattle.cip_input.specs.declared.words.Job.{Job as Told}
use Rattle.cip_input.specs.Tasks.{labels_of}
use Rattle.cip_input.proofs.Names.{are_there}
use Rattle.cip_input.proofs.tasks.are_there.Goals as goal

pub returns-in-Solve : goal.returns-in-Solve
returns-in-Solve g c =
    are_there g.P.Tells.who _ _ _ _ c.as_slice.ensures.value c.have_names.ensures
    ∙ ap (λ (job : Told). are_among (off_in (meant job)) (labels_of (map g.P.Tells.who c.args.plugins.now))) (sym c.in-Solve.is)

pub returns-in-Generate : goal.returns-in-Generate
returns-in-Generate g c = grind (arith, common_steps)

pub returns-in-Check : goal.returns-in-Check
returns-in-Check g c = grind (arith, common_steps)
