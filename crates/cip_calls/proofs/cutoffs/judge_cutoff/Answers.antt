use Rattle.std.proofs.lemmas.Grind.{common_steps}
use Rattle.std.proofs.Common.{length, sym, ap, ◌∙◌, subst, arith}
use Rattle.cip_problem.specs.Improving.{HasNoImproving}
use Rattle.cip_cert.specs.Follows.{EmptinessFollows}
use Rattle.cip_cert.specs.Lent.{Fits, multiples_of}
use Rattle.cip_domain.specs.Changes.{Region}
use Rattle.cip_core.specs.CoreStates.{reduced_of, held_of, all_lent}
use Rattle.cip_core.proofs.CoreSteps.{work_long}
use Rattle.cip_core.proofs.RowsAdded.{lent_fits}
use Rattle.cip_calls.proofs.LentRows.{none_there, emptied_there}
use Rattle.cip_calls.proofs.cutoffs.judge_cutoff.Goals as goal

pub empties-requires-clause-fits : goal.empties-requires-clause-fits
empties-requires-clause-fits c =
    let core = c.args.core.now in
    let long = work_long core c.args.node.now c.is_sound.ensures.reduced c.requires.at_work in
    subst (Fits (length c.bounds.result.now)) (sym c.rows.ensures.lent)
    (subst (λ n. Fits n (all_lent core)) (sym (ap length c.bounds.ensures ∙ long)) (lent_fits core c.is_sound.ensures.sound c.is_sound.ensures.pool c.is_sound.ensures.reduced))

pub empties-requires-clause-room : goal.empties-requires-clause-room
empties-requires-clause-room c =
    let long = work_long c.args.core.now c.args.node.now c.is_sound.ensures.reduced c.requires.at_work in
    omega (arith, ap length c.bounds.ensures, long, c.requires.room)

pub returns-in-Ok-clause-emptied : goal.returns-in-Ok-clause-emptied
returns-in-Ok-clause-emptied c = λ _.
    let core = c.args.core.now in
    let follows = subst (λ b. EmptinessFollows (all_lent core) b) c.bounds.ensures (subst (λ l. EmptinessFollows l c.bounds.result.now) c.rows.ensures.lent c.in-Ok.ensures.follows) in
    subst (λ (r : Region). HasNoImproving (reduced_of core) (held_of core) r.box) c.requires.at_work.region (none_there core c.is_sound.ensures.sound follows)

pub returns-in-Err-clause-scratch : goal.returns-in-Err-clause-scratch
returns-in-Err-clause-scratch c = omega arith

pub returns-in-Ok-clause-scratch : goal.returns-in-Ok-clause-scratch
returns-in-Ok-clause-scratch c = omega arith

pub returns-in-Err-clause-answer : goal.returns-in-Err-clause-answer
returns-in-Err-clause-answer c = grind (arith, common_steps)

pub returns-in-Err-clause-emptied : goal.returns-in-Err-clause-emptied
returns-in-Err-clause-emptied c = grind (arith, common_steps)

pub returns-in-Ok-clause-answer : goal.returns-in-Ok-clause-answer
returns-in-Ok-clause-answer c =
    emptied_there c.args.core.now _ c.bounds.result.now _ (multiples_of c.args.combo.now) c.rows.ensures.lent c.bounds.ensures c.requires.room
    c.in-Ok.ensures.steps
