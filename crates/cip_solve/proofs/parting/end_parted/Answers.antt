use Rattle.std.proofs.lemmas.Grind.{common_steps}
use Rattle.std.proofs.Common.{◌<◌, ap, subst, sym, arith}
use Rattle.cip_problem.specs.Log.{Split}
use Rattle.cip_calls.specs.CoreStates.{CoreState}
use Rattle.cip_calls.specs.Steps.{HasLeft}
use Rattle.cip_calls.proofs.SplitParts.{near_itself}
use Rattle.cip_node.specs.declared.ends.NodeEnd.TheVariants as by
use Rattle.cip_solve.specs.NodesDone.{HasParted}
use Rattle.cip_solve.proofs.Closing.{parted_here}
use Rattle.cip_solve.proofs.parting.end_parted.Goals as goal

pub split-parted-requires-clause-at_work : goal.split-parted-requires-clause-at_work
split-parted-requires-clause-at_work c = record { up = c.requires.up.0; region = c.requires.open_.0.full.region }

pub returns-in-Ok-clause-ended : goal.returns-in-Ok-clause-ended
returns-in-Ok-clause-ended c =
    let core = c.args.work.now.core in
    let new = c.split-parted.new.self in
    let node = c.args.node in
    let end = by.Split c.in-Ok.halves.0 c.in-Ok.halves.1 in
    let place = c.args.split.at in
    let at = near_itself place c.requires.place.named.near in
    let left = subst (λ a. HasLeft core new node (Split c.args.split.col a c.in-Ok.halves.0 c.in-Ok.halves.1)) at c.in-Ok.ensures.split in
    subst (λ (k : CoreState). HasParted core k node c.args.found.mark end) (sym c.split-parted.ensures.frame)
    (parted_here core new.tree node c.args.found c.args.split.col c.args.split.at c.in-Ok.halves.0 c.in-Ok.halves.1 c.requires.open_.1
    (subst (λ (k : CoreState). HasLeft core k node (Split c.args.split.col c.args.split.at c.in-Ok.halves.0 c.in-Ok.halves.1)) c.split-parted.ensures.frame left))

pub returns-in-Ok-clause-pool : goal.returns-in-Ok-clause-pool
returns-in-Ok-clause-pool c = ap (λ (k : CoreState). k.pool) c.split-parted.ensures.frame

pub returns-in-Err-clause-pool : goal.returns-in-Err-clause-pool
returns-in-Err-clause-pool c = ap (λ (k : CoreState). k.pool) c.split-parted.ensures.frame

pub returns-in-Err-clause-ended : goal.returns-in-Err-clause-ended
returns-in-Err-clause-ended c = grind (arith, common_steps)

pub split-parted-requires-clause-place : goal.split-parted-requires-clause-place
split-parted-requires-clause-place c =
    let inside = subst (λ n. c.args.split.col < n) (sym c.is_sound.ensures.reduced.integral) c.requires.place.named.inside in
    let region = c.requires.open_.0.full.region in
    let placed = c.requires.place.place in
    (c.requires.up.1, inside, rw (near_itself c.args.split.at c.requires.place.named.near) (rw region at placed))

pub split-parted-requires-clause-given : goal.split-parted-requires-clause-given
split-parted-requires-clause-given c = c.requires.up.2

pub split-parted-requires-clause-wholes : goal.split-parted-requires-clause-wholes
split-parted-requires-clause-wholes c = grind (arith, common_steps)

pub returns-in-Err-clause-proposed : goal.returns-in-Err-clause-proposed
returns-in-Err-clause-proposed c = grind (arith, common_steps)

pub returns-in-Ok-clause-proposed : goal.returns-in-Ok-clause-proposed
returns-in-Ok-clause-proposed c = grind (arith, common_steps)
