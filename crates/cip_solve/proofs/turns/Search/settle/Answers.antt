use Rattle.std.proofs.lemmas.Grind.{common_steps}
use Rattle.std.proofs.Common.{◌∙◌, None, refl, sym, subst, arith}
use Rattle.cip_solve.specs.Stops.{IsKeptAs}
use Rattle.cip_endings.specs.Worst.{IsWorse}
use Rattle.cip_endings.specs.declared.worst.Worst.{Worst}
use Rattle.cip_solve.proofs.turns.Search.settle.Goals as goal

pub returns-in-Parked-clause-kept : goal.returns-in-Parked-clause-kept
returns-in-Parked-clause-kept c =
    let parked : Worst = record { leaf = c.in-Parked.leaf; on = c.in-Parked.on; bound = c.in-Parked.bound; shown = c.in-Parked.shown } in
    subst (λ e. IsKeptAs c.args.self.now.worst c.worse.result e None) (sym c.in-Parked.is) (
      record {
        parked = parked;
        leaf_is = refl;
        bound_is = refl;
        shown_is = refl;
        worse = subst (λ b. IsWorse b parked c.worse.result) (c.take-before.ensures.value ∙ c.note.ensures.worst) c.worse.ensures;
      },
      refl,
    )

pub returns-in-Pruned-clause-kept : goal.returns-in-Pruned-clause-kept
returns-in-Pruned-clause-kept c = grind (arith, common_steps)

pub returns-in-Ray-clause-kept : goal.returns-in-Ray-clause-kept
returns-in-Ray-clause-kept c = grind (arith, common_steps)

pub returns-in-Parked-clause-marked : goal.returns-in-Parked-clause-marked
returns-in-Parked-clause-marked c = grind (arith, common_steps)

pub returns-in-Parked-clause-work : goal.returns-in-Parked-clause-work
returns-in-Parked-clause-work c = grind (arith, common_steps)

pub returns-in-Ray-clause-marked : goal.returns-in-Ray-clause-marked
returns-in-Ray-clause-marked c = grind (arith, common_steps)

pub returns-in-Ray-clause-work : goal.returns-in-Ray-clause-work
returns-in-Ray-clause-work c = grind (arith, common_steps)

pub returns-in-Pruned-clause-marked : goal.returns-in-Pruned-clause-marked
returns-in-Pruned-clause-marked c = grind (arith, common_steps)

pub returns-in-Pruned-clause-work : goal.returns-in-Pruned-clause-work
returns-in-Pruned-clause-work c = grind (arith, common_steps)
