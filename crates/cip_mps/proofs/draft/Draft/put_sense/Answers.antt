use Rattle.std.proofs.lemmas.Grind.{common_steps}
use Rattle.std.proofs.Common.{arith}
use Rattle.cip_mps.specs.DraftStates.{kept}
use Rattle.cip_mps.proofs.TakenLaws.{or_new, or_old}
use Rattle.cip_mps.proofs.draft.Draft.put_sense.Goals as goal

pub returns-then-is_none : goal.returns-then-is_none
returns-then-is_none c =
    let first = or_new c.args.self.now.sense c.args.sense c.if-is_none.ensures in
    λ i. record (kept c.args.self.now) { sense = first i }

pub returns-else-is_none : goal.returns-else-is_none
returns-else-is_none c =
    let first = or_old c.args.self.now.sense c.args.sense c.if-is_none.ensures in
    λ i. record (kept c.args.self.now) { sense = first i }

pub invariant_of-self : goal.invariant_of-self
invariant_of-self c = grind (arith, common_steps)
