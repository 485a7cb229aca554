use Rattle.std.proofs.lemmas.Grind.{common_steps}
use Rattle.std.proofs.Common.{◌∙◌, subst, IfSome, arith}
use Rattle.cip_tree.specs.Slots.{IsUnused}
use Rattle.cip_tree.proofs.Keeping.{released_more}
use Rattle.std.proofs.lemmas.Option.{none-some}
use Rattle.cip_tree.proofs.kept.release.Goals as goal

pub loop-next-preserved : goal.loop-next-preserved
loop-next-preserved c =
    let u : IsUnused c.loop-next.kept.slots c.in-Some.at = subst (λ o. IfSome o (IsUnused c.loop-next.kept.slots)) c.in-Some.is c.loop-next.invariant.unused in
    record {
      slots = released_more _ _ _ _ _ c.loop-next.invariant.slots u c.let_go-next-in-Some.ensures.slots;
      kept = c.let_go-next-in-Some.ensures.kept;
      unused = c.let_go-next-in-Some.ensures.next;
      capacity = c.let_go-next-in-Some.ensures.capacity ∙ c.loop-next.invariant.capacity;
    }

pub returns-clause-kept : goal.returns-clause-kept
returns-clause-kept c = grind (arith, common_steps)

pub let_go-next-requires-in-Some-clause-kept : goal.let_go-next-requires-in-Some-clause-kept
let_go-next-requires-in-Some-clause-kept c = grind (arith, common_steps)

pub let_go-next-requires-in-Some-clause-idle : goal.let_go-next-requires-in-Some-clause-idle
let_go-next-requires-in-Some-clause-idle c = grind (arith, common_steps)

pub loop-next-smaller : goal.loop-next-smaller
loop-next-smaller c = grind (arith, common_steps)

pub let_go-next-requires-clause-idle : goal.let_go-next-requires-clause-idle
let_go-next-requires-clause-idle c = grind (arith, common_steps)

pub returns-clause-capacity : goal.returns-clause-capacity
returns-clause-capacity c = grind (arith, common_steps)

pub let_go-next-requires-clause-kept : goal.let_go-next-requires-clause-kept
let_go-next-requires-clause-kept c = record {
  parents = c.requires.kept.parents;
  counts = c.requires.kept.counts;
  apart = c.requires.kept.apart;
  used = λ k s e f i. c.requires.kept.used k s e f (none-some k);
}
