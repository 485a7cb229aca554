use Rattle.std.proofs.lemmas.Grind.{common_steps}
use Rattle.std.proofs.Common.{arith}
use Rattle.cip_presolve.specs.PutTerms.{HasMet}
use Rattle.cip_presolve.proofs.TermsPut.{under_ok, both_met}
use Rattle.cip_presolve.proofs.terms.put_next.Goals as goal

pub returns : goal.returns
returns c =
    let one : HasMet c.args.row.now c.args.first.now c.args.term c.meet.new.row c.meet.new.waiting c.in-Some.term = rw c.in-Some.is at c.in_ok-term.ensures in
    let two : HasMet c.meet.new.row c.args.second.now c.in-Some.term c.meet-2.new.row c.meet-2.new.waiting c.in-Some-2.term = rw c.in-Some-2.is at c.in_ok-term-2.ensures in
    under_ok _ (λ m. both_met c.args.row.now c.meet.new.row c.meet-2.new.row _ c.args.first.now c.args.second.now c.meet.new.waiting c.meet-2.new.waiting c.args.term c.in-Some.term c.in-Some-2.term one two m) c.put.ensures

pub returns-in_default-2 : goal.returns-in_default-2
returns-in_default-2 c = grind (arith, common_steps)

pub returns-in_default : goal.returns-in_default
returns-in_default c = grind (arith, common_steps)
