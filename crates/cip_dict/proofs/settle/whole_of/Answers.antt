use Rattle.std.proofs.lemmas.Grind.{common_steps}
use Rattle.std.proofs.Common.{◌≡◌, to_z, of_z, arith}
use Rattle.std.specs.Int.{w64}
use Rattle.cip_dict.proofs.WholeParts.{read_small}
use Rattle.cip_dict.proofs.Settled.{some_map, whole_is}
use Rattle.cip_dict.proofs.settle.whole_of.Goals as goal

pub returns-in-Some : goal.returns-in-Some
returns-in-Some c =
    let n : to_z w64 (of_z w64 c.in-Some.n) ≡ c.in-Some.n = read_small c.in-Some.n c.in-Some.ensures.2 in
    some_map c.number_over.result _ _ (rw n at c.number_over.ensures)
    (λ z h. (whole_is c.args.entry c.in-Some.n z c.in-Some.d c.args.below h.0 c.in-Some.ensures.0 c.in-Some.ensures.1 h.1 h.2 h.3, h.4))

pub number_over-requires-clause-number_small : goal.number_over-requires-clause-number_small
number_over-requires-clause-number_small c = grind (arith, common_steps)

pub number_over-requires-clause-under_positive : goal.number_over-requires-clause-under_positive
number_over-requires-clause-under_positive c = grind (arith, common_steps)

pub number_over-requires-clause-positive : goal.number_over-requires-clause-positive
number_over-requires-clause-positive c = grind (arith, common_steps)

pub number_over-requires-clause-small : goal.number_over-requires-clause-small
number_over-requires-clause-small c = grind (arith, common_steps)

pub returns-in-None : goal.returns-in-None
returns-in-None c = grind (arith, common_steps)
