use Rattle.std.proofs.lemmas.Grind.{common_steps}
use Rattle.std.proofs.Common.{arith}
use Rattle.cip_dict.proofs.FormParts.{one_kept}
use Rattle.cip_dict.proofs.forms.Form.number.Goals as goal

pub number_of-requires-clause-kept : goal.number_of-requires-clause-kept
number_of-requires-clause-kept c = (c.self.inside.len, rw c.as_slice.ensures.value (one_kept c.self.inside.len c.self.inside.is_whole c.self.inside.below c.self.inside.wholes.items c.self.inside.entries.items c.args.self.now c.self.invariant c.self.view_is c.if-self.true))

pub number_of-requires-clause-small : goal.number_of-requires-clause-small
number_of-requires-clause-small c = grind (arith, common_steps)
