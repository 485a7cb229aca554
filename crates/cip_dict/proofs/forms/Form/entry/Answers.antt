use Rattle.std.proofs.lemmas.Grind.{common_steps}
use Rattle.std.proofs.Common.{◌≡◌, sym, ap, ◌∙◌, arith}
use Rattle.cip_rational.specs.Rational.{ratio}
use Rattle.cip_dict.specs.WholeLines.{number_on}
use Rattle.cip_dict.proofs.Dense.{dense_read}
use Rattle.cip_dict.proofs.FormParts.{one_kept, whole_read, parted_view}
use Rattle.cip_dict.proofs.WholeParts.{read_small}
use Rattle.cip_dict.proofs.forms.Form.entry.Goals as goal

pub number_of-requires-clause-kept : goal.number_of-requires-clause-kept
number_of-requires-clause-kept c = (c.self.inside.len, rw c.as_slice.ensures.value (one_kept c.self.inside.len c.self.inside.is_whole c.self.inside.below c.self.inside.wholes.items c.self.inside.entries.items c.args.self.now c.self.invariant c.self.view_is c.if-self.true))

pub returns-then-self : goal.returns-then-self
returns-then-self c =
    let number : c.number_of.result ≡ number_on c.self.inside.wholes.items c.args.k = rw c.as_slice.ensures.value at c.number_of.ensures.value in
    c.fraction.ensures ∙ ap (λ n. ratio n c.self.inside.below) (read_small c.number_of.result c.number_of.ensures.small ∙ number)
    ∙ whole_read c.self.inside.len c.self.inside.is_whole c.self.inside.below c.self.inside.wholes.items c.self.inside.entries.items c.args.self.now c.self.invariant c.self.view_is c.args.k c.if-self.true c.requires

pub returns-else-self : goal.returns-else-self
returns-else-self c =
    rw c.as_slice-else-self.ensures.value at c.entry_of.ensures
    ∙ sym (dense_read c.self.inside.len c.self.inside.entries.items c.args.self.now c.args.k (parted_view c.self.inside.len c.self.inside.is_whole c.self.inside.below c.self.inside.wholes.items c.self.inside.entries.items c.args.self.now c.self.invariant c.self.view_is c.if-self.false) c.requires)

pub fraction-requires-clause-positive : goal.fraction-requires-clause-positive
fraction-requires-clause-positive c = grind (arith, common_steps)

pub fraction-requires-clause-small : goal.fraction-requires-clause-small
fraction-requires-clause-small c = grind (arith, common_steps)

pub entry_of-requires : goal.entry_of-requires
entry_of-requires c = grind (arith, common_steps)

pub number_of-requires-clause-small : goal.number_of-requires-clause-small
number_of-requires-clause-small c = grind (arith, common_steps)
