use Rattle.std.proofs.lemmas.Grind.{common_steps}
use Rattle.std.proofs.Common.{◌≡◌, sym, ap, ◌∙◌, arith}
use Rattle.cip_rational.specs.Rational.{ratio}
use Rattle.cip_problem.specs.Activity.{value_at}
use Rattle.cip_dict.specs.WholeLines.{number_on}
use Rattle.cip_dict.proofs.Added.{zero_right}
use Rattle.cip_dict.proofs.Dense.{dense_read}
use Rattle.cip_dict.proofs.FormParts.{one_kept, whole_read, parted_view}
use Rattle.cip_dict.proofs.WholeParts.{read_small}
use Rattle.cip_dict.proofs.forms.Form.add_times.Goals as goal

pub returns-then-vanishes : goal.returns-then-vanishes
returns-then-vanishes c = zero_right c.args.value.now (value_at c.args.self.now c.args.k) c.args.t (sym c.if-vanishes.ensures)

pub number_of-n-requires-clause-kept : goal.number_of-n-requires-clause-kept
number_of-n-requires-clause-kept c = (c.self.inside.len, rw c.as_slice.ensures.value (one_kept c.self.inside.len c.self.inside.is_whole c.self.inside.below c.self.inside.wholes.items c.self.inside.entries.items c.args.self.now c.self.invariant c.self.view_is c.if-self.true))

pub returns-then-self : goal.returns-then-self
returns-then-self c =
    let number : c.number_of-n.result ≡ number_on c.self.inside.wholes.items c.args.k = rw c.as_slice.ensures.value at c.number_of-n.ensures.value in
    let entry : ratio c.number_of-n.result c.self.inside.below ≡ value_at c.args.self.now c.args.k = ap (λ n. ratio n c.self.inside.below) number ∙ whole_read c.self.inside.len c.self.inside.is_whole c.self.inside.below c.self.inside.wholes.items c.self.inside.entries.items c.args.self.now c.self.invariant c.self.view_is c.args.k c.if-self.true c.requires in
    rw (read_small c.number_of-n.result c.number_of-n.ensures.small, entry) at c.add_over.ensures

pub returns-else-self : goal.returns-else-self
returns-else-self c =
    let entry = rw c.as_slice-else-self.ensures.value at c.entry_of.ensures
    ∙ sym (dense_read c.self.inside.len c.self.inside.entries.items c.args.self.now c.args.k (parted_view c.self.inside.len c.self.inside.is_whole c.self.inside.below c.self.inside.wholes.items c.self.inside.entries.items c.args.self.now c.self.invariant c.self.view_is c.if-self.false) c.requires) in
    rw entry at c.add_product.ensures

pub add_over-requires-clause-positive : goal.add_over-requires-clause-positive
add_over-requires-clause-positive c = grind (arith, common_steps)

pub add_over-requires-clause-small : goal.add_over-requires-clause-small
add_over-requires-clause-small c = grind (arith, common_steps)

pub entry_of-requires : goal.entry_of-requires
entry_of-requires c = grind (arith, common_steps)

pub number_of-n-requires-clause-small : goal.number_of-n-requires-clause-small
number_of-n-requires-clause-small c = grind (arith, common_steps)
