use Rattle.std.proofs.lemmas.Grind.{common_steps}
use Rattle.std.proofs.Common.{sym, arith}
use Rattle.cip_problem.specs.Activity.{value_at}
use Rattle.cip_dict.specs.SparseLines.{entry_on}
use Rattle.cip_dict.specs.WholeLines.{over}
use Rattle.cip_dict.proofs.Dense.{dense_read}
use Rattle.cip_dict.proofs.FormParts.{whole_view, parted_view}
use Rattle.cip_dict.proofs.FormSums.{value_same}
use Rattle.cip_dict.proofs.forms.Form.value.Goals as goal

pub returns-then-self : goal.returns-then-self
returns-then-self c =
    value_same c.args.line c.args.n (entry_on (over c.self.inside.below c.self.inside.wholes.items)) (value_at c.args.self.now) (value_at c.args.values.now) c.wholes_value.result
    (λ k l. sym (dense_read c.self.inside.len (over c.self.inside.below c.self.inside.wholes.items) c.args.self.now k (whole_view c.self.inside.len c.self.inside.is_whole c.self.inside.below c.self.inside.wholes.items c.self.inside.entries.items c.args.self.now c.self.invariant c.self.view_is c.if-self.true) (omega (arith, l, c.requires.row_long))))
    (rw c.as_slice.ensures.value at c.wholes_value.ensures)

pub returns : goal.returns
returns c =
    value_same c.args.line c.args.n (entry_on c.self.inside.entries.items) (value_at c.args.self.now) (value_at c.args.values.now) c.entries_value.result
    (λ k l. sym (dense_read c.self.inside.len c.self.inside.entries.items c.args.self.now k (parted_view c.self.inside.len c.self.inside.is_whole c.self.inside.below c.self.inside.wholes.items c.self.inside.entries.items c.args.self.now c.self.invariant c.self.view_is c.if-self.false) (omega (arith, l, c.requires.row_long))))
    (rw c.as_slice-2.ensures.value at c.entries_value.ensures)

pub wholes_value-requires-clause-kept : goal.wholes_value-requires-clause-kept
wholes_value-requires-clause-kept c = grind (arith, common_steps)

pub wholes_value-requires-clause-whole : goal.wholes_value-requires-clause-whole
wholes_value-requires-clause-whole c = grind (arith, common_steps)

pub entries_value-requires-clause-kept : goal.entries_value-requires-clause-kept
entries_value-requires-clause-kept c = grind (arith, common_steps)

pub wholes_value-requires-clause-values_long : goal.wholes_value-requires-clause-values_long
wholes_value-requires-clause-values_long c = grind (arith, common_steps)

pub entries_value-requires-clause-values_long : goal.entries_value-requires-clause-values_long
entries_value-requires-clause-values_long c = grind (arith, common_steps)
