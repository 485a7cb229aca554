use Rattle.std.proofs.lemmas.Grind.{common_steps}
use Rattle.std.proofs.Common.{◌≤◌, length, arith, ◌∷◌, [], ℕ, ◌+◌, sym, ap, ◌∙◌}
use Rattle.std.proofs.lemmas.List.{length-append, length_push}
use Rattle.cip_mps.proofs.RowLaws.{more_below}
use Rattle.cip_mps.proofs.draft.Draft.make_column.Goals as goal

pub invariant_of-self-2-clause-rows_below : goal.invariant_of-self-2-clause-rows_below
invariant_of-self-2-clause-rows_below c =
    let names = c.args.self.now.column_names in
    let l : length names ≤ length c.add.new.self = rw c.in-Ok-add.ensures.ok (omega (arith, length-append names (c.in-Ok.owned.items ∷ []))) in
    more_below (length names) (length c.add.new.self) c.args.self.now.rows l c.args.self.now.rows_below

pub invariant_of-self-2-clause-columns_named : goal.invariant_of-self-2-clause-columns_named
invariant_of-self-2-clause-columns_named c =
    let names = c.args.self.now.column_names in
    c.push_reserved.ensures.len ∙ ap (λ (n : ℕ). n + 1) (c.in-Ok-reserve.ensures.len ∙ c.args.self.now.columns_named)
    ∙ sym (ap length c.in-Ok-add.ensures.ok ∙ length_push names c.in-Ok.owned.items)

pub invariant_of-self : goal.invariant_of-self
invariant_of-self c = grind (arith, common_steps)

pub invariant_of-self-2-clause-few_columns : goal.invariant_of-self-2-clause-few_columns
invariant_of-self-2-clause-few_columns c = grind (arith, common_steps)

pub invariant_of-self-2-clause-few_entries : goal.invariant_of-self-2-clause-few_entries
invariant_of-self-2-clause-few_entries c = omega arith

pub invariant_of-self-2-clause-few_rows : goal.invariant_of-self-2-clause-few_rows
invariant_of-self-2-clause-few_rows c = omega arith

pub invariant_of-self-2-clause-rows_counted : goal.invariant_of-self-2-clause-rows_counted
invariant_of-self-2-clause-rows_counted c = omega arith

pub invariant_of-self-2-clause-rows_named : goal.invariant_of-self-2-clause-rows_named
invariant_of-self-2-clause-rows_named c = omega arith

pub invariant_of-self-in_default-add : goal.invariant_of-self-in_default-add
invariant_of-self-in_default-add c = grind (arith, common_steps)

pub returns-clause-number : goal.returns-clause-number
returns-clause-number c = grind (arith, common_steps)

pub returns-clause-state : goal.returns-clause-state
returns-clause-state c = grind (arith, common_steps)

pub returns-in-Some-clause-state : goal.returns-in-Some-clause-state
returns-in-Some-clause-state c = grind (arith, common_steps)

pub add-requires : goal.add-requires
add-requires c = grind (arith, common_steps)

pub push_reserved-requires : goal.push_reserved-requires
push_reserved-requires c = grind (arith, common_steps)

pub overflow_cast-result : goal.overflow_cast-result
overflow_cast-result c = grind (arith, common_steps)

pub returns-in-Some-clause-number : goal.returns-in-Some-clause-number
returns-in-Some-clause-number c = grind (arith, common_steps)

pub returns-in_default-reserve-clause-state : goal.returns-in_default-reserve-clause-state
returns-in_default-reserve-clause-state c = grind (arith, common_steps)

pub returns-in_default-reserve-clause-number : goal.returns-in_default-reserve-clause-number
returns-in_default-reserve-clause-number c = grind (arith, common_steps)

pub returns-in_default-add-clause-state : goal.returns-in_default-add-clause-state
returns-in_default-add-clause-state c = grind (arith, common_steps)

pub returns-in_default-add-clause-number : goal.returns-in_default-add-clause-number
returns-in_default-add-clause-number c = grind (arith, common_steps)

pub overflow_cast-number : goal.overflow_cast-number
overflow_cast-number c = grind (arith, common_steps)

pub returns-in_default-to_vec-clause-state : goal.returns-in_default-to_vec-clause-state
returns-in_default-to_vec-clause-state c = grind (arith, common_steps)

pub returns-in_default-to_vec-clause-number : goal.returns-in_default-to_vec-clause-number
returns-in_default-to_vec-clause-number c = grind (arith, common_steps)
