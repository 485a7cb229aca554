use Rattle.std.proofs.lemmas.Grind.{common_steps}
use Rattle.std.proofs.Common.{◌++◌, map, ap, sym, ◌∙◌, arith}
use Rattle.cip_mps.specs.Entries.{numbers_of}
use Rattle.cip_mps.specs.GroupEntries.{near_entry, far_entry}
use Rattle.cip_mps.proofs.Numbers.{numbers_append}
use Rattle.cip_mps.proofs.groups.Group.numbers.Goals as goal

pub returns-clause-items : goal.returns-clause-items
returns-clause-items c =
    let near = c.self.inside.near.items in
    let far = c.self.inside.far.items in
    let row = c.args.row in
    c.in_ok-add_far.ensures
    ∙ ap (λ ns. ns ++ numbers_of row (map far_entry c.as_slice-2.result.now)) (c.in_ok-numbers.ensures ∙ ap (λ xs. numbers_of row (map near_entry xs)) c.as_slice.ensures.value)
    ∙ ap (λ xs. numbers_of row (map near_entry near) ++ numbers_of row (map far_entry xs)) c.as_slice-2.ensures.value
    ∙ sym (numbers_append row (map near_entry near) (map far_entry far)) ∙ ap (numbers_of row) c.self.view_is

pub returns-clause-rising : goal.returns-clause-rising
returns-clause-rising c = grind (arith, common_steps)
