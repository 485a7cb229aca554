use Rattle.std.proofs.lemmas.Grind.{common_steps}
use Rattle.cip_mps.proofs.TableLaws.{read_at}
use Rattle.std.specs.Prelude.{vec_len, slice_set}
use Rattle.cip_text_rules.specs.MpsBounds.{unbounded, with_bound, Bounded}
use Rattle.cip_text_rules.specs.MpsSteps.{changed}
use Rattle.cip_mps.proofs.TakenLaws.{faulty_step, quiet_step, taken_bound}
use Rattle.cip_text_rules.specs.MpsSayings.{BoundLine}
use Rattle.cip_mps_lines.specs.MpsKinds.{bound_kind_in}
use Rattle.cip_mps.specs.DraftStates.{kept}
use Rattle.std.proofs.Common.{sym, ap, ◌∙◌, Option, ℕ, false, ◌<◌, length, arith}
use Rattle.cip_mps.proofs.draft.Draft.read_bound.Goals as goal

pub returns-in-Some : goal.returns-in-Some
returns-in-Some c =
    let old = kept c.args.self.now in
    let kind = bound_kind_in c.args.kind in
    let set_name = c.args.set_name.now in
    let name = c.args.name.now in
    let value = c.args.value.now in
    let number = c.in-Some.number in
    let below : number < vec_len c.args.self.now.columns = rw c.in-Some.is at c.find_column-column.ensures.within in
    let within : number < length old.columns = omega (arith, below, c.args.self.now.columns.ok.0) in
    let column = c.take.ensures ∙ ap (λ (b : Bounded). with_bound b kind value) (read_at old.columns number c.index_mut-column.result.now (unbounded false) within c.index_mut-column.ensures.value) in
    quiet_step old _ (BoundLine kind set_name name value) c.bound_fault-fault.result
    (c.bound_fault-fault.ensures name c.find_column-column.ensures.number ∙ sym (c.lines_have_tests.ensures.bound old kind set_name name value)) c.if-is_none.ensures
    (ap (λ (b : Bounded). record old { columns = slice_set old.columns number b }) column
    ∙ ap (λ (number : Option ℕ). record old { columns = changed (unbounded false) old.columns number (λ b. with_bound b kind value) }) (sym c.in-Some.is ∙ c.find_column-column.ensures.number)
    ∙ sym (taken_bound old kind set_name name value))

pub returns-in_default : goal.returns-in_default
returns-in_default c =
    let old = kept c.args.self.now in
    let kind = bound_kind_in c.args.kind in
    let set_name = c.args.set_name.now in
    let name = c.args.name.now in
    let value = c.args.value.now in
    quiet_step old old (BoundLine kind set_name name value) c.bound_fault-fault.result
    (c.bound_fault-fault.ensures name c.find_column-column.ensures.number ∙ sym (c.lines_have_tests.ensures.bound old kind set_name name value)) c.if-is_none.ensures
    (sym (taken_bound old kind set_name name value
    ∙ ap (λ (number : Option ℕ). record old { columns = changed (unbounded false) old.columns number (λ b. with_bound b kind value) }) (sym c.find_column-column.ensures.number ∙ c.in_default.is)))

pub returns-else-is_none : goal.returns-else-is_none
returns-else-is_none c =
    let old = kept c.args.self.now in
    let kind = bound_kind_in c.args.kind in
    let value = c.args.value.now in
    faulty_step old (BoundLine kind c.args.set_name.now c.args.name.now value) c.bound_fault-fault.result
    (c.bound_fault-fault.ensures c.args.name.now c.find_column-column.ensures.number ∙ sym (c.lines_have_tests.ensures.bound old kind c.args.set_name.now c.args.name.now value)) c.if-is_none.ensures

pub invariant_of-self : goal.invariant_of-self
invariant_of-self c = grind (arith, common_steps)

pub index_mut-column-requires : goal.index_mut-column-requires
index_mut-column-requires c = grind (arith, common_steps)

pub bound_fault-fault-requires : goal.bound_fault-fault-requires
bound_fault-fault-requires c = grind (arith, common_steps)
