use Rattle.cip_dict.proofs.FormPuts.{rest_form}
use Rattle.std.proofs.lemmas.Result.{IfOk-from_err}
use Rattle.std.proofs.lemmas.Grind.{common_steps}
use Rattle.std.proofs.Common.{◌≡◌, ◌∙◌, ap, length, arith, set, false, refl}
use Rattle.cip_dict.specs.WholeLines.{over, kept_in}
use Rattle.cip_dict.proofs.Dense.{dense_set, on_ok}
use Rattle.cip_dict.proofs.FormParts.{whole_kept, whole_view, parted_kept, parted_view, parted_form, parted_dense, length_len}
use Rattle.cip_dict.proofs.forms.Form.set_parted.Goals as goal

pub invariant_of-self : goal.invariant_of-self
invariant_of-self c = rest_form _ c.self.inside.is_whole _ _ c.self.inside.entries.items _ c.if-self.true c.self.invariant

pub put_entry-requires : goal.put_entry-requires
put_entry-requires c =
    let n : length c.args.self.now ≡ c.self.inside.len = length_len c.self.inside.len (kept_in c.self.inside.is_whole c.self.inside.below c.self.inside.wholes.items c.self.inside.entries.items) c.args.self.now c.self.view_is in
    let spelled : c.spell_wholes.new.out.items ≡ over c.self.inside.below c.self.inside.wholes.items = rw c.as_slice.ensures.value at c.in_ok-spell_wholes.ensures in
    (c.self.inside.len, omega (arith, n, c.requires), rw spelled (whole_kept c.self.inside.len c.self.inside.is_whole c.self.inside.below c.self.inside.wholes.items c.self.inside.entries.items c.args.self.now c.self.invariant c.self.view_is c.if-self.true))

pub invariant_of-self-then-self : goal.invariant_of-self-then-self
invariant_of-self-then-self c =
    let n : length c.args.self.now ≡ c.self.inside.len = length_len c.self.inside.len (kept_in c.self.inside.is_whole c.self.inside.below c.self.inside.wholes.items c.self.inside.entries.items) c.args.self.now c.self.view_is in
    let spelled : c.spell_wholes.new.out.items ≡ over c.self.inside.below c.self.inside.wholes.items = rw c.as_slice.ensures.value at c.in_ok-spell_wholes.ensures in
    parted_form c.self.inside.len false c.self.inside.below c.self.inside.wholes.items c.put_entry.new.entries.items refl
    (c.put_entry.ensures.kept c.self.inside.len (omega (arith, n, c.requires)) (rw spelled (whole_kept c.self.inside.len c.self.inside.is_whole c.self.inside.below c.self.inside.wholes.items c.self.inside.entries.items c.args.self.now c.self.invariant c.self.view_is c.if-self.true)))

pub returns-then-self : goal.returns-then-self
returns-then-self c =
    let n : length c.args.self.now ≡ c.self.inside.len = length_len c.self.inside.len (kept_in c.self.inside.is_whole c.self.inside.below c.self.inside.wholes.items c.self.inside.entries.items) c.args.self.now c.self.view_is in
    let spelled : c.spell_wholes.new.out.items ≡ over c.self.inside.below c.self.inside.wholes.items = rw c.as_slice.ensures.value at c.in_ok-spell_wholes.ensures in
    dense_set c.self.inside.len c.args.k c.args.entry (over c.self.inside.below c.self.inside.wholes.items) c.put_entry.new.entries.items (omega (arith, n, c.requires)) (rw spelled at c.in_ok-put_entry.ensures.put)
    ∙ ap (λ xs. set xs c.args.k c.args.entry) (whole_view c.self.inside.len c.self.inside.is_whole c.self.inside.below c.self.inside.wholes.items c.self.inside.entries.items c.args.self.now c.self.invariant c.self.view_is c.if-self.true)

pub put_entry-requires-2 : goal.put_entry-requires-2
put_entry-requires-2 c =
    let n : length c.args.self.now ≡ c.self.inside.len = length_len c.self.inside.len (kept_in c.self.inside.is_whole c.self.inside.below c.self.inside.wholes.items c.self.inside.entries.items) c.args.self.now c.self.view_is in
    (c.self.inside.len, omega (arith, n, c.requires), parted_kept c.self.inside.len c.self.inside.is_whole c.self.inside.below c.self.inside.wholes.items c.self.inside.entries.items c.args.self.now c.self.invariant c.self.view_is c.if-self.false)

pub invariant_of-self-2 : goal.invariant_of-self-2
invariant_of-self-2 c =
    let n : length c.args.self.now ≡ c.self.inside.len = length_len c.self.inside.len (kept_in c.self.inside.is_whole c.self.inside.below c.self.inside.wholes.items c.self.inside.entries.items) c.args.self.now c.self.view_is in
    parted_form c.self.inside.len c.self.inside.is_whole c.self.inside.below c.self.inside.wholes.items c.put_entry-2.new.entries.items c.if-self.false
    (c.put_entry-2.ensures.kept c.self.inside.len (omega (arith, n, c.requires)) (parted_kept c.self.inside.len c.self.inside.is_whole c.self.inside.below c.self.inside.wholes.items c.self.inside.entries.items c.args.self.now c.self.invariant c.self.view_is c.if-self.false))

pub returns : goal.returns
returns c =
    let n : length c.args.self.now ≡ c.self.inside.len = length_len c.self.inside.len (kept_in c.self.inside.is_whole c.self.inside.below c.self.inside.wholes.items c.self.inside.entries.items) c.args.self.now c.self.view_is in
    on_ok c.put_entry-2.result _ _ c.put_entry-2.ensures.put
    (λ h. parted_dense c.self.inside.len c.self.inside.is_whole c.self.inside.below c.self.inside.wholes.items c.put_entry-2.new.entries.items c.if-self.false _
    (dense_set c.self.inside.len c.args.k c.args.entry c.self.inside.entries.items c.put_entry-2.new.entries.items (omega (arith, n, c.requires)) h
    ∙ ap (λ xs. set xs c.args.k c.args.entry) (parted_view c.self.inside.len c.self.inside.is_whole c.self.inside.below c.self.inside.wholes.items c.self.inside.entries.items c.args.self.now c.self.invariant c.self.view_is c.if-self.false)))

pub invariant_of-self-in_err-put_entry : goal.invariant_of-self-in_err-put_entry
invariant_of-self-in_err-put_entry c = rest_form _ c.self.inside.is_whole _ _ c.self.inside.entries.items _ c.if-self.true c.self.invariant

pub spell_wholes-requires : goal.spell_wholes-requires
spell_wholes-requires c = grind (arith, common_steps)

pub returns-in_err-put_entry : goal.returns-in_err-put_entry
returns-in_err-put_entry c = IfOk-from_err c.from_residual-in_err-put_entry.result _ c.from_residual-in_err-put_entry.ensures.0
