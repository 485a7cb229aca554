use Rattle.std.proofs.lemmas.Grind.{common_steps}
use Rattle.std.proofs.Common.{◌<◌, ◌∙◌, ◌^◌, List, pos, sym, ap, length, get_or, arith}
use Rattle.std.proofs.lemmas.List.{get_or_default}
use Rattle.cip_dict.specs.SparseLines.{Kept}
use Rattle.cip_dict.proofs.FormParts.{whole_all, parted_all}
use Rattle.cip_dict.proofs.WholeParts.{length_over, at_over, read_small, item_below}
use Rattle.cip_dict.proofs.forms.Form.kept_at.Goals as goal

pub bounds-wholes-at : goal.bounds-wholes-at
bounds-wholes-at c =
    let l = ap length (whole_all c.self.inside.len c.self.inside.is_whole c.self.inside.below c.self.inside.wholes.items c.self.inside.entries.items c.args.self.now c.self.invariant c.self.view_is c.if-self.true) in
    rw c.as_slice-wholes.ensures.value (omega (arith, l, length_over c.self.inside.below c.self.inside.wholes.items, c.requires))

pub bounds-entries-at : goal.bounds-entries-at
bounds-entries-at c =
    let l = ap length (parted_all c.self.inside.len c.self.inside.is_whole c.self.inside.below c.self.inside.wholes.items c.self.inside.entries.items c.args.self.now c.self.invariant c.self.view_is c.if-self.false) in
    rw c.as_slice-entries.ensures.value (omega (arith, l, c.requires))

pub returns-then-self : goal.returns-then-self
returns-then-self c =
    let all = whole_all c.self.inside.len c.self.inside.is_whole c.self.inside.below c.self.inside.wholes.items c.self.inside.entries.items c.args.self.now c.self.invariant c.self.view_is c.if-self.true in
    let l = ap length all in
    let there : c.args.at < length c.self.inside.wholes.items = omega (arith, l, length_over c.self.inside.below c.self.inside.wholes.items, c.requires) in
    let number = read_small (get_or c.self.inside.wholes.items c.args.at (0, pos 0)).1 (item_below (2 ^ 42) c.self.inside.wholes.items c.args.at (0, pos 0) (c.self.invariant.whole c.if-self.true).numbers there) in
    let made = rw (c.as_slice-wholes.ensures.value, number) at c.fraction.ensures in
    λ d. rw (c.as_slice-wholes.ensures.value, made, ← all) (sym (at_over c.self.inside.below c.self.inside.wholes.items c.args.at d (0, pos 0) there))

pub returns-else-self : goal.returns-else-self
returns-else-self c =
    let all = parted_all c.self.inside.len c.self.inside.is_whole c.self.inside.below c.self.inside.wholes.items c.self.inside.entries.items c.args.self.now c.self.invariant c.self.view_is c.if-self.false in
    let l = ap length all in
    let there : c.args.at < length c.self.inside.entries.items = omega (arith, l, c.requires) in
    let is = rw c.as_slice-entries.ensures.value at c.index-entries-at.is in
    λ d. is ∙ get_or_default c.self.inside.entries.items c.args.at c.index-entries-at.result d there ∙ ap (λ (xs : List Kept). get_or xs c.args.at d) all

pub offset_bounds-wholes-at : goal.offset_bounds-wholes-at
offset_bounds-wholes-at c =
    let l = ap length (whole_all c.self.inside.len c.self.inside.is_whole c.self.inside.below c.self.inside.wholes.items c.self.inside.entries.items c.args.self.now c.self.invariant c.self.view_is c.if-self.true) in
    let there : c.args.at < length c.as_slice-wholes.result.now = rw c.as_slice-wholes.ensures.value (omega (arith, l, length_over c.self.inside.below c.self.inside.wholes.items, c.requires)) in
    grind (arith, common_steps)

pub offset_bounds-wholes-at-then-self : goal.offset_bounds-wholes-at-then-self
offset_bounds-wholes-at-then-self c =
    let l = ap length (whole_all c.self.inside.len c.self.inside.is_whole c.self.inside.below c.self.inside.wholes.items c.self.inside.entries.items c.args.self.now c.self.invariant c.self.view_is c.if-self.true) in
    let there : c.args.at < length c.as_slice-wholes.result.now = rw c.as_slice-wholes.ensures.value (omega (arith, l, length_over c.self.inside.below c.self.inside.wholes.items, c.requires)) in
    grind (arith, common_steps)

pub bounds-wholes-at-then-self : goal.bounds-wholes-at-then-self
bounds-wholes-at-then-self c =
    let l = ap length (whole_all c.self.inside.len c.self.inside.is_whole c.self.inside.below c.self.inside.wholes.items c.self.inside.entries.items c.args.self.now c.self.invariant c.self.view_is c.if-self.true) in
    rw c.as_slice-wholes.ensures.value (omega (arith, l, length_over c.self.inside.below c.self.inside.wholes.items, c.requires))

pub offset_bounds-entries-at : goal.offset_bounds-entries-at
offset_bounds-entries-at c =
    let l = ap length (parted_all c.self.inside.len c.self.inside.is_whole c.self.inside.below c.self.inside.wholes.items c.self.inside.entries.items c.args.self.now c.self.invariant c.self.view_is c.if-self.false) in
    let there : c.args.at < length c.as_slice-entries.result.now = rw c.as_slice-entries.ensures.value (omega (arith, l, c.requires)) in
    grind (arith, common_steps)

pub fraction-requires-clause-positive : goal.fraction-requires-clause-positive
fraction-requires-clause-positive c = grind (arith, common_steps)

pub fraction-requires-clause-small : goal.fraction-requires-clause-small
fraction-requires-clause-small c = grind (arith, common_steps)
