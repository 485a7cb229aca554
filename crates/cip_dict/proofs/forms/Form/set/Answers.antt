use Rattle.std.proofs.lemmas.Grind.{common_steps}
use Rattle.std.proofs.Common.{◌≡◌, ◌<◌, ◌∙◌, ap, length, arith, set}
use Rattle.cip_dict.specs.SparseLines.{AreKept}
use Rattle.cip_dict.specs.WholeLines.{over, kept_in}
use Rattle.cip_dict.proofs.Dense.{dense_set}
use Rattle.cip_dict.proofs.FormParts.{whole_kept, whole_view, numbers_form, numbers_dense, length_len}
use Rattle.cip_dict.proofs.forms.Form.set.Goals as goal

pub invariant_of-self : goal.invariant_of-self
invariant_of-self c =
    let n : length c.args.self.now ≡ c.self.inside.len = length_len c.self.inside.len (kept_in c.self.inside.is_whole c.self.inside.below c.self.inside.wholes.items c.self.inside.entries.items) c.args.self.now c.self.view_is in
    let l : c.args.k < c.self.inside.len = omega (arith, n, c.requires) in
    let h : AreKept 0 c.self.inside.len (over c.self.inside.below c.self.inside.wholes.items) = whole_kept c.self.inside.len c.self.inside.is_whole c.self.inside.below c.self.inside.wholes.items c.self.inside.entries.items c.args.self.now c.self.invariant c.self.view_is c.if-self.true in
    numbers_form c.self.inside.len c.self.inside.is_whole c.self.inside.below c.put_behind.new.wholes.items c.self.inside.entries.items c.if-self.true
    (c.put_behind.ensures.kept c.self.inside.len l h) c.put_behind.ensures.whole

pub invariant_of-self-then-branch : goal.invariant_of-self-then-branch
invariant_of-self-then-branch c =
    let n : length c.args.self.now ≡ c.self.inside.len = length_len c.self.inside.len (kept_in c.self.inside.is_whole c.self.inside.below c.self.inside.wholes.items c.self.inside.entries.items) c.args.self.now c.self.view_is in
    let l : c.args.k < c.self.inside.len = omega (arith, n, c.requires) in
    let h : AreKept 0 c.self.inside.len (over c.self.inside.below c.self.inside.wholes.items) = whole_kept c.self.inside.len c.self.inside.is_whole c.self.inside.below c.self.inside.wholes.items c.self.inside.entries.items c.args.self.now c.self.invariant c.self.view_is c.if-self.true in
    numbers_form c.self.inside.len c.self.inside.is_whole c.self.inside.below c.put_behind.new.wholes.items c.self.inside.entries.items c.if-self.true
    (c.put_behind.ensures.kept c.self.inside.len l h) c.put_behind.ensures.whole

pub returns-then-branch : goal.returns-then-branch
returns-then-branch c =
    let n : length c.args.self.now ≡ c.self.inside.len = length_len c.self.inside.len (kept_in c.self.inside.is_whole c.self.inside.below c.self.inside.wholes.items c.self.inside.entries.items) c.args.self.now c.self.view_is in
    let l : c.args.k < c.self.inside.len = omega (arith, n, c.requires) in
    numbers_dense c.self.inside.len c.self.inside.is_whole c.self.inside.below c.put_behind.new.wholes.items c.self.inside.entries.items c.if-self.true _
    (dense_set c.self.inside.len c.args.k c.args.entry (over c.self.inside.below c.self.inside.wholes.items) (over c.self.inside.below c.put_behind.new.wholes.items) l (c.in_ok-put_behind.ensures.put c.if-branch.true)
    ∙ ap (λ xs. set xs c.args.k c.args.entry) (whole_view c.self.inside.len c.self.inside.is_whole c.self.inside.below c.self.inside.wholes.items c.self.inside.entries.items c.args.self.now c.self.invariant c.self.view_is c.if-self.true))

pub invariant_of-self-else-branch : goal.invariant_of-self-else-branch
invariant_of-self-else-branch c = grind (arith, common_steps)

pub put_behind-requires-clause-kept : goal.put_behind-requires-clause-kept
put_behind-requires-clause-kept c = grind (arith, common_steps)

pub put_behind-requires-clause-whole : goal.put_behind-requires-clause-whole
put_behind-requires-clause-whole c = grind (arith, common_steps)

pub returns : goal.returns
returns c = grind (arith, common_steps)

pub set_parted-requires : goal.set_parted-requires
set_parted-requires c = grind (arith, common_steps)
