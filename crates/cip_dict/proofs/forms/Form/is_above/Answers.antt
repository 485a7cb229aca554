use Rattle.std.proofs.lemmas.Grind.{common_steps}
use Rattle.std.proofs.Common.{◌≡◌, pos, int_lt, to_z, of_z, sym, ap, ◌∙◌, arith}
use Rattle.std.specs.Int.{w64}
use Rattle.cip_rational.specs.Rational.{zeroℚ, lt_test}
use Rattle.cip_dict.specs.WholeLines.{number_on}
use Rattle.cip_dict.proofs.Dense.{dense_read}
use Rattle.cip_dict.proofs.FormParts.{one_kept, whole_test, parted_view}
use Rattle.cip_dict.proofs.WholeParts.{above_ratio, read_small}
use Rattle.cip_dict.proofs.forms.Form.is_above.Goals as goal

pub number_of-requires-clause-kept : goal.number_of-requires-clause-kept
number_of-requires-clause-kept c = (c.self.inside.len, rw c.as_slice.ensures.value (one_kept c.self.inside.len c.self.inside.is_whole c.self.inside.below c.self.inside.wholes.items c.self.inside.entries.items c.args.self.now c.self.invariant c.self.view_is c.if-self.true))

pub returns-then-self : goal.returns-then-self
returns-then-self c =
    let number : c.number_of.result ≡ number_on c.self.inside.wholes.items c.args.k = rw c.as_slice.ensures.value at c.number_of.ensures.value in
    whole_test c.self.inside.len c.self.inside.is_whole c.self.inside.below c.self.inside.wholes.items c.self.inside.entries.items c.args.self.now c.self.invariant c.self.view_is (λ q. lt_test zeroℚ q) c.number_of.result (int_lt (pos 0) (to_z w64 (of_z w64 c.number_of.result))) c.args.k c.if-self.true c.requires number
    (λ d h. ap (λ m. int_lt (pos 0) m) (read_small c.number_of.result c.number_of.ensures.small) ∙ above_ratio c.number_of.result d h)

pub returns-else-self : goal.returns-else-self
returns-else-self c =
    let entry = rw c.as_slice-else-self.ensures.value at c.entry_of.ensures
    ∙ sym (dense_read c.self.inside.len c.self.inside.entries.items c.args.self.now c.args.k (parted_view c.self.inside.len c.self.inside.is_whole c.self.inside.below c.self.inside.wholes.items c.self.inside.entries.items c.args.self.now c.self.invariant c.self.view_is c.if-self.false) c.requires) in
    c.is_above.ensures ∙ ap (λ q. lt_test zeroℚ q) entry

pub entry_of-requires : goal.entry_of-requires
entry_of-requires c = grind (arith, common_steps)

pub number_of-requires-clause-small : goal.number_of-requires-clause-small
number_of-requires-clause-small c = grind (arith, common_steps)
