use Rattle.std.proofs.lemmas.Grind.{common_steps}
use Rattle.std.proofs.Common.{◌≡◌, ◌<◌, pos, neg_ℤ, to_z, of_z, cond, unsigned_abs, Bool, true, false, ℕ, lit<, length, arith, sym, ap, ◌∙◌}
use Rattle.std.specs.Int.{w64}
use Rattle.std.proofs.lemmas.Int.{ints}
use Rattle.cip_rational.specs.Rational.{inverse}
use Rattle.cip_bland.specs.declared.places.Line.TheVariants.{Row}
use Rattle.cip_bland.proofs.Zeros.{nonzero_of}
use Rattle.cip_dict.specs.Lists.{basic_in}
use Rattle.cip_dict.specs.WholeLines.{over, IsWhole}
use Rattle.cip_dict.proofs.WholeParts.{read_small, none_ratio}
use Rattle.cip_dict.proofs.WholePuts.{turned_whole}
use Rattle.cip_dict.proofs.Dense.{solved_written, dense_kept, dense_long}
use Rattle.cip_dict.proofs.KeptLoops.{are_kept}
use Rattle.cip_dict.proofs.FormParts.{one_kept, whole_view, whole_read, parted_kept, parted_view}
use Rattle.cip_dict.proofs.FormPuts.{as_long, turn_written, whole_form, empty_form}
use Rattle.cip_dict.proofs.lines.write_solved.Goals as goal

signed_some : (b : Bool) (d : ℕ) → 0 < d → cond b (pos d) (neg_ℤ (pos d)) ≡ pos 0 → ⊥
signed_some true d h e = omega (arith, ints, h, e)
signed_some false d h e = omega (arith, ints, h, e)

pub returns-in-Ok-clause-long : goal.returns-in-Ok-clause-long
returns-in-Ok-clause-long c = dense_long _ _

pub returns-in-Err-clause-long : goal.returns-in-Err-clause-long
returns-in-Err-clause-long c = dense_long _ _

pub solve_entries-requires-clause-row_kept : goal.solve_entries-requires-clause-row_kept
solve_entries-requires-clause-row_kept c =
    rw c.as_slice.ensures.value (dense_kept c.row.inside.len (length c.args.pivot.now.standing.now) c.row.inside.entries.items c.args.row.now (parted_view c.row.inside.len c.row.inside.is_whole c.row.inside.below c.row.inside.wholes.items c.row.inside.entries.items c.args.row.now c.row.invariant c.row.view_is c.if-row.false) c.requires.row_long (parted_kept c.row.inside.len c.row.inside.is_whole c.row.inside.below c.row.inside.wholes.items c.row.inside.entries.items c.args.row.now c.row.invariant c.row.view_is c.if-row.false))

pub solve_entries-requires-clause-leaving_kept : goal.solve_entries-requires-clause-leaving_kept
solve_entries-requires-clause-leaving_kept c = (omega arith, c.requires.leaving, nonzero_of c.args.pivot.now.inverse c.requires.nonzero, tt)

pub returns-clause-written : goal.returns-clause-written
returns-clause-written c =
    solved_written (length c.args.pivot.now.standing.now) (basic_in c.args.pivot.now.standing.now) c.args.pivot.now.leaving c.args.pivot.now.entering c.args.pivot.now.inverse c.row.inside.len c.row.inside.entries.items c.args.row.now (parted_view c.row.inside.len c.row.inside.is_whole c.row.inside.below c.row.inside.wholes.items c.row.inside.entries.items c.args.row.now c.row.invariant c.row.view_is c.if-row.false) c.requires.row_long c.solve_entries.new.out.items c.solve_entries.result (Row c.args.pivot.now.entering)
    (rw c.as_slice.ensures.value at c.solve_entries.ensures.written)

pub returns-clause-long : goal.returns-clause-long
returns-clause-long c = dense_long _ _

pub invariant_of-out-2 : goal.invariant_of-out-2
invariant_of-out-2 c = grind (arith, common_steps)

pub invariant_of-out-in-Err : goal.invariant_of-out-in-Err
invariant_of-out-in-Err c = empty_form _ _ _ _ c.clear.ensures.items

pub number_of-own-requires-clause-kept : goal.number_of-own-requires-clause-kept
number_of-own-requires-clause-kept c = ((length c.args.pivot.now.standing.now), rw c.as_slice-wholes.ensures.value (as_long c.row.inside.len (length c.args.pivot.now.standing.now) (over c.row.inside.below c.row.inside.wholes.items) (over 1 c.row.inside.wholes.items) c.args.row.now (whole_view c.row.inside.len c.row.inside.is_whole c.row.inside.below c.row.inside.wholes.items c.row.inside.entries.items c.args.row.now c.row.invariant c.row.view_is c.if-row.true) c.requires.row_long (one_kept c.row.inside.len c.row.inside.is_whole c.row.inside.below c.row.inside.wholes.items c.row.inside.entries.items c.args.row.now c.row.invariant c.row.view_is c.if-row.true)))

pub number_of-own-requires-clause-small : goal.number_of-own-requires-clause-small
number_of-own-requires-clause-small c = rw c.as_slice-wholes.ensures.value (c.row.invariant.whole c.if-row.true).numbers

pub turn_entries-requires-clause-row_kept : goal.turn_entries-requires-clause-row_kept
turn_entries-requires-clause-row_kept c = rw c.as_slice-wholes.ensures.value (as_long c.row.inside.len (length c.args.pivot.now.standing.now) (over c.row.inside.below c.row.inside.wholes.items) (over 1 c.row.inside.wholes.items) c.args.row.now (whole_view c.row.inside.len c.row.inside.is_whole c.row.inside.below c.row.inside.wholes.items c.row.inside.entries.items c.args.row.now c.row.invariant c.row.view_is c.if-row.true) c.requires.row_long (one_kept c.row.inside.len c.row.inside.is_whole c.row.inside.below c.row.inside.wholes.items c.row.inside.entries.items c.args.row.now c.row.invariant c.row.view_is c.if-row.true))

pub turn_entries-requires-clause-row_small : goal.turn_entries-requires-clause-row_small
turn_entries-requires-clause-row_small c = rw c.as_slice-wholes.ensures.value (c.row.invariant.whole c.if-row.true).numbers

pub turn_entries-requires-clause-leaving_kept : goal.turn_entries-requires-clause-leaving_kept
turn_entries-requires-clause-leaving_kept c =
    let d : to_z w64 (of_z w64 c.signed_below-positive.result.1) ≡ cond c.signed_below-positive.result.0 (pos c.row.inside.below) (neg_ℤ (pos c.row.inside.below)) = read_small c.signed_below-positive.result.1 c.signed_below-positive.ensures.small ∙ c.signed_below-positive.ensures.value in
    (omega arith, c.requires.leaving, (λ z. signed_some c.signed_below-positive.result.0 c.row.inside.below (c.row.invariant.whole c.if-row.true).positive (sym d ∙ none_ratio _ 1 (lit< tt) z)), tt)

pub invariant_of-out : goal.invariant_of-out
invariant_of-out c =
    let whole = c.row.invariant.whole c.if-row.true in
    let own : to_z w64 (of_z w64 c.number_of-own.result) ≡ c.number_of-own.result = read_small c.number_of-own.result c.number_of-own.ensures.small in
    let p : c.unsigned_abs-out-inside.result ≡ unsigned_abs c.number_of-own.result = c.unsigned_abs-out-inside.ensures.value ∙ ap unsigned_abs own in
    let sign = rw own at c.signed_below-positive.ensures in
    let d : to_z w64 (of_z w64 c.signed_below-positive.result.1) ≡ cond c.signed_below-positive.result.0 (pos c.row.inside.below) (neg_ℤ (pos c.row.inside.below)) = read_small c.signed_below-positive.result.1 c.signed_below-positive.ensures.small ∙ c.signed_below-positive.ensures.value in
    let number = rw c.as_slice-wholes.ensures.value at c.number_of-own.ensures.value in
    let kept = rw (d, c.as_slice-wholes.ensures.value) at c.in-Ok.ensures.kept in
    let t = turned_whole (length c.args.pivot.now.standing.now) (Row c.args.pivot.now.entering) (basic_in c.args.pivot.now.standing.now) c.args.pivot.now.leaving c.args.pivot.now.entering c.args.pivot.now.inverse c.row.inside.below c.row.inside.wholes.items c.number_of-own.result c.unsigned_abs-out-inside.result c.signed_below-positive.result.0 c.turn_entries.new.out.items
    whole number (c.requires.pivot ∙ ap inverse (sym (whole_read c.row.inside.len c.row.inside.is_whole c.row.inside.below c.row.inside.wholes.items c.row.inside.entries.items c.args.row.now c.row.invariant c.row.view_is c.args.pivot.now.entering c.if-row.true (omega (arith, c.requires.entering, c.requires.row_long))))) c.requires.nonzero p (omega (arith, p, c.number_of-own.ensures.small)) sign.yes sign.no kept in
    let is_whole : IsWhole c.unsigned_abs-out-inside.result c.turn_entries.new.out.items = record { positive = t.0; small = omega (arith, p, c.number_of-own.ensures.small); numbers = c.in-Ok.ensures.small } in
    whole_form (length c.args.pivot.now.standing.now) c.unsigned_abs-out-inside.result c.turn_entries.new.out.items c.clear.new.self.items is_whole (are_kept (length c.args.pivot.now.standing.now) (length c.args.pivot.now.standing.now) _ _ t.2 (omega arith))

pub returns-in-Ok-clause-written : goal.returns-in-Ok-clause-written
returns-in-Ok-clause-written c =
    let whole = c.row.invariant.whole c.if-row.true in
    let own : to_z w64 (of_z w64 c.number_of-own.result) ≡ c.number_of-own.result = read_small c.number_of-own.result c.number_of-own.ensures.small in
    let p : c.unsigned_abs-out-inside.result ≡ unsigned_abs c.number_of-own.result = c.unsigned_abs-out-inside.ensures.value ∙ ap unsigned_abs own in
    let sign = rw own at c.signed_below-positive.ensures in
    let d : to_z w64 (of_z w64 c.signed_below-positive.result.1) ≡ cond c.signed_below-positive.result.0 (pos c.row.inside.below) (neg_ℤ (pos c.row.inside.below)) = read_small c.signed_below-positive.result.1 c.signed_below-positive.ensures.small ∙ c.signed_below-positive.ensures.value in
    let number = rw c.as_slice-wholes.ensures.value at c.number_of-own.ensures.value in
    let kept = rw (d, c.as_slice-wholes.ensures.value) at c.in-Ok.ensures.kept in
    let t = turned_whole (length c.args.pivot.now.standing.now) (Row c.args.pivot.now.entering) (basic_in c.args.pivot.now.standing.now) c.args.pivot.now.leaving c.args.pivot.now.entering c.args.pivot.now.inverse c.row.inside.below c.row.inside.wholes.items c.number_of-own.result c.unsigned_abs-out-inside.result c.signed_below-positive.result.0 c.turn_entries.new.out.items
    whole number (c.requires.pivot ∙ ap inverse (sym (whole_read c.row.inside.len c.row.inside.is_whole c.row.inside.below c.row.inside.wholes.items c.row.inside.entries.items c.args.row.now c.row.invariant c.row.view_is c.args.pivot.now.entering c.if-row.true (omega (arith, c.requires.entering, c.requires.row_long))))) c.requires.nonzero p (omega (arith, p, c.number_of-own.ensures.small)) sign.yes sign.no kept in
    let is_whole : IsWhole c.unsigned_abs-out-inside.result c.turn_entries.new.out.items = record { positive = t.0; small = omega (arith, p, c.number_of-own.ensures.small); numbers = c.in-Ok.ensures.small } in
    turn_written (length c.args.pivot.now.standing.now) (Row c.args.pivot.now.entering) (basic_in c.args.pivot.now.standing.now) c.args.pivot.now.leaving c.args.pivot.now.entering c.args.pivot.now.inverse c.args.row.now c.row.inside.len c.row.inside.below c.row.inside.wholes.items c.unsigned_abs-out-inside.result c.turn_entries.new.out.items (whole_view c.row.inside.len c.row.inside.is_whole c.row.inside.below c.row.inside.wholes.items c.row.inside.entries.items c.args.row.now c.row.invariant c.row.view_is c.if-row.true) c.requires.row_long t.1 t.2

pub turn_entries-requires-clause-own_small : goal.turn_entries-requires-clause-own_small
turn_entries-requires-clause-own_small c = grind (arith, common_steps)

pub signed_below-positive-requires : goal.signed_below-positive-requires
signed_below-positive-requires c = grind (arith, common_steps)

pub turn_entries-requires-clause-few : goal.turn_entries-requires-clause-few
turn_entries-requires-clause-few c = grind (arith, common_steps)

pub solve_entries-requires-clause-few : goal.solve_entries-requires-clause-few
solve_entries-requires-clause-few c = grind (arith, common_steps)

pub turn_entries-requires-clause-leaves : goal.turn_entries-requires-clause-leaves
turn_entries-requires-clause-leaves c = grind (arith, common_steps)

pub solve_entries-requires-clause-leaves : goal.solve_entries-requires-clause-leaves
solve_entries-requires-clause-leaves c = grind (arith, common_steps)

pub returns-in-Err-clause-written : goal.returns-in-Err-clause-written
returns-in-Err-clause-written c = grind (arith, common_steps)
