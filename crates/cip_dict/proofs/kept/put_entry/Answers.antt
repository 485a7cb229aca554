use Rattle.std.proofs.lemmas.Grind.{common_steps}
use Rattle.std.proofs.Common.{◌≡◌, ◌≤◌, sym, length, arith}
use Rattle.cip_rational.specs.Rational.{zeroℚ}
use Rattle.cip_bland.proofs.Zeros.{nonzero_of}
use Rattle.cip_dict.specs.SparseLines.{IsPlace}
use Rattle.cip_dict.proofs.PutBehind.{end_entry, end_kept}
use Rattle.cip_dict.proofs.Places.{rising_kept, place_within}
use Rattle.cip_dict.proofs.PutEntries.{set_entry, set_kept, insert_entry, insert_kept, remove_entry, remove_kept, gone_already}
use Rattle.cip_dict.proofs.kept.put_entry.Goals as goal
use Rattle.cip_problem.proofs.Rows.{zero_of_test}

pub returns-then-is_past-clause-put : goal.returns-then-is_past-clause-put
returns-then-is_past-clause-put c =
    let place = (rw c.as_slice.ensures.value at c.is_past.ensures) c.if-is_past.true in
    λ v. rw c.in_ok-keep_entry.ensures.kept (end_entry c.args.k v c.args.entry c.args.entries.now.items c.requires.0 c.requires.2 place)

pub returns-then-is_past-clause-kept : goal.returns-then-is_past-clause-kept
returns-then-is_past-clause-kept c =
    let place = (rw c.as_slice.ensures.value at c.is_past.ensures) c.if-is_past.true in
    λ n l h. rw c.in_ok-keep_entry.ensures.kept (end_kept c.args.k n c.args.entry c.args.entries.now.items h place l)

pub is_past-requires : goal.is_past-requires
is_past-requires c = rw c.as_slice.ensures.value (rising_kept c.args.entries.now.items 0 c.requires.0 c.requires.2)

pub place_from-place-requires : goal.place_from-place-requires
place_from-place-requires c = rw c.as_slice-2.ensures.value (rising_kept c.args.entries.now.items 0 c.requires.0 c.requires.2)

pub returns-then-not-stands-clause-put : goal.returns-then-not-stands-clause-put
returns-then-not-stands-clause-put c =
    let at : IsPlace c.args.k c.args.entries.now.items c.place_from-place.result = rw c.as_slice-2.ensures.value at c.place_from-place.ensures in
    let s = rw c.as_slice-3.ensures.value at c.stands_at-stands.ensures in
    let z : c.args.entry ≡ zeroℚ = zero_of_test c.args.entry (sym c.if-vanishes.ensures) in
    λ v. rw z (gone_already c.args.k v c.args.entries.now.items c.place_from-place.result 0 c.requires.0 c.requires.2 at (s.no c.if-not-stands.true))

pub returns-then-vanishes-clause-put : goal.returns-then-vanishes-clause-put
returns-then-vanishes-clause-put c =
    let at : IsPlace c.args.k c.args.entries.now.items c.place_from-place.result = rw c.as_slice-2.ensures.value at c.place_from-place.ensures in
    let s = rw c.as_slice-3.ensures.value at c.stands_at-stands.ensures in
    let z : c.args.entry ≡ zeroℚ = zero_of_test c.args.entry (sym c.if-vanishes.ensures) in
    λ v. rw (z, c.remove-gone.ensures.items) (remove_entry c.args.k v c.args.entries.now.items c.place_from-place.result 0 c.requires.0 c.requires.2 at (s.within c.if-not-stands.false) (s.yes c.if-not-stands.false))

pub returns-then-vanishes-clause-kept : goal.returns-then-vanishes-clause-kept
returns-then-vanishes-clause-kept c =
    let s = rw c.as_slice-3.ensures.value at c.stands_at-stands.ensures in
    λ n l h. rw c.remove-gone.ensures.items (remove_kept c.args.entries.now.items c.place_from-place.result 0 n h (s.within c.if-not-stands.false))

pub returns-then-stands-clause-put : goal.returns-then-stands-clause-put
returns-then-stands-clause-put c =
    let at : IsPlace c.args.k c.args.entries.now.items c.place_from-place.result = rw c.as_slice-2.ensures.value at c.place_from-place.ensures in
    let s = rw c.as_slice-3.ensures.value at c.stands_at-stands.ensures in
    λ v. set_entry c.args.k v c.args.entry c.args.entries.now.items c.place_from-place.result 0 c.requires.0 c.requires.2 at (s.within c.if-stands.true) (s.yes c.if-stands.true)

pub returns-then-stands-clause-kept : goal.returns-then-stands-clause-kept
returns-then-stands-clause-kept c =
    let s = rw c.as_slice-3.ensures.value at c.stands_at-stands.ensures in
    λ n l h. set_kept c.args.k c.args.entry c.args.entries.now.items c.place_from-place.result 0 n h (s.within c.if-stands.true) (s.yes c.if-stands.true) (nonzero_of c.args.entry (sym c.if-vanishes.ensures))

pub insert-requires : goal.insert-requires
insert-requires c =
    let at : IsPlace c.args.k c.args.entries.now.items c.place_from-place.result = rw c.as_slice-2.ensures.value at c.place_from-place.ensures in
    let w : c.place_from-place.result ≤ length c.args.entries.now.items = place_within c.args.k c.args.entries.now.items c.place_from-place.result at in
    omega (arith, w, c.args.entries.now.ok.0)

pub returns-clause-put : goal.returns-clause-put
returns-clause-put c =
    let at : IsPlace c.args.k c.args.entries.now.items c.place_from-place.result = rw c.as_slice-2.ensures.value at c.place_from-place.ensures in
    λ v. rw c.in_ok-insert.ensures.items (insert_entry c.args.k v c.args.entry c.args.entries.now.items c.place_from-place.result at)

pub returns-clause-kept : goal.returns-clause-kept
returns-clause-kept c =
    let at : IsPlace c.args.k c.args.entries.now.items c.place_from-place.result = rw c.as_slice-2.ensures.value at c.place_from-place.ensures in
    let s = rw c.as_slice-3.ensures.value at c.stands_at-stands.ensures in
    λ n l h. rw c.in_ok-insert.ensures.items (insert_kept c.args.k c.args.entry c.args.entries.now.items c.place_from-place.result 0 n h at (omega arith) l (s.no c.if-stands.false) (nonzero_of c.args.entry (sym c.if-vanishes.ensures)))

pub index_mut-requires : goal.index_mut-requires
index_mut-requires c = grind (arith, common_steps)

pub remove-gone-requires : goal.remove-gone-requires
remove-gone-requires c = grind (arith, common_steps)

pub returns-then-not-stands-clause-kept : goal.returns-then-not-stands-clause-kept
returns-then-not-stands-clause-kept c = grind (arith, common_steps)
