use Rattle.std.proofs.Common.{◌≡◌, true, map, ap, ◌∙◌}
use Rattle.cip_mps.specs.GroupEntries.{near_entry, far_entry}
use Rattle.cip_mps.specs.GroupedRows.{empty_row, follow, put_numbers}
use Rattle.cip_mps.proofs.FollowLaws.{follow_parts, empty_follow}
use Rattle.cip_mps.proofs.GroupedLaws.{put_both}
use Rattle.cip_mps.proofs.groups.Group.into_rows.Goals as goal

pub put_near-requires : goal.put_near-requires
put_near-requires c =
    let rows = map empty_row c.args.heads.now in
    let near = map near_entry c.self.inside.near.items in
    let far = map far_entry c.self.inside.far.items in
    let all : follow rows c.args.self ≡ true = empty_follow c.args.heads.now c.args.self (rw c.self.view_is at c.self.invariant) in
    let parts = follow_parts rows near far (rw (← c.self.view_is) at all) in
    ap (λ given. follow given (map near_entry c.as_slice.result.now)) c.in_ok-rows.ensures
    ∙ ap (λ xs. follow rows (map near_entry xs)) c.as_slice.ensures.value ∙ parts.0

pub put_far-requires : goal.put_far-requires
put_far-requires c =
    let rows = map empty_row c.args.heads.now in
    let near = map near_entry c.self.inside.near.items in
    let far = map far_entry c.self.inside.far.items in
    let all : follow rows c.args.self ≡ true = empty_follow c.args.heads.now c.args.self (rw c.self.view_is at c.self.invariant) in
    let parts = follow_parts rows near far (rw (← c.self.view_is) at all) in
    let put =
    c.in_ok-put_near.ensures ∙ ap (λ given. put_numbers given (map near_entry c.as_slice.result.now)) c.in_ok-rows.ensures
    ∙ ap (λ xs. put_numbers rows (map near_entry xs)) c.as_slice.ensures.value in
    ap (λ given. follow given (map far_entry c.as_slice-2.result.now)) put
    ∙ ap (λ xs. follow (put_numbers rows near) (map far_entry xs)) c.as_slice-2.ensures.value ∙ parts.1

pub returns : goal.returns
returns c =
    let rows = map empty_row c.args.heads.now in
    let near = map near_entry c.self.inside.near.items in
    let far = map far_entry c.self.inside.far.items in
    let put =
    c.in_ok-put_near.ensures ∙ ap (λ given. put_numbers given (map near_entry c.as_slice.result.now)) c.in_ok-rows.ensures
    ∙ ap (λ xs. put_numbers rows (map near_entry xs)) c.as_slice.ensures.value in
    c.in_ok-put_far.ensures ∙ ap (λ xs. put_numbers c.put_near.new.rows.items (map far_entry xs)) c.as_slice-2.ensures.value
    ∙ ap (λ given. put_numbers given far) put ∙ put_both rows near far ∙ ap (put_numbers rows) c.self.view_is
