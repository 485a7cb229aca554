use Rattle.std.proofs.lemmas.Grind.{common_steps}
use Rattle.std.proofs.Common.{◌+◌, List, ◌∷◌, drop, drop-cons, map, suc, refl, ap, sym, ◌∙◌, arith}
use Rattle.std.specs.Prelude.{nat_lt, slice_index_or}
use Rattle.std.specs.List.{list_all}
use Rattle.std.proofs.lemmas.List.{drop_all}
use Rattle.cip_problem.specs.Program.{Row, no_row}
use Rattle.cip_text_rules.specs.MpsState.{Held}
use Rattle.cip_mps.specs.GroupEntries.{far_entry}
use Rattle.cip_mps.specs.GroupedRows.{follow, put_number, put_numbers}
use Rattle.cip_mps.specs.declared.groups.Far.{Far}
use Rattle.cip_mps.proofs.RowTermLaws.{follow_parts_at, put_at}
use Rattle.cip_mps.proofs.row_terms.put_far.Goals as goal

pub loop-number-init : goal.loop-number-init
loop-number-init c = record { follow = c.requires; put = refl }

pub put_number-requires : goal.put_number-requires
put_number-requires c =
    let xs = c.args.far.now in
    let n = c.loop-number.number-index in
    let number = c.number-item.result in
    let cut = drop-cons xs n number c.loop-number-test.true ∙ ap (λ (x : Far). x ∷ drop (suc n) xs) (sym c.number-item.is) in
    let rows = c.loop-number.rows.items in
    let here = follow_parts_at far_entry xs n number cut rows c.loop-number.invariant.follow in
    ap (λ (h : Held). list_all (λ term. nat_lt term.column h.column) (slice_index_or rows number.row no_row).terms) c.held.ensures ∙ here.0

pub loop-number-preserved : goal.loop-number-preserved
loop-number-preserved c =
    let xs = c.args.far.now in
    let n = c.loop-number.number-index in
    let number = c.number-item.result in
    let cut = drop-cons xs n number c.loop-number-test.true ∙ ap (λ (x : Far). x ∷ drop (suc n) xs) (sym c.number-item.is) in
    let rows = c.loop-number.rows.items in
    let here = follow_parts_at far_entry xs n number cut rows c.loop-number.invariant.follow in
    let step = c.in_ok-put_number.ensures ∙ ap (λ (h : Held). put_number rows (record { row = number.row; held = h })) c.held.ensures in
    record {
      follow = ap (λ (rs : List Row). follow rs (map far_entry (drop (n + 1) xs))) step ∙ here.1;
      put =
          ap (λ (rs : List Row). put_numbers rs (map far_entry (drop (n + 1) xs))) step
          ∙ put_at far_entry xs n number cut rows ∙ c.loop-number.invariant.put;
    }

pub returns : goal.returns
returns c =
    let rows = c.loop-number.rows.items in
    sym (ap (λ (xs : List Far). put_numbers rows (map far_entry xs)) (drop_all c.loop-number.number-index c.args.far.now c.loop-number-test.false))
    ∙ c.loop-number.invariant.put

pub offset_bounds-far-number-index : goal.offset_bounds-far-number-index
offset_bounds-far-number-index c = grind (arith, common_steps)
