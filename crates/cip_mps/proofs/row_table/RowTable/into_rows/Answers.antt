use Rattle.std.proofs.lemmas.Grind.{common_steps}
use Rattle.std.proofs.Common.{◌≡◌, ◌++◌, ◌∷◌, ◌∙◌, List, map, take, length, ap, sym, arith}
use Rattle.std.specs.List.{filter}
use Rattle.std.specs.Vec.Iter.{into_iter_items}
use Rattle.std.proofs.lemmas.List.{take-append-drop}
use Rattle.cip_text_rules.specs.MpsState.{is_kept, finished_row}
use Rattle.cip_mps.specs.GroupedRows.{kept_rows}
use Rattle.cip_mps.proofs.GroupedLaws.{finished, one_group, group_parts}
use Rattle.cip_mps.proofs.row_table.RowTable.into_rows.Goals as goal

pub loop-group-preserved : goal.loop-group-preserved
loop-group-preserved c =
    let here = c.split_at.result.0.now in
    let behind = c.split_at.result.1.now in
    let groups = into_iter_items c.next.new.self in
    let before = c.loop-group.finished.items in
    let all = map finished_row (filter is_kept c.args.self) in
    let split : into_iter_items c.loop-group.group-iterator ≡ c.in-Some.group ∷ groups = c.in-Some.ensures.steps.0 in
    let joined : here ++ behind ≡ c.loop-group.rest.now =
    ap (λ (xs : List _). xs ++ behind) c.split_at.ensures.front ∙ ap (λ (xs : List _). take c.min.result c.loop-group.rest.now ++ xs) c.split_at.ensures.back ∙ take-append-drop c.min.result c.loop-group.rest.now in
    let parts = group_parts (length c.loop-group.rest.now) (length here) (length behind) (length groups)
    (c.split_at.ensures.front_len ∙ c.min.ensures) (omega (arith, c.split_at.ensures.front_len, c.split_at.ensures.back_len)) (let e = ap length split in let h = c.loop-group.invariant.enough in omega (arith, e, h)) in
    let step = one_group here behind c.in-Some.group groups before all parts.0 parts.1.0 ((λ i. before ++ finished (joined i) (sym split i)) ∙ c.loop-group.invariant.finished) in
    let kept = c.in_ok-keep_rows.ensures ∙ ap (λ rows. before ++ kept_rows here rows) c.in_ok-rows.ensures in
    record {
      finished = ap (λ rows. rows ++ finished behind groups) kept ∙ step;
      enough = parts.1.1;
      left = omega (arith, c.in-Some.ensures.steps, c.loop-group.invariant.left, ap length split);
    }

pub into_rows-requires : goal.into_rows-requires
into_rows-requires c = grind (arith, common_steps)

pub loop-group-init : goal.loop-group-init
loop-group-init c = grind (arith, common_steps)

pub returns : goal.returns
returns c = grind (arith, common_steps)

pub split_at-requires : goal.split_at-requires
split_at-requires c = grind (arith, common_steps)

pub loop-group-init-derived : goal.loop-group-init-derived
loop-group-init-derived c = grind (arith, common_steps)

pub loop-group-preserved-derived : goal.loop-group-preserved-derived
loop-group-preserved-derived c = grind (arith, common_steps)
