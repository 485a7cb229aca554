use Rattle.std.proofs.Common.{◌++◌, ◌∷◌, [], ap, ◌∙◌, arith, length, ◌<◌}
use Rattle.std.specs.Prelude.{slice_set}
use Rattle.cip_model.specs.NumberLists.{lists_of}
use Rattle.cip_model.proofs.GroupLaws.{lists_set, list_at}
use Rattle.cip_model.proofs.groups.put.Goals as goal

pub returns : goal.returns
returns c =
    let groups = c.args.groups.now.items in
    let below : c.args.group < length groups = omega (arith, c.requires, c.args.groups.now.ok.0) in
    lists_set groups c.args.group c.push.new.self
    ∙ ap (slice_set (lists_of groups) c.args.group)
    (c.in_ok-push.ensures.items ∙ ap (λ xs. xs ++ c.args.number ∷ []) (list_at groups c.args.group c.index_mut-chosen.result.now below c.index_mut-chosen.ensures.value))
