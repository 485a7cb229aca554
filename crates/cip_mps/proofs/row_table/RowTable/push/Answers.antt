use Rattle.std.proofs.lemmas.Grind.{common_steps}
use Rattle.std.proofs.Common.{◌≡◌, ◌*◌, ◌<◌, ◌≤◌, ℕ, List, [], ◌∷◌, ◌++◌, length, refl, ap, ◌∙◌, arith}
use Rattle.cip_mps_lines.specs.MpsKinds.{row_kind_in}
use Rattle.cip_text_rules.specs.MpsState.{RowRead}
use Rattle.cip_text_rules.specs.MpsSteps.{new_row}
use Rattle.cip_mps.specs.Tables.{rows_of}
use Rattle.cip_mps.proofs.TableLaws.{rows_pushed, sound_kept, sound_others, sound_pushed, same_rows}
use Rattle.cip_mps.proofs.row_table.RowTable.push.Goals as goal

pub returns-clause-ok : goal.returns-clause-ok
returns-clause-ok c =
    let heads = c.self.inside.heads.items in
    let groups = c.self.inside.groups.items in
    let others = c.make_group.new.groups.items in
    let kind = row_kind_in c.args.kind in
    let more : c.push_reserved.new.self.items ≡ heads ++ new_row kind ∷ [] = c.push_reserved.ensures.items ∙ ap (λ (hs : List RowRead). hs ++ c.new.result ∷ []) c.in-Ok.ensures.items ∙ ap (λ (h : RowRead). heads ++ h ∷ []) c.new.ensures in
    ap (λ (hs : List RowRead). rows_of hs others) more ∙ rows_pushed c.self.inside.held_to.items heads groups others kind c.self.invariant c.in-Ok-make_group.ensures.same
    ∙ ap (λ (rs : List RowRead). rs ++ new_row kind ∷ []) c.self.view_is

pub invariant_of-self : goal.invariant_of-self
invariant_of-self c =
    let held_to = c.self.inside.held_to.items in
    sound_kept held_to held_to c.self.inside.heads.items c.reserve.new.self.items c.self.inside.groups.items refl c.in_default.ensures.items c.self.invariant

pub invariant_of-self-in_default-reserve : goal.invariant_of-self-in_default-reserve
invariant_of-self-in_default-reserve c =
    sound_kept c.self.inside.held_to.items c.reserve-2.new.self.items c.self.inside.heads.items c.reserve.new.self.items c.self.inside.groups.items c.in_default-reserve.ensures.items c.in-Ok.ensures.items c.self.invariant

pub invariant_of-self-in_default-make_group : goal.invariant_of-self-in_default-make_group
invariant_of-self-in_default-make_group c =
    let heads = c.self.inside.heads.items in
    let held_to = c.self.inside.held_to.items in
    let groups = c.self.inside.groups.items in
    let others = c.make_group.new.groups.items in
    let enough : length heads ≤ 64 * length others = omega (arith, c.in_default-make_group.ensures.enough, c.len-number.ensures, c.self.inside.heads.ok.0) in
    sound_kept held_to c.reserve-2.new.self.items heads c.reserve.new.self.items others c.in-Ok-reserve.ensures.items c.in-Ok.ensures.items
    (sound_others held_to heads groups others c.self.invariant c.in_default-make_group.ensures.same enough)

pub invariant_of-self-2 : goal.invariant_of-self-2
invariant_of-self-2 c =
    let heads = c.self.inside.heads.items in
    let held_to = c.self.inside.held_to.items in
    let groups = c.self.inside.groups.items in
    let others = c.make_group.new.groups.items in
    let room : length heads < 64 * length others = omega (arith, c.in-Ok-make_group.ensures.room, c.len-number.ensures, c.self.inside.heads.ok.0) in
    let more : c.push_reserved.new.self.items ≡ heads ++ c.new.result ∷ [] = c.push_reserved.ensures.items ∙ ap (λ (hs : List RowRead). hs ++ c.new.result ∷ []) c.in-Ok.ensures.items in
    let ends : c.push_reserved-2.new.self.items ≡ held_to ++ 0 ∷ [] = c.push_reserved-2.ensures.items ∙ ap (λ (ns : List ℕ). ns ++ 0 ∷ []) c.in-Ok-reserve.ensures.items in
    sound_kept (held_to ++ 0 ∷ []) c.push_reserved-2.new.self.items (heads ++ c.new.result ∷ []) c.push_reserved.new.self.items others ends more
    (sound_pushed held_to heads groups others c.new.result c.self.invariant c.in-Ok-make_group.ensures.same room)

pub returns-in_default-make_group-clause-err : goal.returns-in_default-make_group-clause-err
returns-in_default-make_group-clause-err c =
    let others = c.make_group.new.groups.items in
    ap (λ (hs : List RowRead). rows_of hs others) c.in-Ok.ensures.items ∙ same_rows c.self.inside.heads.items c.self.inside.groups.items others c.in_default-make_group.ensures.same ∙ c.self.view_is

pub returns-in_default-reserve-clause-err : goal.returns-in_default-reserve-clause-err
returns-in_default-reserve-clause-err c =
    ap (λ (hs : List RowRead). rows_of hs c.self.inside.groups.items) c.in-Ok.ensures.items ∙ c.self.view_is

pub returns-in_default-clause-err : goal.returns-in_default-clause-err
returns-in_default-clause-err c =
    ap (λ (hs : List RowRead). rows_of hs c.self.inside.groups.items) c.in_default.ensures.items ∙ c.self.view_is

pub push_reserved-requires : goal.push_reserved-requires
push_reserved-requires c = grind (arith, common_steps)

pub push_reserved-requires-2 : goal.push_reserved-requires-2
push_reserved-requires-2 c = grind (arith, common_steps)

pub make_group-requires : goal.make_group-requires
make_group-requires c = grind (arith, common_steps)

pub returns-in_default-make_group-clause-ok : goal.returns-in_default-make_group-clause-ok
returns-in_default-make_group-clause-ok c = grind (arith, common_steps)

pub returns-clause-err : goal.returns-clause-err
returns-clause-err c = grind (arith, common_steps)

pub returns-in_default-reserve-clause-ok : goal.returns-in_default-reserve-clause-ok
returns-in_default-reserve-clause-ok c = grind (arith, common_steps)

pub returns-in_default-clause-ok : goal.returns-in_default-clause-ok
returns-in_default-clause-ok c = grind (arith, common_steps)
