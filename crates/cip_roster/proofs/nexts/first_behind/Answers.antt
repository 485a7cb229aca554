use Rattle.std.proofs.lemmas.Grind.{common_steps}
use Rattle.std.proofs.Common.{◌+◌, pos, refl, sym, ap, ◌∙◌, Bool, Some, cond, drop, get_or, arith}
use Rattle.std.proofs.lemmas.List.{drop_all}
use Rattle.std.specs.List.{find}
use Rattle.cip_plugin.specs.declared.keys.Key.{Key}
use Rattle.cip_roster.specs.Nexts.{is_behind}
use Rattle.cip_roster.proofs.Ranking.{find_next}
use Rattle.cip_roster.proofs.nexts.first_behind.Goals as goal

pub loop-key-init : goal.loop-key-init
loop-key-init c = refl

pub returns-then-is_behind : goal.returns-then-is_behind
returns-then-is_behind c =
    let d : Key = record { rank = record { 0 = pos 0 }; id = 0 } in
    let key = get_or c.args.keys.now c.loop-key.key-index d in
    ap (λ (b : Bool). cond b (Some key) (find (is_behind c.args.after) (drop (c.loop-key.key-index + 1)
    c.args.keys.now))) c.if-is_behind.ensures
    ∙ sym (find_next (is_behind c.args.after) c.args.keys.now c.loop-key.key-index d c.loop-key-test.true)
    ∙ c.loop-key.invariant

pub loop-key-preserved : goal.loop-key-preserved
loop-key-preserved c =
    let d : Key = record { rank = record { 0 = pos 0 }; id = 0 } in
    let key = get_or c.args.keys.now c.loop-key.key-index d in
    ap (λ (b : Bool). cond b (Some key) (find (is_behind c.args.after) (drop (c.loop-key.key-index + 1)
    c.args.keys.now))) c.if-is_behind.ensures
    ∙ sym (find_next (is_behind c.args.after) c.args.keys.now c.loop-key.key-index d c.loop-key-test.true)
    ∙ c.loop-key.invariant

pub returns : goal.returns
returns c =
    sym (ap (find (is_behind c.args.after)) (drop_all c.loop-key.key-index c.args.keys.now c.loop-key-test.false))
    ∙ c.loop-key.invariant

pub offset_bounds-keys-key-index : goal.offset_bounds-keys-key-index
offset_bounds-keys-key-index c = grind (arith, common_steps)
