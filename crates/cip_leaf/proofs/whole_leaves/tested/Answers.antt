use Rattle.std.proofs.Common.{◌≡◌, sym}
use Rattle.cip_leaf.proofs.WholeLeaves.{long, best, wide, no_point}
use Rattle.cip_leaf.proofs.whole_leaves.tested.Goals as goal

pub check_whole-requires-clause-long : goal.check_whole-requires-clause-long
check_whole-requires-clause-long c = long c.args.program.now c.args.leaf.now c.whole-whole.ensures.formed c.whole-whole.ensures.none c.requires.whole c.requires.leaf

pub returns-in_ok-to_vec-in-Feasible : goal.returns-in_ok-to_vec-in-Feasible
returns-in_ok-to_vec-in-Feasible c =
    let program = c.args.program.now in
    let p : c.in_ok-to_vec-in-Feasible.field-0.items ≡ c.args.leaf.now = c.in_ok-to_vec-in-Feasible.ensures.items_if_clones_equal (λ x y e. e) in
    let v = sym c.in-Feasible.ensures.verdict in
    let m = c.in-Feasible.ensures.meaning in
    best program c.args.leaf.now c.whole-whole.ensures.formed c.whole-whole.ensures.none c.requires.whole c.requires.leaf _ _ p m.0 v m.1

pub returns-in-Wide : goal.returns-in-Wide
returns-in-Wide c =
    let m = c.in-Wide.ensures.meaning in
    wide c.args.program.now c.args.leaf.now c.whole-whole.ensures.formed c.whole-whole.ensures.none c.requires.whole c.requires.leaf c.in-Wide.place m

pub returns-in_default : goal.returns-in_default
returns-in_default c =
    no_point c.args.program.now c.args.leaf.now c.whole-whole.ensures.formed c.whole-whole.ensures.none c.requires.whole c.requires.leaf c.check_whole.result c.check_whole.ensures.verdict c.in_default.not-Feasible c.in_default.not-Wide
