use Rattle.cip_core.specs.Beginning.{IsRootBound}
use Rattle.cip_core.specs.Entering.{own_region}
use Rattle.std.proofs.lemmas.Grind.{common_steps}
use Rattle.std.proofs.Common.{[], None, sym, subst, arith}
use Rattle.cip_search.specs.SearchState.{HasGivenBoxes}
use Rattle.cip_presolve.specs.StepsBack.{way_back}
use Rattle.cip_tree.specs.Moves.{IsNew}
use Rattle.cip_core.specs.KeptNodes.{state_of, IsKept}
use Rattle.cip_core.proofs.Begun.{begun, begun_boxes, if_ok, new_there, root_there}
use Rattle.cip_core.proofs.LedBack.{presolved_way}
use Rattle.cip_domain.specs.Narrowing.{ArePlainPast}
use Rattle.cip_core.proofs.OwnChoices.{own_past}
use Rattle.cip_core.proofs.beginning.rooted_tree.Goals as goal

pub new-requires-clause-past : goal.new-requires-clause-past
new-requires-clause-past c = subst ArePlainPast (sym c.in_ok-root.ensures) (own_past c.args.presolved.now.reduced c.columns-left.ensures.formed)

pub returns-clause-kept : goal.returns-clause-kept
returns-clause-kept c =
    let program = c.args.program.now in
    let reduced = c.args.presolved.now.reduced in
    let steps = c.args.presolved.now.steps in
    let back = presolved_way program c.args.presolved.now c.columns-columns.ensures.formed c.columns-left.ensures.formed c.requires.back in
    if_ok (λ tree. IsNew tree c.in_ok-root.root c.whole.result.now c.root_bound-bound.result) (λ tree. IsKept program reduced (way_back steps) tree None []) c.new.result
    (λ tree n. begun program reduced steps tree c.root_bound-bound.result
    (subst (λ b. IsNew tree b reduced.integral c.root_bound-bound.result) c.in_ok-root.ensures
    (subst (λ i. IsNew tree c.in_ok-root.root i c.root_bound-bound.result) c.whole.ensures.whole n)) c.requires.near back c.root_bound-bound.ensures.holds)
    c.new.ensures

pub returns-clause-boxes : goal.returns-clause-boxes
returns-clause-boxes c =
    let program = c.args.program.now in
    let reduced = c.args.presolved.now.reduced in
    let steps = c.args.presolved.now.steps in
    if_ok (λ tree. IsNew tree c.in_ok-root.root c.whole.result.now c.root_bound-bound.result) (λ tree. HasGivenBoxes reduced tree.root.bound (state_of tree None [])) c.new.result
    (λ tree n. begun_boxes program reduced steps tree c.root_bound-bound.result
    (subst (λ b. IsNew tree b reduced.integral c.root_bound-bound.result) c.in_ok-root.ensures
    (subst (λ i. IsNew tree c.in_ok-root.root i c.root_bound-bound.result) c.whole.ensures.whole n)))
    c.new.ensures

pub new-requires-clause-columns : goal.new-requires-clause-columns
new-requires-clause-columns c = grind (arith, common_steps)

pub returns-clause-new : goal.returns-clause-new
returns-clause-new c =
    let reduced = c.args.presolved.now.reduced in
    if_ok (λ tree. IsNew tree c.in_ok-root.root c.whole.result.now c.root_bound-bound.result) (λ tree. IsNew tree (own_region reduced) reduced.integral tree.root.bound) c.new.result
    (λ tree n. new_there tree c.in_ok-root.root (own_region reduced) c.whole.result.now reduced.integral c.root_bound-bound.result c.in_ok-root.ensures c.whole.ensures.whole n) c.new.ensures

pub returns-clause-root : goal.returns-clause-root
returns-clause-root c =
    let program = c.args.program.now in
    if_ok (λ tree. IsNew tree c.in_ok-root.root c.whole.result.now c.root_bound-bound.result) (λ tree. IsRootBound program tree.root.bound) c.new.result
    (λ tree n. root_there program tree c.in_ok-root.root c.whole.result.now c.root_bound-bound.result c.root_bound-bound.ensures.root n) c.new.ensures
