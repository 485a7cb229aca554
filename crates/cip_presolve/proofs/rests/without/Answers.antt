use Rattle.std.proofs.lemmas.Grind.{common_steps}
use Rattle.std.proofs.Common.{◌≡◌, ◌∙◌, List, ap, arith}
use Rattle.cip_problem.specs.Program.{Term}
use Rattle.std.specs.List.{remove}
use Rattle.cip_presolve.proofs.RestSums.{made_without}
use Rattle.cip_presolve.proofs.rests.without.Goals as goal

pub returns-in-Ok : goal.returns-in-Ok
returns-in-Ok c =
    let terms : c.as_slice.result.now ≡ remove c.args.row.now.terms c.args.at = c.as_slice.ensures.value
    ∙ c.remove-own.ensures.items
    ∙ ap (λ (ts : List Term). remove ts c.args.at) (c.in_ok-terms.ensures.items_if_clones_equal (λ x y e. e)
    ∙ c.terms.ensures.terms) in
    made_without c.args.row.now.terms c.as_slice.result.now c.args.at c.in-Ok.rest terms c.in-Ok.ensures.0

pub remove-own-requires : goal.remove-own-requires
remove-own-requires c = grind (arith, common_steps)

pub returns : goal.returns
returns c = grind (arith, common_steps)

pub returns-in-Err-NoMemory : goal.returns-in-Err-NoMemory
returns-in-Err-NoMemory c = grind (arith, common_steps)
