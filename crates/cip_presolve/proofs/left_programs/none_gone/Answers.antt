use Rattle.std.specs.Prelude.{replicate}
use Rattle.std.proofs.lemmas.Grind.{common_steps}
use Rattle.std.proofs.Common.{◌++◌, ◌∷◌, [], None, ap, ◌∙◌, arith, ◌≡◌}
use Rattle.cip_presolve.proofs.Unchanged.{one_more_none}
use Rattle.cip_presolve.proofs.left_programs.none_gone.Goals as goal

pub loop-preserved : goal.loop-preserved
loop-preserved c = c.in_ok-push.ensures.items ∙ ap (λ t. t ++ None ∷ []) c.loop.invariant ∙ one_more_none c.loop.counter

pub loop-init : goal.loop-init
loop-init c = grind (arith, common_steps)

pub returns : goal.returns
returns c =
    let all : c.loop.counter ≡ c.args.columns = omega (arith, c.loop-test.false, c.loop.auto.counter-end) in
    c.loop.invariant ∙ ap (λ n. replicate n None) all
