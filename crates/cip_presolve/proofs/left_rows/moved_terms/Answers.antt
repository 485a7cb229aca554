use Rattle.std.proofs.lemmas.Grind.{common_steps}
use Rattle.std.proofs.Common.{◌++◌, ◌∙◌, ap, arith}
use Rattle.std.specs.Prelude.{map}
use Rattle.cip_problem.specs.Program.{Term}
use Rattle.cip_presolve.specs.LeftProgram.{moved_term}
use Rattle.cip_presolve.proofs.Leftovers.{map_more, map_end}
use Rattle.cip_presolve.proofs.left_rows.moved_terms.Goals as goal

pub loop-term-init : goal.loop-term-init
loop-term-init c = ap (λ t. t ++ map (moved_term c.args.numbers.now) c.args.terms.now) c.new-moved.ensures.items

pub loop-term-preserved : goal.loop-term-preserved
loop-term-preserved c =
    map_more (moved_term c.args.numbers.now) c.loop-term.term-index c.args.terms.now c.term-item.result c.loop-term.moved.items c.push.new.self.items _ _
    c.loop-term-test.true (ap (λ (t : Term). moved_term c.args.numbers.now t) (c.term.view_is ∙ c.term-item.is)) c.in_ok-push.ensures.items c.loop-term.invariant

pub returns : goal.returns
returns c = map_end (moved_term c.args.numbers.now) c.loop-term.term-index c.args.terms.now c.loop-term.moved.items _ c.loop-term-test.false c.loop-term.invariant

pub bounds-numbers-term-inside : goal.bounds-numbers-term-inside
bounds-numbers-term-inside c = grind (arith, common_steps)

pub offset_bounds-numbers-term-inside : goal.offset_bounds-numbers-term-inside
offset_bounds-numbers-term-inside c = grind (arith, common_steps)

pub offset_bounds-terms-term-index : goal.offset_bounds-terms-term-index
offset_bounds-terms-term-index c = grind (arith, common_steps)
