use Rattle.std.proofs.Common.{◌≡◌, ◌<◌, ℕ, List, length, Result, IfOk, sym, ap, ◌∙◌, subst, arith}
use Rattle.std.specs.Prelude.{All}
use Rattle.cip_cert.specs.Touched.{Touched}
use Rattle.cip_lagrange.specs.declared.answers.TreeBound.{TreeBound}
use Rattle.cip_lagrange.specs.declared.answers.LagrangeFault.{LagrangeFault}
use Rattle.cip_lagrange.specs.LagrangeOutcomes.{chain, Reduced, multipliers_used, start_of, rests_added, lagrange_outcome}
use Rattle.cip_lagrange.specs.LagrangeMeaning.{LagrangeFollows}
use Rattle.cip_lagrange.specs.Scratches.{AreReady}
use Rattle.cip_lagrange.proofs.Ready.{masters_inside, free_inside, are_ready}
use Rattle.cip_lagrange.proofs.Shown.{lagrange_mean}
use Rattle.cip_lagrange.proofs.lagrangian.lagrange.Goals as goal

pub reduce-requires-clause-numbers : goal.reduce-requires-clause-numbers
reduce-requires-clause-numbers c =
    subst (All (λ number. number < length c.args.program.now.rows)) (sym c.master_rows-numbers.ensures)
    (masters_inside c.args.program.now c.args.blocks.now c.requires.made)

pub add_rests-requires-clause-free : goal.add_rests-requires-clause-free
add_rests-requires-clause-free c =
    free_inside c.args.program.now c.args.blocks.now (length c.reduce.new.scratch.rests.items) c.requires.made
    c.in-Ok.ensures.rests

pub add_rests-requires-clause-ready : goal.add_rests-requires-clause-ready
add_rests-requires-clause-ready c =
    let row : length c.reduce.new.scratch.row.entries ≡ length c.args.scratch.now.row.entries =
    ap (λ (r : Touched). length r.entries) c.in-Ok.ensures.row in
    subst (λ n. AreReady n (length c.reduce.new.scratch.row.entries) c.args.blocks.now) (sym c.requires.box_)
    (are_ready c.args.program.now c.args.blocks.now c.columns-columns.ensures.formed c.requires.made
    (length c.reduce.new.scratch.row.entries) (omega (arith, row, c.requires.room.row)))

pub returns-in-Ok-clause-follows : goal.returns-in-Ok-clause-follows
returns-in-Ok-clause-follows c =
    let program = c.args.program.now in
    let kept = c.args.blocks.now in
    let room : ℕ = length c.reduce.new.scratch.row.entries in
    let row : room ≡ length c.args.scratch.now.row.entries =
    ap (λ (r : Touched). length r.entries) c.in-Ok.ensures.row in
    let steps : c.add_rests.result
    ≡ lagrange_outcome room program kept c.args.bounds.now c.args.multipliers.now c.args.trees.now =
    c.add_rests.ensures.steps
    ∙ sym (ap (λ (o : Result Reduced LagrangeFault). chain o (rests_added room kept c.args.bounds.now
    c.args.trees.now))
    (ap (λ (ns : List ℕ). multipliers_used program.rows ns c.args.multipliers.now (start_of program))
    (sym c.master_rows-numbers.ensures) ∙ c.in-Ok.ensures.steps)) in
    subst (λ (o : Result TreeBound LagrangeFault). IfOk o (LagrangeFollows program c.args.bounds.now)) (sym steps)
    (lagrange_mean room program kept c.args.bounds.now c.args.multipliers.now c.args.trees.now
    c.columns-columns.ensures.formed c.requires.made
    (are_ready program kept c.columns-columns.ensures.formed c.requires.made room
    (omega (arith, row, c.requires.room.row)))
    c.requires.box_ c.requires.multipliers c.requires.trees)
