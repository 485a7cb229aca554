use Rattle.std.proofs.lemmas.Grind.{common_steps}
use Rattle.std.proofs.Common.{◌≡◌, sym, ap, ◌∙◌, subst, arith}
use Rattle.std.specs.Prelude.{Bool, MatchResult}
use Rattle.cip_rows.specs.RowPools.{Pool}
use Rattle.cip_core.specs.CoreStates.{CoreState, IsTakenUp, IsGivenBound}
use Rattle.cip_core.specs.Steps.{IsBack, aged}
use Rattle.cip_node.specs.Looking.{CanWorkOn}
use Rattle.cip_node.specs.NodeEnds.{HasEnded}
use Rattle.cip_node.specs.declared.ends.NodeEnd.{NodeEnd}
use Rattle.cip_node.specs.declared.ends.NodeRecord.{NodeRecord}
use Rattle.cip_node.proofs.EndLaws.{looked_core, back_looked, ended_or_back, can_looked}
use Rattle.cip_node.proofs.works.NodeWork.process.Goals as goal

pub returns-in-Err-clause-ended : goal.returns-in-Err-clause-ended
returns-in-Err-clause-ended c =
    let core = c.args.self.now.core in
    let looked = c.look.new.core in
    let pool = aged core.pool in
    let frame : looked ≡ looked_core core pool looked.tree.work = c.look.ensures.frame ∙ ap (λ (k : CoreState). looked_core k k.pool looked.tree.work) c.age.ensures.frame in
    back_looked core c.go_back.new.self pool looked.tree.work c.args.node c.args.node.number c.args.node.bound
    (subst (λ (k : CoreState). IsBack k c.go_back.new.self c.args.node.number c.args.node.bound) frame
    (subst (IsBack looked c.go_back.new.self c.args.node.number) c.bound-bound.ensures c.go_back.ensures.back))

pub go_back-requires-clause-given : goal.go_back-requires-clause-given
go_back-requires-clause-given c =
    let core = c.args.self.now.core in
    let looked = c.look.new.core in
    let frame : looked ≡ looked_core core (aged core.pool) looked.tree.work = c.look.ensures.frame ∙ ap (λ (k : CoreState). looked_core k k.pool looked.tree.work) c.age.ensures.frame in
    subst (λ (k : CoreState). IsGivenBound k c.args.node.number c.bound-bound.result) (sym frame) (subst (IsGivenBound core c.args.node.number) (sym c.bound-bound.ensures) c.requires.given)

pub end-requires-clause-can : goal.end-requires-clause-can
end-requires-clause-can c =
    let core = c.args.self.now.core in
    let looked = c.look.new.core in
    let frame : looked ≡ looked_core core (aged core.pool) looked.tree.work = c.look.ensures.frame ∙ ap (λ (k : CoreState). looked_core k k.pool looked.tree.work) c.age.ensures.frame in
    subst (λ (k : CoreState). CanWorkOn k c.args.node) (sym frame)
    (can_looked core (aged core.pool) looked.tree.work c.args.node (subst (λ (k : CoreState). IsTakenUp k c.args.node) frame c.look.ensures.up) c.requires)

pub returns-in-Ok-clause-ended : goal.returns-in-Ok-clause-ended
returns-in-Ok-clause-ended c =
    let core = c.args.self.now.core in
    let looked = c.look.new.core in
    let new = c.end.new.self.core in
    let node = c.args.node in
    let frame : looked ≡ looked_core core (aged core.pool) looked.tree.work = c.look.ensures.frame ∙ ap (λ (k : CoreState). looked_core k k.pool looked.tree.work) c.age.ensures.frame in
    ended_or_back core new (aged core.pool) looked.tree.work node c.end.result
    (subst (λ (k : CoreState). MatchResult c.end.result (λ (done : NodeEnd × NodeRecord). HasEnded k new node done.1.mark done.0) (λ _. IsBack k new node.number node.bound)) frame c.end.ensures.ended)

pub returns-in-Ok-clause-aged : goal.returns-in-Ok-clause-aged
returns-in-Ok-clause-aged c =
    ap (λ (rows : Pool × Bool). rows.0) c.end.ensures.rows ∙ ap (λ (k : CoreState). k.pool) c.look.ensures.frame ∙ ap (λ (k : CoreState). k.pool) c.age.ensures.frame

pub returns-in-Ok-clause-touched : goal.returns-in-Ok-clause-touched
returns-in-Ok-clause-touched c =
    ap (λ (rows : Pool × Bool). rows.1) c.end.ensures.rows ∙ ap (λ (k : CoreState). k.touched) c.look.ensures.frame ∙ ap (λ (k : CoreState). k.touched) c.age.ensures.frame

pub look-requires : goal.look-requires
look-requires c = c.age.ensures.up c.args.node c.requires.up

pub returns-in-Err-clause-aged : goal.returns-in-Err-clause-aged
returns-in-Err-clause-aged c = grind (arith, common_steps)

pub returns-in-Err-clause-touched : goal.returns-in-Err-clause-touched
returns-in-Err-clause-touched c = grind (arith, common_steps)

pub end-requires-clause-look : goal.end-requires-clause-look
end-requires-clause-look c = grind (arith, common_steps)

pub go_back-requires-clause-up : goal.go_back-requires-clause-up
go_back-requires-clause-up c = c.look.ensures.up
