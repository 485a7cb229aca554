use Rattle.std.proofs.lemmas.Grind.{common_steps}
use Rattle.std.proofs.Common.{◌<◌, ◌^◌, sym, subst, arith}
use Rattle.cip_core.specs.CoreStates.{IsGivenBound}
use Rattle.cip_core.specs.Steps.{IsBack}
use Rattle.cip_node.specs.Bounding.{IsBounded}
use Rattle.cip_node.proofs.EndLaws.{emptied_after, ended_after, back_after}
use Rattle.cip_node.proofs.GivenLater.{given_later}
use Rattle.cip_node.proofs.Looked.{open_after}
use Rattle.cip_node.proofs.works.NodeWork.end_open.Goals as goal

pub go_back-requires-clause-given : goal.go_back-requires-clause-given
go_back-requires-clause-given c =
    let core = c.args.self.now.core in
    let mid = c.bound_in_rounds.new.self.core in
    given_later core mid c.args.node c.bound_in_rounds.new.node c.bound-given.result c.bound_in_rounds.ensures.later (subst (IsGivenBound core c.args.node.number) (sym c.bound-given.ensures) c.requires.can.given)

pub close_empty-requires-clause-empty : goal.close_empty-requires-clause-empty
close_empty-requires-clause-empty c = subst (IsBounded c.bound_in_rounds.new.self.core c.bound_in_rounds.new.node) c.in-Ok-Empty.field-0-is c.in-Ok-Empty.ensures.bounded

pub branch-ended-requires-clause-up : goal.branch-ended-requires-clause-up
branch-ended-requires-clause-up c = (c.bound_in_rounds.ensures.later.at_work.up, subst (λ n. n < 2 ^ 63) (sym c.bound_in_rounds.ensures.later.ids) c.requires.can.few)

pub branch-ended-requires-clause-given : goal.branch-ended-requires-clause-given
branch-ended-requires-clause-given c =
    let core = c.args.self.now.core in
    let mid = c.bound_in_rounds.new.self.core in
    given_later core mid c.args.node c.bound_in_rounds.new.node c.bound-given.result c.bound_in_rounds.ensures.later (subst (IsGivenBound core c.args.node.number) (sym c.bound-given.ensures) c.requires.can.given)

pub branch-ended-requires-clause-open_ : goal.branch-ended-requires-clause-open_
branch-ended-requires-clause-open_ c = open_after c.args.self.now.core c.bound_in_rounds.new.self.core c.args.node c.bound_in_rounds.new.node c.bound_in_rounds.ensures.later c.bound_in_rounds.ensures.region c.requires.open_

pub branch-ended-requires-clause-found : goal.branch-ended-requires-clause-found
branch-ended-requires-clause-found c = subst (IsBounded c.bound_in_rounds.new.self.core c.bound_in_rounds.new.node) c.in-Ok-Open.field-0-is c.in-Ok-Open.ensures.bounded

pub returns-in-Err-clause-ended : goal.returns-in-Err-clause-ended
returns-in-Err-clause-ended c =
    let core = c.args.self.now.core in
    let mid = c.bound_in_rounds.new.self.core in
    let l = c.bound_in_rounds.ensures.later in
    subst (IsBack core c.go_back.new.self c.args.node.number) c.bound-given.ensures
    (subst (λ n. IsBack core c.go_back.new.self n c.bound-given.result) l.narrower.number
    (back_after core mid c.go_back.new.self c.args.node c.bound_in_rounds.new.node c.bound_in_rounds.new.node.number c.bound-given.result l c.go_back.ensures.back))

pub returns-in-Ok-Empty-clause-ended : goal.returns-in-Ok-Empty-clause-ended
returns-in-Ok-Empty-clause-ended c =
    emptied_after c.args.self.now.core c.bound_in_rounds.new.self.core c.close_empty.new.self c.args.node c.bound_in_rounds.new.node c.bound_in_rounds.ensures.later c.close_empty.ensures.left
    (subst (IsBounded c.bound_in_rounds.new.self.core c.bound_in_rounds.new.node) c.in-Ok-Empty.field-0-is c.in-Ok-Empty.ensures.bounded)

pub returns-in_Err-ended-in-Ok-Open-clause-ended : goal.returns-in_Err-ended-in-Ok-Open-clause-ended
returns-in_Err-ended-in-Ok-Open-clause-ended c =
    let core = c.args.self.now.core in
    let mid = c.bound_in_rounds.new.self.core in
    let new = c.branch-ended.new.self.core in
    let l = c.bound_in_rounds.ensures.later in
    subst (IsBack core new c.args.node.number) c.bound-given.ensures
    (subst (λ n. IsBack core new n c.bound-given.result) l.narrower.number
    (back_after core mid new c.args.node c.bound_in_rounds.new.node c.bound_in_rounds.new.node.number c.bound-given.result l c.in_Err-ended-in-Ok-Open.ensures.ended))

pub returns-in_Ok-ended-in-Ok-Open-clause-ended : goal.returns-in_Ok-ended-in-Ok-Open-clause-ended
returns-in_Ok-ended-in-Ok-Open-clause-ended c =
    ended_after c.args.self.now.core c.bound_in_rounds.new.self.core c.branch-ended.new.self.core c.args.node c.bound_in_rounds.new.node c.in-Ok-Open.found.mark c.in_Ok-ended-in-Ok-Open.end c.bound_in_rounds.ensures.later c.in_Ok-ended-in-Ok-Open.ensures.ended

pub returns-in_Err-ended-in-Ok-Open-clause-rows : goal.returns-in_Err-ended-in-Ok-Open-clause-rows
returns-in_Err-ended-in-Ok-Open-clause-rows c = grind (arith, common_steps)

pub returns-in_Ok-ended-in-Ok-Open-clause-rows : goal.returns-in_Ok-ended-in-Ok-Open-clause-rows
returns-in_Ok-ended-in-Ok-Open-clause-rows c = grind (arith, common_steps)

pub returns-in-Ok-Empty-clause-rows : goal.returns-in-Ok-Empty-clause-rows
returns-in-Ok-Empty-clause-rows c = grind (arith, common_steps)

pub returns-in-Err-clause-rows : goal.returns-in-Err-clause-rows
returns-in-Err-clause-rows c = grind (arith, common_steps)

pub close_empty-requires-clause-up : goal.close_empty-requires-clause-up
close_empty-requires-clause-up c = c.bound_in_rounds.ensures.later.at_work.up

pub go_back-requires-clause-up : goal.go_back-requires-clause-up
go_back-requires-clause-up c = c.bound_in_rounds.ensures.later.at_work.up

pub bound_in_rounds-requires : goal.bound_in_rounds-requires
bound_in_rounds-requires c = record { up = c.requires.can.up; region = c.requires.open_.full.region }
