use Rattle.cip_dict.specs.MoveFaults.{IsMoveFault}
use Rattle.cip_dict.specs.Written.{IsPlanned}
use Rattle.cip_bland.specs.Dictionary.{Dictionary}
use Rattle.std.proofs.Common.{◌∙◌, sym, ap, arith, ◌≡◌, None, ap₂, subst}
use Rattle.cip_bland.specs.Exchange.{CanExchange, exchanged}
use Rattle.cip_bland.specs.Operations.{first_overflow}
use Rattle.cip_bland.specs.MoveOperations.{exchange_operations}
use Rattle.cip_dict.specs.State.{state, HasRoom}
use Rattle.cip_dict.proofs.After.{taken_over}
use Rattle.cip_dict.proofs.dict.Dict.exchange.Goals as goal

pub invariant_of-self : goal.invariant_of-self
invariant_of-self c =
    let can : CanExchange (state c.self.inside.sides.items c.self.inside.standing.items c.self.inside.lists) c.args.i c.args.j c.args.stand = rw c.self.view_is c.requires in
    let room : HasRoom c.self.inside.standing.items c.plan.new.room = rw c.as_slice-standing.ensures.value at c.plan.ensures.long in
    let same : state c.as_slice-sides.result.now c.as_slice-standing.result.now c.self.inside.lists ≡ state c.self.inside.sides.items c.self.inside.standing.items c.self.inside.lists = ap₂ (λ s t. state s t c.self.inside.lists) c.as_slice-sides.ensures.value c.as_slice-standing.ensures.value in
    let written = subst (λ (d : Dictionary). (first_overflow (exchange_operations d c.args.i c.args.j c.args.stand) ≡ None) × IsPlanned d c.args.i c.args.j c.args.stand c.plan.new.room c.in-Ok.cost) same c.in-Ok.ensures.written in
    (taken_over c.self.inside.sides.items c.self.inside.standing.items c.self.inside.lists c.self.inside.room c.plan.new.room c.args.i c.args.j c.args.stand c.in-Ok.cost c.take_over.new.standing.items c.take_over.new.lists c.take_over.new.room c.self.invariant room can written.1 c.take_over.ensures).1

pub returns-in-Ok : goal.returns-in-Ok
returns-in-Ok c =
    let can : CanExchange (state c.self.inside.sides.items c.self.inside.standing.items c.self.inside.lists) c.args.i c.args.j c.args.stand = rw c.self.view_is c.requires in
    let room : HasRoom c.self.inside.standing.items c.plan.new.room = rw c.as_slice-standing.ensures.value at c.plan.ensures.long in
    let same : state c.as_slice-sides.result.now c.as_slice-standing.result.now c.self.inside.lists ≡ state c.self.inside.sides.items c.self.inside.standing.items c.self.inside.lists = ap₂ (λ s t. state s t c.self.inside.lists) c.as_slice-sides.ensures.value c.as_slice-standing.ensures.value in
    let written = subst (λ (d : Dictionary). (first_overflow (exchange_operations d c.args.i c.args.j c.args.stand) ≡ None) × IsPlanned d c.args.i c.args.j c.args.stand c.plan.new.room c.in-Ok.cost) same c.in-Ok.ensures.written in
    let after = (taken_over c.self.inside.sides.items c.self.inside.standing.items c.self.inside.lists c.self.inside.room c.plan.new.room c.args.i c.args.j c.args.stand c.in-Ok.cost c.take_over.new.standing.items c.take_over.new.lists c.take_over.new.room c.self.invariant room can written.1 c.take_over.ensures).0 in (
      ap (λ d. first_overflow (exchange_operations d c.args.i c.args.j c.args.stand)) (sym c.self.view_is) ∙ written.0,
      after ∙ ap (λ d. exchanged d c.args.i c.args.j c.args.stand) c.self.view_is,
    )

pub plan-requires-clause-few : goal.plan-requires-clause-few
plan-requires-clause-few c = rw c.as_slice-standing.ensures.value c.self.invariant.few

pub plan-requires-clause-sides_long : goal.plan-requires-clause-sides_long
plan-requires-clause-sides_long c =
    rw (c.as_slice-sides.ensures.value, c.as_slice-standing.ensures.value) c.self.invariant.sides_long

pub plan-requires-clause-lists_long : goal.plan-requires-clause-lists_long
plan-requires-clause-lists_long c = rw c.as_slice-standing.ensures.value c.self.invariant.lists_long

pub plan-requires-clause-room_long : goal.plan-requires-clause-room_long
plan-requires-clause-room_long c = rw c.as_slice-standing.ensures.value c.self.invariant.room_long

pub plan-requires-clause-can : goal.plan-requires-clause-can
plan-requires-clause-can c =
    let can : CanExchange (state c.self.inside.sides.items c.self.inside.standing.items c.self.inside.lists) c.args.i c.args.j c.args.stand = rw c.self.view_is c.requires in
    rw (c.as_slice-sides.ensures.value, c.as_slice-standing.ensures.value) can

pub take_over-requires-clause-leaving : goal.take_over-requires-clause-leaving
take_over-requires-clause-leaving c =
    let can : CanExchange (state c.self.inside.sides.items c.self.inside.standing.items c.self.inside.lists) c.args.i c.args.j c.args.stand = rw c.self.view_is c.requires in
    omega (arith, can.leaving, c.self.invariant.sides_long)

pub take_over-requires-clause-entering : goal.take_over-requires-clause-entering
take_over-requires-clause-entering c =
    let can : CanExchange (state c.self.inside.sides.items c.self.inside.standing.items c.self.inside.lists) c.args.i c.args.j c.args.stand = rw c.self.view_is c.requires in
    omega (arith, can.entering, c.self.invariant.sides_long)

pub take_over-requires-clause-basic : goal.take_over-requires-clause-basic
take_over-requires-clause-basic c =
    let can : CanExchange (state c.self.inside.sides.items c.self.inside.standing.items c.self.inside.lists) c.args.i c.args.j c.args.stand = rw c.self.view_is c.requires in
    can.basic

pub take_over-requires-clause-nonbasic : goal.take_over-requires-clause-nonbasic
take_over-requires-clause-nonbasic c =
    let can : CanExchange (state c.self.inside.sides.items c.self.inside.standing.items c.self.inside.lists) c.args.i c.args.j c.args.stand = rw c.self.view_is c.requires in
    can.nonbasic

pub take_over-requires-clause-lists_long : goal.take_over-requires-clause-lists_long
take_over-requires-clause-lists_long c = c.self.invariant.lists_long

pub take_over-requires-clause-room_long : goal.take_over-requires-clause-room_long
take_over-requires-clause-room_long c = rw c.as_slice-standing.ensures.value at c.plan.ensures.long

pub take_over-requires-clause-marked : goal.take_over-requires-clause-marked
take_over-requires-clause-marked c =
    let same : state c.as_slice-sides.result.now c.as_slice-standing.result.now c.self.inside.lists ≡ state c.self.inside.sides.items c.self.inside.standing.items c.self.inside.lists = ap₂ (λ s t. state s t c.self.inside.lists) c.as_slice-sides.ensures.value c.as_slice-standing.ensures.value in
    let written = subst (λ (d : Dictionary). (first_overflow (exchange_operations d c.args.i c.args.j c.args.stand) ≡ None) × IsPlanned d c.args.i c.args.j c.args.stand c.plan.new.room c.in-Ok.cost) same c.in-Ok.ensures.written in
    written.1.changed

pub invariant_of-self-in-Err : goal.invariant_of-self-in-Err
invariant_of-self-in-Err c = record {
  few = c.self.invariant.few;
  sides_long = c.self.invariant.sides_long;
  lists_long = c.self.invariant.lists_long;
  room_long = rw c.as_slice-standing.ensures.value at c.plan.ensures.long;
  consistent = c.self.invariant.consistent;
}

pub returns-in-Err : goal.returns-in-Err
returns-in-Err c =
    let same : state c.as_slice-sides.result.now c.as_slice-standing.result.now c.self.inside.lists ≡ state c.self.inside.sides.items c.self.inside.standing.items c.self.inside.lists = ap₂ (λ s t. state s t c.self.inside.lists) c.as_slice-sides.ensures.value c.as_slice-standing.ensures.value in
    (subst (λ (d : Dictionary). IsMoveFault (exchange_operations d c.args.i c.args.j c.args.stand) c.in-Err.fault) (same ∙ c.self.view_is) c.in-Err.ensures.written, c.self.view_is)
