use Rattle.cip_dict.specs.Written.{IsFlipPlanned}
use Rattle.cip_bland.specs.Dictionary.{Dictionary}
use Rattle.std.proofs.Common.{◌∙◌, sym, ap, arith, ◌≡◌, None, Some, ap₂, subst}
use Rattle.cip_bland.specs.Exchange.{CanFlip, flipped}
use Rattle.cip_bland.specs.Operations.{first_overflow}
use Rattle.cip_bland.specs.MoveOperations.{flip_operations}
use Rattle.cip_dict.specs.State.{state, HasRoom}
use Rattle.cip_dict.proofs.Flipped.{flip_taken}
use Rattle.cip_dict.proofs.dict.Dict.flip.Goals as goal

pub invariant_of-self : goal.invariant_of-self
invariant_of-self c =
    let can : CanFlip (state c.self.inside.sides.items c.self.inside.standing.items c.self.inside.lists) c.args.j = rw c.self.view_is c.requires in
    let room : HasRoom c.self.inside.standing.items c.plan_flip.new.room = rw c.as_slice-standing.ensures.value at c.plan_flip.ensures.long in
    let same : state c.as_slice-sides.result.now c.as_slice-standing.result.now c.self.inside.lists ≡ state c.self.inside.sides.items c.self.inside.standing.items c.self.inside.lists = ap₂ (λ s t. state s t c.self.inside.lists) c.as_slice-sides.ensures.value c.as_slice-standing.ensures.value in
    let written = subst (λ (d : Dictionary). (first_overflow (flip_operations d c.args.j) ≡ None) × IsFlipPlanned d c.args.j c.self.inside.room c.plan_flip.new.room c.in-Ok.cost) same c.in-Ok.ensures.written in
    (flip_taken c.self.inside.sides.items c.self.inside.standing.items c.self.inside.lists c.self.inside.room c.plan_flip.new.room c.args.j c.in-Ok.cost c.take_flip.new.standing.items c.take_flip.new.lists c.take_flip.new.room c.self.invariant room can written.1 c.take_flip.ensures).1

pub returns-in-Ok : goal.returns-in-Ok
returns-in-Ok c =
    let can : CanFlip (state c.self.inside.sides.items c.self.inside.standing.items c.self.inside.lists) c.args.j = rw c.self.view_is c.requires in
    let room : HasRoom c.self.inside.standing.items c.plan_flip.new.room = rw c.as_slice-standing.ensures.value at c.plan_flip.ensures.long in
    let same : state c.as_slice-sides.result.now c.as_slice-standing.result.now c.self.inside.lists ≡ state c.self.inside.sides.items c.self.inside.standing.items c.self.inside.lists = ap₂ (λ s t. state s t c.self.inside.lists) c.as_slice-sides.ensures.value c.as_slice-standing.ensures.value in
    let written = subst (λ (d : Dictionary). (first_overflow (flip_operations d c.args.j) ≡ None) × IsFlipPlanned d c.args.j c.self.inside.room c.plan_flip.new.room c.in-Ok.cost) same c.in-Ok.ensures.written in
    let after = (flip_taken c.self.inside.sides.items c.self.inside.standing.items c.self.inside.lists c.self.inside.room c.plan_flip.new.room c.args.j c.in-Ok.cost c.take_flip.new.standing.items c.take_flip.new.lists c.take_flip.new.room c.self.invariant room can written.1 c.take_flip.ensures).0 in (
      ap (λ d. first_overflow (flip_operations d c.args.j)) (sym c.self.view_is) ∙ written.0,
      after ∙ ap (λ d. flipped d c.args.j) c.self.view_is,
    )

pub plan_flip-requires-clause-few : goal.plan_flip-requires-clause-few
plan_flip-requires-clause-few c = rw c.as_slice-standing.ensures.value c.self.invariant.few

pub plan_flip-requires-clause-sides_long : goal.plan_flip-requires-clause-sides_long
plan_flip-requires-clause-sides_long c = rw (c.as_slice-sides.ensures.value, c.as_slice-standing.ensures.value) c.self.invariant.sides_long

pub plan_flip-requires-clause-lists_long : goal.plan_flip-requires-clause-lists_long
plan_flip-requires-clause-lists_long c = rw c.as_slice-standing.ensures.value c.self.invariant.lists_long

pub plan_flip-requires-clause-room_long : goal.plan_flip-requires-clause-room_long
plan_flip-requires-clause-room_long c = rw c.as_slice-standing.ensures.value c.self.invariant.room_long

pub plan_flip-requires-clause-can : goal.plan_flip-requires-clause-can
plan_flip-requires-clause-can c =
    let can : CanFlip (state c.self.inside.sides.items c.self.inside.standing.items c.self.inside.lists) c.args.j = rw c.self.view_is c.requires in
    rw (c.as_slice-sides.ensures.value, c.as_slice-standing.ensures.value) can

pub take_flip-requires-clause-flips : goal.take_flip-requires-clause-flips
take_flip-requires-clause-flips c =
    let can : CanFlip (state c.self.inside.sides.items c.self.inside.standing.items c.self.inside.lists) c.args.j = rw c.self.view_is c.requires in
    omega (arith, can.within, c.self.invariant.sides_long)

pub take_flip-requires-clause-lists_long : goal.take_flip-requires-clause-lists_long
take_flip-requires-clause-lists_long c = c.self.invariant.lists_long

pub take_flip-requires-clause-room_long : goal.take_flip-requires-clause-room_long
take_flip-requires-clause-room_long c = rw c.as_slice-standing.ensures.value at c.plan_flip.ensures.long

pub invariant_of-self-in-Err : goal.invariant_of-self-in-Err
invariant_of-self-in-Err c = record {
  few = c.self.invariant.few;
  sides_long = c.self.invariant.sides_long;
  lists_long = c.self.invariant.lists_long;
  room_long = rw c.as_slice-standing.ensures.value at c.plan_flip.ensures.long;
  consistent = c.self.invariant.consistent;
}

pub returns-in-Err : goal.returns-in-Err
returns-in-Err c =
    let same : state c.as_slice-sides.result.now c.as_slice-standing.result.now c.self.inside.lists ≡ state c.self.inside.sides.items c.self.inside.standing.items c.self.inside.lists = ap₂ (λ s t. state s t c.self.inside.lists) c.as_slice-sides.ensures.value c.as_slice-standing.ensures.value in
    (subst (λ (d : Dictionary). first_overflow (flip_operations d c.args.j) ≡ Some c.in-Err.fault.place) (same ∙ c.self.view_is) c.in-Err.ensures.written, c.self.view_is)
