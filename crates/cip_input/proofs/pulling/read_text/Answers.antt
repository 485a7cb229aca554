use Rattle.std.proofs.lemmas.Grind.{common_steps}
use Rattle.std.proofs.Common.{inl, inr, refl, arith}
use Rattle.cip_io.specs.Store.{StoreTells}
use Rattle.cip_input.proofs.TextsTold.{all_read_as, pull_cause_as, spent_cause}
use Rattle.cip_input.proofs.pulling.read_text.Goals as goal

pub returns-in_default-clause-read : goal.returns-in_default-clause-read
returns-in_default-clause-read g c = λ subject fresh. inl refl

pub returns-in-Err-clause-read : goal.returns-in-Err-clause-read
returns-in-Err-clause-read g c = λ subject fresh. inl c.in-Err.ensures.faults.1

pub returns-in-Err-read_pieces-clause-read : goal.returns-in-Err-read_pieces-clause-read
returns-in-Err-read_pieces-clause-read g c = λ subject fresh.
    let old = g.S.Store.tells c.args.store.now in
    let chosen : StoreTells = record old { left = old.holds c.args.name.now } in
    inl (pull_cause_as (g.S.Store.tells c.choose.new.self) chosen (g.S.Store.tells c.read_pieces.new.store)
    c.in-Ok-choose.ensures.faults.0 _ c.in-Err-read_pieces.ensures.cause)

pub returns-in-Ok-finish-clause-read : goal.returns-in-Ok-finish-clause-read
returns-in-Ok-finish-clause-read g c = λ subject fresh.
    let old = g.S.Store.tells c.args.store.now in
    let chosen : StoreTells = record old { left = old.holds c.args.name.now } in
    let all = c.in-Ok-read_pieces.ensures.read subject (fresh c.new-reader.result c.new-reader.ensures) in
    all_read_as _ _ (g.S.Store.tells c.choose.new.self) chosen _ c.in-Ok-choose.ensures.left
    c.in-Ok-choose.ensures.faults.0 all
    (elim all.has_read [
      | inl read ↦ c.in-Ok-finish.ensures.reads subject all.bytes read
      | inr spent ↦ absurd (let e = c.in-Ok-finish.ensures.spent spent in cc e)
    ])

pub returns-clause-read : goal.returns-clause-read
returns-clause-read g c = λ subject fresh.
    let old = g.S.Store.tells c.args.store.now in
    let chosen : StoreTells = record old { left = old.holds c.args.name.now } in
    let all = c.in-Ok-read_pieces.ensures.read subject (fresh c.new-reader.result c.new-reader.ensures) in
    elim all.has_read [
      | inl read ↦ inr (
        c.in-Err-finish.fault,
        c.from.ensures,
        all_read_as _ _ (g.S.Store.tells c.choose.new.self) chosen _
            c.in-Ok-choose.ensures.left c.in-Ok-choose.ensures.faults.0 all
            (c.in-Err-finish.ensures.reads subject all.bytes read),
      )
      | inr spent ↦ inl (pull_cause_as (g.S.Store.tells c.choose.new.self) chosen
          (g.S.Store.tells c.read_pieces.new.store) c.in-Ok-choose.ensures.faults.0 _
          (spent_cause _ (g.S.Store.tells c.choose.new.self) (g.S.Store.tells c.read_pieces.new.store) _ _
          (c.in-Err-finish.ensures.spent spent) c.from.ensures all.sound))
    ]

pub returns-clause-holds : goal.returns-clause-holds
returns-clause-holds g c = grind (arith, common_steps)

pub returns-in-Ok-finish-clause-holds : goal.returns-in-Ok-finish-clause-holds
returns-in-Ok-finish-clause-holds g c = grind (arith, common_steps)

pub returns-in-Err-read_pieces-clause-holds : goal.returns-in-Err-read_pieces-clause-holds
returns-in-Err-read_pieces-clause-holds g c = grind (arith, common_steps)

pub returns-in-Err-clause-holds : goal.returns-in-Err-clause-holds
returns-in-Err-clause-holds g c = grind (arith, common_steps)

pub returns-in_default-clause-holds : goal.returns-in_default-clause-holds
returns-in_default-clause-holds g c = grind (arith, common_steps)

pub read_pieces-requires : goal.read_pieces-requires
read_pieces-requires g c = grind (arith, common_steps)
