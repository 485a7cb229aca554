use Rattle.std.proofs.lemmas.Grind.{common_steps}
use Rattle.std.proofs.Common.{◌≡◌, length, None, Some, Result, Ok, sym, ap, ap₂, ◌∙◌, arith}
use Rattle.cip_problem.specs.Aggregate.{Inequality}
use Rattle.cip_cert.specs.Checks.{chain, first_stop, round_unless, round_if}
use Rattle.cip_cert.specs.declared.faults.CutFault.{CutFault}
use Rattle.cip_cert.proofs.checks.derive_row.Goals as goal

pub aggregate-requires-clause-fits : goal.aggregate-requires-clause-fits
aggregate-requires-clause-fits c = c.requires.fits

pub aggregate-requires-clause-room : goal.aggregate-requires-clause-room
aggregate-requires-clause-room c = c.requires.room

pub returns-in-Err-clause-steps : goal.returns-in-Err-clause-steps
returns-in-Err-clause-steps c = ap (λ r. chain r (round_if c.args.round c.args.rows.now.whole.now))
    c.in-Err.ensures.steps

pub returns-in-Err-clause-columns : goal.returns-in-Err-clause-columns
returns-in-Err-clause-columns c = c.in-Err.ensures.columns

pub returns-then-not-round-clause-steps : goal.returns-then-not-round-clause-steps
returns-then-not-round-clause-steps c =
    ap (λ r. chain r (round_if c.args.round c.args.rows.now.whole.now)) c.in-Ok.ensures.steps
    ∙ ap (λ t. round_if t c.args.rows.now.whole.now (record {
      coefficients = c.aggregate.new.row.entries;
      least =
          c.in-Ok.least;
    })) c.if-not-round.true

pub returns-then-not-round-clause-columns : goal.returns-then-not-round-clause-columns
returns-then-not-round-clause-columns c = c.in-Ok.ensures.columns

pub returns-in-Some-clause-steps : goal.returns-in-Some-clause-steps
returns-in-Some-clause-steps c =
    let stop : first_stop 0 c.args.rows.now.whole.now c.aggregate.new.row.entries ≡ Some c.in-Some.column =
    ap (first_stop 0 c.args.rows.now.whole.now) (sym (c.entries.ensures.entries ∙ c.sort.ensures.entries))
    ∙ sym c.in-Some.ensures in
    ap (λ r. chain r (round_if c.args.round c.args.rows.now.whole.now)) c.in-Ok.ensures.steps
    ∙ ap (λ t. round_if t c.args.rows.now.whole.now (record {
      coefficients = c.aggregate.new.row.entries;
      least =
          c.in-Ok.least;
    })) c.if-not-round.false
    ∙ ap (λ o. round_unless o (record { coefficients = c.aggregate.new.row.entries; least = c.in-Ok.least })) stop

pub returns-in-Some-clause-columns : goal.returns-in-Some-clause-columns
returns-in-Some-clause-columns c = ap length c.sort.ensures.entries ∙ c.in-Ok.ensures.columns

pub returns-in-None-clause-steps : goal.returns-in-None-clause-steps
returns-in-None-clause-steps c =
    let stop : first_stop 0 c.args.rows.now.whole.now c.aggregate.new.row.entries ≡ None =
    ap (first_stop 0 c.args.rows.now.whole.now) (sym (c.entries.ensures.entries ∙ c.sort.ensures.entries))
    ∙ sym c.in-None.ensures in
    ap (λ r. chain r (round_if c.args.round c.args.rows.now.whole.now)) c.in-Ok.ensures.steps
    ∙ ap (λ t. round_if t c.args.rows.now.whole.now (record {
      coefficients = c.aggregate.new.row.entries;
      least =
          c.in-Ok.least;
    })) c.if-not-round.false
    ∙ ap (λ o. round_unless o (record { coefficients = c.aggregate.new.row.entries; least = c.in-Ok.least })) stop
    ∙ ap₂ (λ ds d. (let r : Result Inequality CutFault = Ok (record { coefficients = ds; least = d }) in r))
    (sym c.sort.ensures.entries) (sym c.rounded_up.ensures)

pub returns-in-None-clause-columns : goal.returns-in-None-clause-columns
returns-in-None-clause-columns c = ap length c.sort.ensures.entries ∙ c.in-Ok.ensures.columns

pub first_stop-requires-clause-room : goal.first_stop-requires-clause-room
first_stop-requires-clause-room c = grind (arith, common_steps)

pub first_stop-requires-clause-tells : goal.first_stop-requires-clause-tells
first_stop-requires-clause-tells c = grind (arith, common_steps)
