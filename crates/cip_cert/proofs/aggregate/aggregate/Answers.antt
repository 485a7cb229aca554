use Rattle.std.proofs.lemmas.Grind.{common_steps}
use Rattle.std.proofs.Common.{◌≡◌, ◌+◌, length, ap, ◌∙◌, arith}
use Rattle.std.proofs.lemmas.List.{length-replicate}
use Rattle.cip_cert.specs.Lent.{lent_of, multiples_of}
use Rattle.cip_cert.proofs.Aggregated.{too_long, few_entries, rows_fail, lows_fail, highs_added}
use Rattle.cip_cert.proofs.aggregate.aggregate.Goals as goal

pub returns-then-is_too_long-clause-steps : goal.returns-then-is_too_long-clause-steps
returns-then-is_too_long-clause-steps c =
    too_long (lent_of c.args.rows.now) c.args.bounds.now (length c.args.row.now.entries)
    (multiples_of c.args.combo.now) c.is_too_long.result c.is_too_long.ensures c.if-is_too_long.true

pub overflow_add-below : goal.overflow_add-below
overflow_add-below c =
    let few = few_entries (lent_of c.args.rows.now) c.args.bounds.now (length c.args.row.now.entries)
    (multiples_of c.args.combo.now) c.is_too_long.result c.is_too_long.ensures c.if-is_too_long.false in
    omega (arith, few, c.len.ensures, c.len-2.ensures, c.args.combo.now.rows.ok.0, c.args.combo.now.lows.ok.0)

pub add_rows-requires-clause-fits : goal.add_rows-requires-clause-fits
add_rows-requires-clause-fits c = c.requires.fits

pub add_rows-requires-clause-room : goal.add_rows-requires-clause-room
add_rows-requires-clause-room c =
    let cleared : length c.clear.new.self.entries ≡ length c.args.row.now.entries = ap length c.clear.ensures.entries
    ∙ length-replicate _ _ in
    omega (arith, cleared, c.requires.room)

pub add_lows-requires-clause-room : goal.add_lows-requires-clause-room
add_lows-requires-clause-room c =
    let cleared : length c.clear.new.self.entries ≡ length c.args.row.now.entries = ap length c.clear.ensures.entries
    ∙ length-replicate _ _ in
    omega (arith, cleared, c.in-Ok.ensures.columns, c.requires.room)

pub add_lows-requires-clause-few : goal.add_lows-requires-clause-few
add_lows-requires-clause-few c =
    let few = few_entries (lent_of c.args.rows.now) c.args.bounds.now (length c.args.row.now.entries)
    (multiples_of c.args.combo.now) c.is_too_long.result c.is_too_long.ensures c.if-is_too_long.false in
    omega (arith, few, c.len-above.ensures, c.args.combo.now.rows.ok.0, ap length c.as_slice-2.ensures.value)

pub add_highs-requires-clause-room : goal.add_highs-requires-clause-room
add_highs-requires-clause-room c =
    let cleared : length c.clear.new.self.entries ≡ length c.args.row.now.entries = ap length c.clear.ensures.entries
    ∙ length-replicate _ _ in
    omega (arith, cleared, c.in-Ok.ensures.columns, c.in-Ok-add_lows.ensures.columns, c.requires.room)

pub add_highs-requires-clause-few : goal.add_highs-requires-clause-few
add_highs-requires-clause-few c =
    let few = few_entries (lent_of c.args.rows.now) c.args.bounds.now (length c.args.row.now.entries)
    (multiples_of c.args.combo.now) c.is_too_long.result c.is_too_long.ensures c.if-is_too_long.false in
    omega (
      arith,
      few,
      c.len.ensures,
      c.len-2.ensures,
      c.args.combo.now.rows.ok.0,
      c.args.combo.now.lows.ok.0,
      ap length
          c.as_slice-3.ensures.value,
    )

pub returns-in-Err-clause-steps : goal.returns-in-Err-clause-steps
returns-in-Err-clause-steps c =
    rows_fail (lent_of c.args.rows.now) c.args.bounds.now (length c.args.row.now.entries)
    (multiples_of c.args.combo.now) c.is_too_long.result c.is_too_long.ensures c.if-is_too_long.false
    c.clear.new.self.entries c.zero.result c.clear.ensures.entries c.zero.ensures c.as_slice.result.now
    c.as_slice.ensures.value c.in-Err.fault c.in-Err.ensures.steps

pub returns-in-Err-clause-columns : goal.returns-in-Err-clause-columns
returns-in-Err-clause-columns c = c.in-Err.ensures.columns ∙ ap length c.clear.ensures.entries ∙ length-replicate _ _

pub returns-in-Err-add_lows-clause-steps : goal.returns-in-Err-add_lows-clause-steps
returns-in-Err-add_lows-clause-steps c =
    lows_fail (lent_of c.args.rows.now) c.args.bounds.now (length c.args.row.now.entries)
    (multiples_of c.args.combo.now) c.is_too_long.result c.is_too_long.ensures c.if-is_too_long.false
    c.clear.new.self.entries c.zero.result c.clear.ensures.entries c.zero.ensures c.as_slice.result.now
    c.as_slice.ensures.value _ c.in-Ok.ensures.steps
    c.len-above.result (omega (arith, c.len-above.ensures, c.args.combo.now.rows.ok.0)) c.as_slice-2.result.now
    c.as_slice-2.ensures.value c.in-Err-add_lows.fault c.in-Err-add_lows.ensures.steps

pub returns-in-Err-add_lows-clause-columns : goal.returns-in-Err-add_lows-clause-columns
returns-in-Err-add_lows-clause-columns c = c.in-Err-add_lows.ensures.columns ∙ c.in-Ok.ensures.columns
    ∙ ap length c.clear.ensures.entries ∙ length-replicate _ _

pub returns-clause-steps : goal.returns-clause-steps
returns-clause-steps c =
    highs_added (lent_of c.args.rows.now) c.args.bounds.now (length c.args.row.now.entries)
    (multiples_of c.args.combo.now) c.is_too_long.result c.is_too_long.ensures c.if-is_too_long.false
    c.clear.new.self.entries c.zero.result c.clear.ensures.entries c.zero.ensures c.as_slice.result.now
    c.as_slice.ensures.value _ c.in-Ok.ensures.steps
    c.len-above.result (omega (arith, c.len-above.ensures, c.args.combo.now.rows.ok.0)) c.as_slice-2.result.now
    c.as_slice-2.ensures.value _ c.in-Ok-add_lows.ensures.steps
    (c.len.result + c.len-2.result) (omega (
      arith,
      c.len.ensures,
      c.len-2.ensures,
      c.args.combo.now.rows.ok.0,
      c.args.combo.now.lows.ok.0,
    )) c.as_slice-3.result.now c.as_slice-3.ensures.value c.add_highs.new.row.entries
    c.add_highs.result c.add_highs.ensures.steps

pub returns-clause-columns : goal.returns-clause-columns
returns-clause-columns c = c.add_highs.ensures.columns ∙ c.in-Ok-add_lows.ensures.columns ∙ c.in-Ok.ensures.columns
    ∙ ap length c.clear.ensures.entries ∙ length-replicate _ _

pub returns-then-is_too_long-clause-columns : goal.returns-then-is_too_long-clause-columns
returns-then-is_too_long-clause-columns c = grind (arith, common_steps)
