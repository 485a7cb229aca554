use Rattle.std.proofs.Common.{◌≡◌, ◌∙◌, sym, ap, length, arith, replicate}
use Rattle.cip_rational.specs.Rational.{zeroℚ}
use Rattle.cip_bland.specs.Tables.{table}
use Rattle.cip_dict.specs.Row.{row_length}
use Rattle.cip_dict.proofs.Begun.{begun_count, begun_long, filled}
use Rattle.cip_dict.proofs.RowLists.{written_back}
use Rattle.cip_dict.proofs.first.first_rows.Goals as goal

pub put_entries-requires-clause-count : goal.put_entries-requires-clause-count
put_entries-requires-clause-count c =
    let z : c.as_mut_slice.result.now ≡ table (length c.args.standing.now) (λ v. replicate (row_length c.args.standing.now v) zeroℚ) = c.as_mut_slice.ensures.value ∙ c.in_ok-rows.ensures in
    sym (begun_count c.args.columns.now c.args.m c.args.standing.now c.requires.stands c.as_mut_slice.result.now z)

pub put_entries-requires-clause-long : goal.put_entries-requires-clause-long
put_entries-requires-clause-long c =
    let z : c.as_mut_slice.result.now ≡ table (length c.args.standing.now) (λ v. replicate (row_length c.args.standing.now v) zeroℚ) = c.as_mut_slice.ensures.value ∙ c.in_ok-rows.ensures in
    begun_long c.args.columns.now c.args.m c.args.standing.now c.requires.stands c.as_mut_slice.result.now z

pub returns : goal.returns
returns c =
    let z : c.as_mut_slice.result.now ≡ table (length c.args.standing.now) (λ v. replicate (row_length c.args.standing.now v) zeroℚ) = c.as_mut_slice.ensures.value ∙ c.in_ok-rows.ensures in
    written_back c.in_ok-rows.rows.len _ c.put_entries.new.rows c.in_ok-rows.rows.items (omega (arith, c.in_ok-rows.rows.ok.0, c.put_entries.ensures.count, ap length c.as_mut_slice.ensures.value))
    ∙ filled c.args.columns.now c.args.m c.args.standing.now c.requires.stands c.as_mut_slice.result.now z c.args.entries.now c.put_entries.new.rows c.requires.within c.put_entries.ensures.count c.in_ok-put_entries.ensures.put c.in_ok-put_entries.ensures.rest c.in_ok-put_entries.ensures.long

pub put_entries-requires-clause-within : goal.put_entries-requires-clause-within
put_entries-requires-clause-within c = omega arith
