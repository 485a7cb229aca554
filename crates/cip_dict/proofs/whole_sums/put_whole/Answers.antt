use Rattle.std.proofs.lemmas.Result.{IfOk-from_err}
use Rattle.std.proofs.lemmas.Grind.{common_steps}
use Rattle.std.proofs.Common.{◌≡◌, to_z, of_z, sym, ◌∙◌, ◌-◌, ◌^◌, length, arith, mul-pos}
use Rattle.std.specs.Int.{w64}
use Rattle.std.proofs.lemmas.Nat.{mul-le}
use Rattle.cip_dict.proofs.Settled.{found_map}
use Rattle.cip_dict.proofs.WholeParts.{read_small}
use Rattle.cip_dict.proofs.whole_sums.put_whole.Goals as goal

pub number_of-requires-clause-kept : goal.number_of-requires-clause-kept
number_of-requires-clause-kept c = (length c.args.pivot.now.standing.now, c.requires.row_kept)

pub number_of-requires-clause-small : goal.number_of-requires-clause-small
number_of-requires-clause-small c = c.requires.row_whole.numbers

pub split-factors-requires-clause-own_small : goal.split-factors-requires-clause-own_small
split-factors-requires-clause-own_small c = rw (read_small c.number_of.result c.number_of.ensures.small) c.number_of.ensures.small

pub split-factors-requires-clause-positive : goal.split-factors-requires-clause-positive
split-factors-requires-clause-positive c = c.requires.new_whole.positive

pub split-factors-requires-clause-below_small : goal.split-factors-requires-clause-below_small
split-factors-requires-clause-below_small c = c.requires.new_whole.small

pub overflow_mul-under : goal.overflow_mul-under
overflow_mul-under c =
    let l = mul-le c.from.result c.from-2.result (2 ^ 42 - 1) (2 ^ 42 - 1) (omega (arith, c.from.ensures, c.requires.row_whole.small)) (omega (arith, c.from-2.ensures, c.split-factors.ensures.below_small)) in
    omega (arith, l)

pub put_near-requires-clause-few : goal.put_near-requires-clause-few
put_near-requires-clause-few c = c.requires.few

pub put_near-requires-clause-factor_small : goal.put_near-requires-clause-factor_small
put_near-requires-clause-factor_small c = c.split-factors.ensures.below_small

pub put_near-requires-clause-own_small : goal.put_near-requires-clause-own_small
put_near-requires-clause-own_small c = c.split-factors.ensures.own_small

pub put_near-requires-clause-row_kept : goal.put_near-requires-clause-row_kept
put_near-requires-clause-row_kept c = c.requires.row_kept

pub put_near-requires-clause-row_small : goal.put_near-requires-clause-row_small
put_near-requires-clause-row_small c = c.requires.row_whole.numbers

pub put_near-requires-clause-new_kept : goal.put_near-requires-clause-new_kept
put_near-requires-clause-new_kept c = c.requires.new_kept

pub put_near-requires-clause-new_small : goal.put_near-requires-clause-new_small
put_near-requires-clause-new_small c = c.requires.new_whole.numbers

pub put_near-requires-clause-positive : goal.put_near-requires-clause-positive
put_near-requires-clause-positive c = rw (c.from.ensures, c.from-2.ensures) (mul-pos c.requires.row_whole.positive c.split-factors.ensures.positive)

pub sum_entries-requires-clause-few : goal.sum_entries-requires-clause-few
sum_entries-requires-clause-few c = c.requires.few

pub sum_entries-requires-clause-factor_small : goal.sum_entries-requires-clause-factor_small
sum_entries-requires-clause-factor_small c = c.split-factors.ensures.below_small

pub sum_entries-requires-clause-own_small : goal.sum_entries-requires-clause-own_small
sum_entries-requires-clause-own_small c = c.split-factors.ensures.own_small

pub sum_entries-requires-clause-row_kept : goal.sum_entries-requires-clause-row_kept
sum_entries-requires-clause-row_kept c = c.requires.row_kept

pub sum_entries-requires-clause-row_small : goal.sum_entries-requires-clause-row_small
sum_entries-requires-clause-row_small c = c.requires.row_whole.numbers

pub sum_entries-requires-clause-new_kept : goal.sum_entries-requires-clause-new_kept
sum_entries-requires-clause-new_kept c = c.requires.new_kept

pub sum_entries-requires-clause-new_small : goal.sum_entries-requires-clause-new_small
sum_entries-requires-clause-new_small c = c.requires.new_whole.numbers

pub reduce-requires-clause-positive : goal.reduce-requires-clause-positive
reduce-requires-clause-positive c = rw (c.from.ensures, c.from-2.ensures) (mul-pos c.requires.row_whole.positive c.split-factors.ensures.positive)

pub reduce-requires-clause-wide : goal.reduce-requires-clause-wide
reduce-requires-clause-wide c = rw c.as_slice.ensures.value c.sum_entries.ensures.wide

pub returns-in-Written : goal.returns-in-Written
returns-in-Written c =
    let parts = c.split-factors.ensures.parts in
    let told = c.in_ok-below.ensures c.in-Written.below c.in-Written.is in
    let own : to_z w64 (of_z w64 c.number_of.result) ≡ c.number_of.result = read_small c.number_of.result c.number_of.ensures.small in (
      record { positive = told.0; small = told.1; numbers = told.2 },
      (
        c.split-factors.result.own,
        parts.0,
        c.split-factors.result.new,
        c.split-factors.ensures.positive,
        parts.1,
        parts.3,
        sym (own ∙ c.number_of.ensures.value) ∙ parts.2,
        rw (c.from.ensures, c.from-2.ensures) at told.3,
      ),
    )

pub returns : goal.returns
returns c =
    let parts = c.split-factors.ensures.parts in
    let own : to_z w64 (of_z w64 c.number_of.result) ≡ c.number_of.result = read_small c.number_of.result c.number_of.ensures.small in
    found_map c.reduce.result _ _ c.reduce.ensures (λ below told. (
      record { positive = told.0; small = told.1; numbers = told.2 },
      (
        c.split-factors.result.own,
        parts.0,
        c.split-factors.result.new,
        c.split-factors.ensures.positive,
        parts.1,
        parts.3,
        sym (own ∙ c.number_of.ensures.value) ∙ parts.2,
        rw (c.from.ensures, c.from-2.ensures, c.as_slice.ensures.value, c.in_ok-sum_entries.ensures.kept) at told.3,
      ),
    ))

pub overflow_cast-under : goal.overflow_cast-under
overflow_cast-under c = grind (arith, common_steps)

pub returns-in-Large : goal.returns-in-Large
returns-in-Large c = grind (arith, common_steps)

pub returns-in_err-sum_entries : goal.returns-in_err-sum_entries
returns-in_err-sum_entries c = IfOk-from_err c.from_residual-in_err-sum_entries.result _ c.from_residual-in_err-sum_entries.ensures.0
