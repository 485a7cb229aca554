use Rattle.std.proofs.Common.{arith}
use Rattle.cip_frac.proofs.Fields.{ceil_field, lowest_ratio}
use Rattle.cip_frac.proofs.Casts.{negated_fits, negated_small}
use Rattle.cip_frac.proofs.fraction.Frac.ceil.Goals as goal

pub returns : goal.returns
returns c =
    ceil_field _ _ c.args.self c.terms-numerator.ensures.lowest (lowest_ratio _ _ c.args.self c.terms-numerator.ensures.over c.terms-numerator.ensures.under) c.floor_part_of.result c.floor_part_of.ensures.value c.floor_part_of.ensures.no_greater

pub floor_part_of-requires-clause-positive : goal.floor_part_of-requires-clause-positive
floor_part_of-requires-clause-positive c = omega arith

pub floor_part_of-requires-clause-bounded : goal.floor_part_of-requires-clause-bounded
floor_part_of-requires-clause-bounded c = omega arith

pub overflow_sub-result : goal.overflow_sub-result
overflow_sub-result c =
    negated_fits c.floor_part_of.result
    (negated_small c.terms-numerator.result.0 c.floor_part_of.result c.terms-numerator.ensures.lowest.over_small
    c.floor_part_of.ensures.no_greater)

pub overflow_sub-numerator : goal.overflow_sub-numerator
overflow_sub-numerator c =
    negated_fits c.terms-numerator.result.0 c.terms-numerator.ensures.lowest.over_small
