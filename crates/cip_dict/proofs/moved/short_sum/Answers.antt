use Rattle.std.proofs.lemmas.Grind.{common_steps}
use Rattle.std.proofs.Common.{◌≡◌, ◌<◌, ◌^◌, ◌∙◌, pos, to_z, of_z, ap₂, arith}
use Rattle.std.specs.Int.{w64, w128}
use Rattle.cip_frac.specs.FractionFault.{quotient_of}
use Rattle.cip_dict.proofs.WholeParts.{quotient_ratio}
use Rattle.cip_rational.specs.Range.{magnitude}
use Rattle.cip_dict.proofs.Added.{short_added, common_some, read_word, short_read, short_word, widened_sum, widened_fits}
use Rattle.cip_frac.proofs.Casts.{kept_natural}
use Rattle.cip_dict.proofs.moved.short_sum.Goals as goal

pub returns-in-Ok : goal.returns-in-Ok
returns-in-Ok c =
    let hn : magnitude c.args.n < 2 ^ 20 = short_word c.args.n c.unsigned_abs.result c.ranges.n c.unsigned_abs.ensures.value c.if-unsigned_abs-ge-SHORT.false in
    let hb : c.args.below < 2 ^ 20 = c.if-below-ge-SHORT.false in
    let a : magnitude c.in-Some.a < 2 ^ 20 = rw c.in-Some.ensures.0 c.in-Some.ensures.2.top in
    let f : magnitude c.in-Some-short_terms.c < 2 ^ 20 = rw c.in-Some-short_terms.ensures.0 c.in-Some-short_terms.ensures.2.top in
    let own = read_word c.in-Some.a (omega (arith, a)) in
    let factor = read_word c.in-Some-short_terms.c (omega (arith, f)) in
    let n = read_word c.args.n (omega (arith, hn)) in
    let some = common_some c.args.value c.args.t c.args.below c.terms_of_sum-over.result.1 c.requires (rw (c.in-Some.ensures.1, c.in-Some-short_terms.ensures.1) at c.terms_of_sum-over.ensures.under) in
    let long : to_z w128 (of_z w128 (to_z w64 (of_z w64 c.terms_of_sum-over.result.0))) ≡ c.terms_of_sum-over.result.0 = widened_sum c.terms_of_sum-over.result.0 c.terms_of_sum-over.ensures.short in
    let whole : to_z w128 c.terms_of_sum-over.result.1 ≡ pos c.terms_of_sum-over.result.1 = kept_natural c.terms_of_sum-over.result.1 (omega arith) in
    let over = rw (own, n, factor, c.in-Some.ensures.0, c.in-Some.ensures.1, c.in-Some-short_terms.ensures.0, c.in-Some-short_terms.ensures.1) at c.terms_of_sum-over.ensures.over in
    let under = rw (c.in-Some.ensures.1, c.in-Some-short_terms.ensures.1) at c.terms_of_sum-over.ensures.under in
    short_added c.args.value c.args.t c.args.n c.args.below c.in-Ok.sum c.terms_of_sum-over.result.0 c.terms_of_sum-over.result.1 c.requires hn hb c.in-Some.ensures.2 c.in-Some-short_terms.ensures.2 over under (c.in-Ok.ensures.1 ∙ ap₂ quotient_of long whole ∙ quotient_ratio c.terms_of_sum-over.result.0 c.terms_of_sum-over.result.1 some)

pub terms_of_sum-over-requires-clause-entry : goal.terms_of_sum-over-requires-clause-entry
terms_of_sum-over-requires-clause-entry c = omega arith

pub terms_of_sum-over-requires-clause-entry_below : goal.terms_of_sum-over-requires-clause-entry_below
terms_of_sum-over-requires-clause-entry_below c = omega arith

pub terms_of_sum-over-requires-clause-own : goal.terms_of_sum-over-requires-clause-own
terms_of_sum-over-requires-clause-own c = short_read c.in-Some.a (rw c.in-Some.ensures.0 c.in-Some.ensures.2.top)

pub terms_of_sum-over-requires-clause-own_below : goal.terms_of_sum-over-requires-clause-own_below
terms_of_sum-over-requires-clause-own_below c = grind (arith, common_steps)

pub overflow_cast-over : goal.overflow_cast-over
overflow_cast-over c = widened_fits c.terms_of_sum-over.result.0 c.terms_of_sum-over.ensures.short

pub terms_of_sum-over-requires-clause-factor : goal.terms_of_sum-over-requires-clause-factor
terms_of_sum-over-requires-clause-factor c = short_read c.in-Some-short_terms.c (rw c.in-Some-short_terms.ensures.0 c.in-Some-short_terms.ensures.2.top)

pub terms_of_sum-over-requires-clause-factor_below : goal.terms_of_sum-over-requires-clause-factor_below
terms_of_sum-over-requires-clause-factor_below c = grind (arith, common_steps)

pub overflow_cast-under : goal.overflow_cast-under
overflow_cast-under c = grind (arith, common_steps)

pub returns-in-Err : goal.returns-in-Err
returns-in-Err c = grind (arith, common_steps)

pub returns-in_default-short_terms : goal.returns-in_default-short_terms
returns-in_default-short_terms c = grind (arith, common_steps)

pub returns-in_default : goal.returns-in_default
returns-in_default c = grind (arith, common_steps)

pub returns-then-unsigned_abs-ge-SHORT : goal.returns-then-unsigned_abs-ge-SHORT
returns-then-unsigned_abs-ge-SHORT c = grind (arith, common_steps)
