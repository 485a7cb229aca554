use Rattle.std.proofs.lemmas.Grind.{common_steps}
use Rattle.std.proofs.Common.{◌≡◌, pos, suc, ◌+◌, to_z, of_z, ◌*ℤ◌, ◌^◌, ◌<◌, length, get_or, refl, ap, sym, arith, ◌∙◌}
use Rattle.std.specs.Int.{w64, w128}
use Rattle.cip_rational.specs.Range.{magnitude}
use Rattle.cip_dict.specs.WholeLines.{Whole}
use Rattle.cip_dict.proofs.WholeParts.{read_small, item_below}
use Rattle.cip_dict.proofs.NearSums.{divided_next, divided_over, divided_small, divided_step}
use Rattle.cip_dict.proofs.WideProducts.{read_wide}
use Rattle.cip_dict.proofs.near_sums.divide_near.Goals as goal
use Rattle.cip_dict.proofs.Added.{read_word}

pub loop-at-init : goal.loop-at-init
loop-at-init c = refl

pub loop-at-preserved : goal.loop-at-preserved
loop-at-preserved c =
    let l : c.loop-at.at < length c.args.numbers.now = c.loop-at-test.true in
    let same : (get_or c.loop-at.numbers c.loop-at.at (0, pos 0)).1 ≡ (get_or c.args.numbers.now c.loop-at.at (0, pos 0)).1 = ap (λ (e : Whole). e.1) (divided_next c.args.g c.loop-at.at c.loop-at.numbers c.args.numbers.now (0, pos 0) c.loop-at.invariant) in
    let near : magnitude (get_or c.args.numbers.now c.loop-at.at (0, pos 0)).1 < 2 ^ 63 = item_below (2 ^ 63) c.args.numbers.now c.loop-at.at (0, pos 0) c.requires.near l in
    let read : c.from.result ≡ (get_or c.args.numbers.now c.loop-at.at (0, pos 0)).1 = c.from.ensures ∙ ap (λ z. to_z w64 (of_z w64 z)) same ∙ read_word (get_or c.args.numbers.now c.loop-at.at (0, pos 0)).1 near in
    let wide : to_z w128 (of_z w128 c.from.result) ≡ (get_or c.args.numbers.now c.loop-at.at (0, pos 0)).1 = ap (λ z. to_z w128 (of_z w128 z)) read ∙ read_wide (get_or c.args.numbers.now c.loop-at.at (0, pos 0)).1 (omega (arith, near)) in
    let parts : (get_or c.args.numbers.now c.loop-at.at (0, pos 0)).1 ≡ c.in-Some.number *ℤ pos c.args.g = sym wide ∙ c.in-Some.ensures.0 ∙ ap (λ g. c.in-Some.number *ℤ pos g) c.from-in-loop-at.ensures in
    let kept : to_z w64 (of_z w64 c.in-Some.number) ≡ c.in-Some.number = read_small c.in-Some.number c.in-Some.ensures.1 in
    let next : suc c.loop-at.at ≡ c.loop-at.at + 1 = omega arith in
    rw (kept, sym next) (divided_step c.args.g c.loop-at.at c.loop-at.numbers c.args.numbers.now c.in-Some.number l c.loop-at.invariant parts c.in-Some.ensures.1)

pub returns-clause-divided : goal.returns-clause-divided
returns-clause-divided c =
    let end : length c.args.numbers.now ≡ c.loop-at.at = omega arith in
    λ _. divided_over c.args.g c.loop-at.at c.loop-at.numbers c.args.numbers.now c.requires.positive end c.loop-at.invariant

pub returns-clause-small : goal.returns-clause-small
returns-clause-small c =
    let end : length c.args.numbers.now ≡ c.loop-at.at = omega arith in
    λ _. divided_small c.args.g c.loop-at.at c.loop-at.numbers c.args.numbers.now end c.loop-at.invariant

pub returns-in-None-clause-small : goal.returns-in-None-clause-small
returns-in-None-clause-small c = grind (arith, common_steps)

pub returns-in-None-clause-divided : goal.returns-in-None-clause-divided
returns-in-None-clause-divided c = grind (arith, common_steps)

pub bounds-numbers-at-in-Some : goal.bounds-numbers-at-in-Some
bounds-numbers-at-in-Some c = grind (arith, common_steps)

pub offset_bounds-numbers-at-in-Some : goal.offset_bounds-numbers-at-in-Some
offset_bounds-numbers-at-in-Some c = grind (arith, common_steps)

pub small_part-requires : goal.small_part-requires
small_part-requires c = grind (arith, common_steps)

pub bounds-numbers-at : goal.bounds-numbers-at
bounds-numbers-at c = grind (arith, common_steps)

pub offset_bounds-numbers-at : goal.offset_bounds-numbers-at
offset_bounds-numbers-at c = grind (arith, common_steps)
