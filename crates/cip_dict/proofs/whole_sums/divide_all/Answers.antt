use Rattle.std.proofs.lemmas.Result.{IfOk-from_err}
use Rattle.std.proofs.lemmas.Grind.{common_steps}
use Rattle.std.proofs.Common.{◌≡◌, pos, to_z, of_z, length, get_or, take, ap, subst, sym, arith, ◌∙◌, ◌*◌, ◌^◌}
use Rattle.std.specs.Int.{w64, w128}
use Rattle.std.proofs.Math.Seq.{take-length}
use Rattle.cip_dict.specs.WholeLines.{AreBelow, over}
use Rattle.cip_dict.proofs.WholeParts.{read_small, append_below, item_below}
use Rattle.cip_dict.proofs.WholeLoops.{divided_more}
use Rattle.cip_dict.proofs.ReadNumbers.{wide_kept}
use Rattle.cip_dict.proofs.whole_sums.divide_all.Goals as goal

pub loop-at-init : goal.loop-at-init
loop-at-init c = record {
  divided = λ d h. ap (over d) c.clear.ensures.items;
  small = subst (AreBelow (2 ^ 42)) (sym c.clear.ensures.items) tt;
}

pub loop-at-preserved : goal.loop-at-preserved
loop-at-preserved c =
    let z : to_z w128 (of_z w128 (get_or c.args.sums.now c.loop-at.at (0, pos 0)).1) ≡ (get_or c.args.sums.now c.loop-at.at (0, pos 0)).1 =
    wide_kept (get_or c.args.sums.now c.loop-at.at (0, pos 0)).1 (item_below (2 ^ 86) c.args.sums.now c.loop-at.at (0, pos 0) c.requires.wide c.loop-at-test.true) in
    let w : to_z w64 (of_z w64 c.in-Some.number) ≡ c.in-Some.number = read_small c.in-Some.number c.in-Some.ensures.1 in
    let is = rw w at c.in_ok-push-in-Some.ensures.items in
    record {
      divided = divided_more c.args.sums.now c.loop-at.at c.args.g c.loop-at.out.items c.push.new.self.items c.in-Some.number c.requires.positive c.loop-at-test.true c.loop-at.invariant.divided is (sym z ∙ c.in-Some.ensures.0);
      small = subst (AreBelow (2 ^ 42)) (sym is) (append_below (2 ^ 42) c.loop-at.out.items _ c.in-Some.number c.loop-at.invariant.small c.in-Some.ensures.1);
    }

pub returns : goal.returns
returns c =
    let end : c.loop-at.at ≡ length c.args.sums.now = omega arith in
    record {
      divided = λ _ d h. c.loop-at.invariant.divided d h ∙ ap (λ n. over (d * c.args.g) (take n c.args.sums.now)) end ∙ ap (over (d * c.args.g)) (take-length c.args.sums.now);
      small = c.loop-at.invariant.small;
    }

pub returns-in-None-clause-divided : goal.returns-in-None-clause-divided
returns-in-None-clause-divided c = grind (arith, common_steps)

pub returns-in_err-push-in-Some-clause-small : goal.returns-in_err-push-in-Some-clause-small
returns-in_err-push-in-Some-clause-small c = grind (arith, common_steps)

pub returns-in-None-clause-small : goal.returns-in-None-clause-small
returns-in-None-clause-small c = grind (arith, common_steps)

pub offset_bounds-sums-at-in-Some : goal.offset_bounds-sums-at-in-Some
offset_bounds-sums-at-in-Some c = grind (arith, common_steps)

pub small_part-requires : goal.small_part-requires
small_part-requires c = grind (arith, common_steps)

pub bounds-sums-at : goal.bounds-sums-at
bounds-sums-at c = grind (arith, common_steps)

pub offset_bounds-sums-at : goal.offset_bounds-sums-at
offset_bounds-sums-at c = grind (arith, common_steps)

pub returns-in_err-push-in-Some-clause-divided : goal.returns-in_err-push-in-Some-clause-divided
returns-in_err-push-in-Some-clause-divided c = IfOk-from_err c.from_residual.result _ c.from_residual.ensures.0
