use Rattle.std.proofs.lemmas.Result.{IfOk-from_err}
use Rattle.std.proofs.lemmas.Grind.{common_steps}
use Rattle.std.proofs.Common.{◌≡◌, ◌∙◌, to_z, of_z, sym, subst, ◌^◌, arith}
use Rattle.std.specs.Int.{w64}
use Rattle.std.proofs.lemmas.List.{get_or_default}
use Rattle.cip_rational.specs.Rational.{zeroℚ}
use Rattle.cip_dict.specs.WholeLines.{AreBelow}
use Rattle.cip_dict.proofs.WholeParts.{read_small, append_below}
use Rattle.cip_dict.proofs.Settled.{settled_more}
use Rattle.cip_dict.proofs.settle.settle_entries.Goals as goal

pub loop-at-preserved : goal.loop-at-preserved
loop-at-preserved c =
    let w : to_z w64 (of_z w64 c.in-Some.number) ≡ c.in-Some.number = read_small c.in-Some.number c.in-Some.ensures.1 in
    let is = rw w at c.in_ok-push-in-Some.ensures.items in
    record {
      written = settled_more c.args.entries.now c.loop-at.at c.args.below c.loop-at.out.items c.push.new.self.items c.index-entries-at.result c.in-Some.number c.loop-at-test.true c.loop-at.invariant.written is (c.index-entries-at.is ∙ get_or_default c.args.entries.now c.loop-at.at c.index-entries-at.result (0, zeroℚ) c.loop-at-test.true) c.in-Some.ensures.0;
      small = subst (AreBelow (2 ^ 42)) (sym is) (append_below (2 ^ 42) c.loop-at.out.items _ c.in-Some.number c.loop-at.invariant.small c.in-Some.ensures.1);
    }

pub returns : goal.returns
returns c = grind (arith, common_steps)

pub returns-in-None : goal.returns-in-None
returns-in-None c = grind (arith, common_steps)

pub whole_of-requires-clause-positive : goal.whole_of-requires-clause-positive
whole_of-requires-clause-positive c = grind (arith, common_steps)

pub loop-at-init : goal.loop-at-init
loop-at-init c = grind (arith, common_steps)

pub whole_of-requires-clause-small : goal.whole_of-requires-clause-small
whole_of-requires-clause-small c = grind (arith, common_steps)

pub bounds-entries-at : goal.bounds-entries-at
bounds-entries-at c = grind (arith, common_steps)

pub offset_bounds-entries-at : goal.offset_bounds-entries-at
offset_bounds-entries-at c = grind (arith, common_steps)

pub returns-in_err-push-in-Some : goal.returns-in_err-push-in-Some
returns-in_err-push-in-Some c = IfOk-from_err c.from_residual.result _ c.from_residual.ensures.0
