use Rattle.std.proofs.lemmas.Grind.{common_steps}
use Rattle.std.proofs.Common.{◌+◌, length, refl, sym, ap, subst, ◌∙◌, arith}
use Rattle.std.proofs.lemmas.List.{get_or_default}
use Rattle.cip_rational.specs.Rational.{zeroℚ}
use Rattle.cip_cert.proofs.Cleared.{TellsBelow, below_none, below_zero, below_pushed, below_all}
use Rattle.cip_cert.proofs.sparse.scan.Goals.{then-not-is_zero, else-not-is_zero}
use Rattle.cip_cert.proofs.sparse.scan.Goals as goal

pub loop-at-init : goal.loop-at-init
loop-at-init c = record {
  tells = below_none c.args.entries.now c.args.touched.now.items c.requires.empty;
  short = omega (arith, c.args.touched.now.ok.0, ap length c.requires.empty);
  capacity = refl;
}

pub bounds-entries-at : goal.bounds-entries-at
bounds-entries-at c = c.loop-at-test.true

pub push_reserved-requires : goal.push_reserved-requires
push_reserved-requires c = omega (
  arith,
  c.loop-at.invariant.short,
  c.loop-at.invariant.capacity,
  c.loop-at-test.true,
  c.requires.room,
)

pub loop-at-preserved : goal.loop-at-preserved
loop-at-preserved c = elim c.if-not-is_zero.branch [
  | then-not-is_zero w ↦
      rw (w.touched-is)
      (record {
        tells = subst (TellsBelow (c.loop-at.at + 1) c.args.entries.now) (sym w.push_reserved.ensures.items)
            (below_pushed c.loop-at.at c.args.entries.now c.loop-at.touched.items c.loop-at-test.true
            c.loop-at.invariant.tells);
        short = omega (arith, w.push_reserved.ensures.len, c.loop-at.invariant.short);
        capacity = w.push_reserved.ensures.capacity ∙ c.loop-at.invariant.capacity;
      })
  | else-not-is_zero w ↦
      rw (w.touched-is)
      (record {
        tells =
            below_zero c.loop-at.at c.args.entries.now c.loop-at.touched.items
            (get_or_default c.args.entries.now c.loop-at.at zeroℚ c.index-entries-at.result c.loop-at-test.true
            ∙ sym c.index-entries-at.is ∙ w.if-not-is_zero.ensures.0 refl)
            c.loop-at.invariant.tells;
        short = omega (arith, c.loop-at.invariant.short);
        capacity = c.loop-at.invariant.capacity;
      })
]

pub returns-clause-tells : goal.returns-clause-tells
returns-clause-tells c = below_all c.loop-at.at c.args.entries.now c.loop-at.touched.items (omega
    (arith, c.loop-at-test.false, c.loop-at.auto.at-end)) c.loop-at.invariant.tells

pub returns-clause-short : goal.returns-clause-short
returns-clause-short c = omega (arith, c.loop-at.invariant.short, c.loop-at.auto.at-end)

pub returns-clause-capacity : goal.returns-clause-capacity
returns-clause-capacity c = c.loop-at.invariant.capacity

pub overflow_cast-at : goal.overflow_cast-at
overflow_cast-at c = grind (arith, common_steps)

pub offset_bounds-entries-at : goal.offset_bounds-entries-at
offset_bounds-entries-at c = grind (arith, common_steps)
