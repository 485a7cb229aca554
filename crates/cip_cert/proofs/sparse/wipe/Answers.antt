use Rattle.std.proofs.lemmas.Grind.{common_steps}
use Rattle.std.proofs.Common.{◌<◌, ◌+◌, ◌∙◌, length, get_or, set, drop, replicate, refl, sym, ap, subst, arith}
use Rattle.std.proofs.Math.ListN.{drop_of_length-le}
use Rattle.std.proofs.lemmas.List.{length-set}
use Rattle.cip_rational.specs.Rational.{zeroℚ}
use Rattle.cip_cert.proofs.Cleared.{Covers, covers_more, covers_end}
use Rattle.cip_cert.proofs.sparse.wipe.Goals as goal

pub loop-column-init : goal.loop-column-init
loop-column-init c = record { covers = c.requires.covers; same = refl }

pub bounds-touched-column-index : goal.bounds-touched-column-index
bounds-touched-column-index c = c.loop-column-test.true

pub bounds-entries-column : goal.bounds-entries-column
bounds-entries-column c = omega (
  arith,
  c.requires.within c.loop-column.column-index 0 c.loop-column-test.true,
  c.loop-column.invariant.same,
)

pub loop-column-preserved : goal.loop-column-preserved
loop-column-preserved c =
    let i = c.loop-column.column-index in
    let touched = c.args.touched.now in
    let entries = c.loop-column.entries in
    let within : get_or touched i 0 < length entries = omega (
      arith,
      c.requires.within i 0 c.loop-column-test.true,
      c.loop-column.invariant.same,
    ) in
    record {
      covers =
          subst (λ z. Covers (set entries (get_or touched i 0) z) (drop (i + 1) touched)) (sym c.zero.ensures)
          (covers_more entries touched i (get_or touched i 0) c.loop-column-test.true refl within
          c.loop-column.invariant.covers);
      same = length-set entries (get_or touched i 0) c.zero.result ∙ c.loop-column.invariant.same;
    }

pub returns : goal.returns
returns c =
    covers_end c.loop-column.entries _ (drop_of_length-le c.args.touched.now c.loop-column-test.false)
    c.loop-column.invariant.covers
    ∙ ap (λ n. replicate n zeroℚ) c.loop-column.invariant.same

pub offset_bounds-entries-column : goal.offset_bounds-entries-column
offset_bounds-entries-column c = grind (arith, common_steps)

pub offset_bounds-touched-column-index : goal.offset_bounds-touched-column-index
offset_bounds-touched-column-index c = grind (arith, common_steps)
