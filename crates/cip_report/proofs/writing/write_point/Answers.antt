use Rattle.std.proofs.lemmas.Grind.{common_steps}
use Rattle.std.proofs.Common.{ℕ, List, ◌∙◌, ◌++◌, take, map, append_assoc, add-one, arith}
use Rattle.cip_rational.specs.NumberText.{fraction_text}
use Rattle.cip_search.specs.Figures.{line, point_lines}
use Rattle.cip_report.proofs.WritingLemmas.{named, point_parts, point_lines-more, second_of_three, Passes-more}
use Rattle.cip_report.proofs.writing.write_point.Goals as goal

pub returns-in_err-write_number-clause-taken : goal.returns-in_err-write_number-clause-taken
returns-in_err-write_number-clause-taken g c =
    let shown = λ (name : List ℕ). c.args.front.now ++ name in
    let name = named shown c.args.names.now c.loop-number.number c.name.result.now c.name.ensures in
    let parts = point_parts (map shown c.args.names.now) c.args.point.now c.loop-number.number (shown c.name.result.now) c.index-point-number.result c.loop-number-test.true name c.index-point-number.is in
    rw parts
    (second_of_three c.from_residual.result _ _ _ c.args.buffer.now _ _ _ _ _ c.from_residual.ensures.0 c.loop-number.invariant.0 c.in_err-write_number.ensures.taken)

pub loop-number-preserved : goal.loop-number-preserved
loop-number-preserved g c =
    let old = c.loop-number.invariant in
    let shown = λ (name : List ℕ). c.args.front.now ++ name in
    let name = named shown c.args.names.now c.loop-number.number c.name.result.now c.name.ensures in
    let more = point_lines-more (map shown c.args.names.now) c.args.point.now c.loop-number.number (shown c.name.result.now) c.index-point-number.result c.loop-number-test.true name c.index-point-number.is in
    let texts = append_assoc c.args.buffer.now (point_lines (take c.loop-number.number (map shown c.args.names.now)) (take c.loop-number.number c.args.point.now)) (line (shown c.name.result.now) (fraction_text c.index-point-number.result)) in (
      rw (add-one, more, ← texts) (Passes-more _ _ _ _ _ _ _ old.0 c.in_ok-write_number.ensures.taken),
      c.in_ok-write_number.ensures.faults.0 ∙ old.1,
    )

pub loop-number-init : goal.loop-number-init
loop-number-init g c = grind (arith, common_steps)

pub returns-clause-taken : goal.returns-clause-taken
returns-clause-taken g c = grind (arith, common_steps)

pub name-requires : goal.name-requires
name-requires g c = grind (arith, common_steps)

pub bounds-point-number : goal.bounds-point-number
bounds-point-number g c = grind (arith, common_steps)

pub offset_bounds-point-number : goal.offset_bounds-point-number
offset_bounds-point-number g c = grind (arith, common_steps)

pub returns-clause-faults : goal.returns-clause-faults
returns-clause-faults g c = grind (arith, common_steps)
