use Rattle.std.proofs.lemmas.Result.{IfOk-from_err}
use Rattle.std.proofs.lemmas.Grind.{common_steps}
use Rattle.std.proofs.lemmas.List.{take_all}
use Rattle.std.proofs.Common.{◌++◌, ◌∷◌, [], cond, refl, ap, sym, ◌∙◌, take, add-one, arith, length, ◌≤◌, ap₂}
use Rattle.std.specs.Prelude.{slice_index_or}
use Rattle.cip_text_rules.specs.MpsProgram.{is_free}
use Rattle.cip_text_rules.specs.MpsState.{no_row, is_kept, kept_names}
use Rattle.cip_mps.proofs.ProgramLaws.{kept_absent, take_absent, kept_more, kept_unless}
use Rattle.cip_mps.proofs.program.names_of.Goals as goal

pub keep_name-requires : goal.keep_name-requires
keep_name-requires c =
    let n = c.loop-number.number in
    rw c.loop-number.invariant
    (kept_absent (take n c.args.names.now) (take n c.args.rows.now) c.name.result.now (take_absent c.args.names.now c.name.result.now n c.name.ensures.number))

pub loop-number-preserved : goal.loop-number-preserved
loop-number-preserved c =
    let n = c.loop-number.number in
    let name = c.name.result.now in
    let row = slice_index_or c.args.rows.now n no_row in
    c.in_ok-keep_name.ensures ∙ kept_unless c.is_free.result row c.loop-number.kept name (c.is_free.ensures ∙ ap is_free c.head.ensures.kind)
    ∙ ap (λ ns. cond (is_kept row) (ns ++ name ∷ []) ns) c.loop-number.invariant
    ∙ sym (kept_more c.args.names.now c.args.rows.now n name row c.name.ensures.name (omega (arith, c.loop-number-test.true, c.len-number-end.ensures)) refl)
    ∙ ap (λ k. kept_names (take k c.args.names.now) (take k c.args.rows.now)) (sym (add-one n))

pub returns : goal.returns
returns c =
    let n = c.loop-number.number in
    let here : length c.args.rows.now ≤ n = rw c.len-number-end.ensures at c.loop-number-test.false in
    let there : length c.args.names.now ≤ n = omega (arith, here, c.requires) in
    c.loop-number.invariant ∙ ap₂ kept_names (take_all n c.args.names.now there) (take_all n c.args.rows.now here)

pub name-requires : goal.name-requires
name-requires c = grind (arith, common_steps)

pub head-requires : goal.head-requires
head-requires c = grind (arith, common_steps)

pub loop-number-init : goal.loop-number-init
loop-number-init c = grind (arith, common_steps)

pub same-kept : goal.same-kept
same-kept c = grind (arith, common_steps)

pub returns-in_err-keep_name : goal.returns-in_err-keep_name
returns-in_err-keep_name c = IfOk-from_err c.from_residual.result _ c.from_residual.ensures.0
