use Rattle.std.proofs.lemmas.Result.{IfOk-from_err}
use Rattle.std.proofs.lemmas.Grind.{common_steps}
use Rattle.std.proofs.Common.{◌+◌, ◌++◌, ◌∷◌, [], List, drop, drop-cons, map, suc, refl, ap, sym, ◌∙◌, arith}
use Rattle.std.proofs.lemmas.Bool.{eq-eqb, ne_eqb}
use Rattle.std.proofs.lemmas.List.{append-nil, drop_all}
use Rattle.cip_text_rules.specs.MpsState.{Held}
use Rattle.cip_mps.specs.Entries.{numbers_of}
use Rattle.cip_mps.specs.GroupEntries.{far_entry}
use Rattle.cip_mps.specs.declared.groups.Far.{Far}
use Rattle.cip_mps.proofs.RowTermLaws.{taken_at, passed_at}
use Rattle.cip_mps.proofs.groups.add_far.Goals as goal
use Rattle.cip_mps.proofs.groups.add_far.Goals.{then-number-row+in_ok-push, else-number-row}

pub loop-number-init : goal.loop-number-init
loop-number-init c = refl

pub loop-number-preserved : goal.loop-number-preserved
loop-number-preserved c =
    let xs = c.args.far.now in
    let row = c.args.row in
    let n = c.loop-number.number-index in
    let number = c.number-item.result in
    let cut = drop-cons xs n number c.loop-number-test.true ∙ ap (λ (x : Far). x ∷ drop (suc n) xs) (sym c.number-item.is) in
    let numbers = c.loop-number.numbers.items in
    let later = map far_entry (drop (n + 1) xs) in
    elim c.if-number-row.branch [
      | then-number-row+in_ok-push w ↦
          (let more = ap (λ v. v.items) w.numbers-is ∙ w.in_ok-push.ensures.items ∙ ap (λ (h : Held). numbers ++ h ∷ []) w.held.ensures in
          ap (λ (ns : List Held). ns ++ numbers_of row later) more
          ∙ taken_at far_entry xs n number cut row numbers (eq-eqb number.row row w.if-number-row.true) ∙ c.loop-number.invariant)
      | else-number-row w ↦
          (ap (λ v. v.items ++ numbers_of row later) w.numbers-is
          ∙ passed_at far_entry xs n number cut row numbers (ne_eqb number.row row w.if-number-row.false) ∙ c.loop-number.invariant)
    ]

pub returns : goal.returns
returns c =
    let numbers = c.loop-number.numbers.items in
    sym (ap (λ (xs : List Far). numbers ++ numbers_of c.args.row (map far_entry xs)) (drop_all c.loop-number.number-index c.args.far.now c.loop-number-test.false) ∙ append-nil numbers)
    ∙ c.loop-number.invariant

pub offset_bounds-far-number-index : goal.offset_bounds-far-number-index
offset_bounds-far-number-index c = grind (arith, common_steps)

pub returns-in_err-push : goal.returns-in_err-push
returns-in_err-push c = IfOk-from_err c.from_residual.result _ c.from_residual.ensures.0
