use Rattle.std.proofs.lemmas.Result.{IfOk-from_err}
use Rattle.std.proofs.lemmas.Grind.{common_steps}
use Rattle.std.proofs.Common.{◌+◌, ◌++◌, ◌∷◌, [], List, drop, drop-cons, map, pos, ap, sym, ◌∙◌, arith}
use Rattle.std.specs.Prelude.{slice_index_or}
use Rattle.std.proofs.lemmas.Bool.{eq-eqb, ne_eqb}
use Rattle.std.proofs.lemmas.List.{append-nil, drop_all}
use Rattle.cip_text_rules.specs.MpsState.{Held}
use Rattle.cip_mps.specs.Entries.{numbers_of}
use Rattle.cip_mps.specs.GroupEntries.{near_entry}
use Rattle.cip_mps.specs.declared.groups.Near.{Near}
use Rattle.cip_mps.proofs.RowTermLaws.{taken_at, passed_at}
use Rattle.cip_mps.proofs.groups.near_numbers.Goals as goal
use Rattle.cip_mps.proofs.groups.near_numbers.Goals.{then-number-row+in_ok-push, else-number-row}

pub loop-number-init : goal.loop-number-init
loop-number-init c = ap (λ (ns : List Held). ns ++ numbers_of c.args.row (map near_entry c.args.near.now)) c.new-numbers.ensures.items

pub loop-number-preserved : goal.loop-number-preserved
loop-number-preserved c =
    let xs = c.args.near.now in
    let row = c.args.row in
    let n = c.loop-number.number-index in
    let number : Near = slice_index_or xs n (record { row = 0; column = 0; value = pos 0 }) in
    let cut = drop-cons xs n _ c.loop-number-test.true in
    let numbers = c.loop-number.numbers.items in
    let later = map near_entry (drop (n + 1) xs) in
    elim c.if-number-row.branch [
      | then-number-row+in_ok-push w ↦
          (let more = ap (λ v. v.items) w.numbers-is ∙ w.in_ok-push.ensures.items ∙ ap (λ (h : Held). numbers ++ h ∷ []) w.held.ensures in
          ap (λ (ns : List Held). ns ++ numbers_of row later) more
          ∙ taken_at near_entry xs n number cut row numbers (eq-eqb number.row row w.if-number-row.true) ∙ c.loop-number.invariant)
      | else-number-row w ↦
          (ap (λ v. v.items ++ numbers_of row later) w.numbers-is
          ∙ passed_at near_entry xs n number cut row numbers (ne_eqb number.row row w.if-number-row.false) ∙ c.loop-number.invariant)
    ]

pub returns : goal.returns
returns c =
    let numbers = c.loop-number.numbers.items in
    sym (ap (λ (xs : List Near). numbers ++ numbers_of c.args.row (map near_entry xs)) (drop_all c.loop-number.number-index c.args.near.now c.loop-number-test.false) ∙ append-nil numbers)
    ∙ c.loop-number.invariant

pub offset_bounds-near-number-index : goal.offset_bounds-near-number-index
offset_bounds-near-number-index c = grind (arith, common_steps)

pub returns-in_err-push : goal.returns-in_err-push
returns-in_err-push c = IfOk-from_err c.from_residual.result _ c.from_residual.ensures.0
