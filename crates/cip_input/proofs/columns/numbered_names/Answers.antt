use Rattle.std.proofs.lemmas.Grind.{common_steps}
use Rattle.std.proofs.Common.{ℕ, List, [], ◌∷◌, ◌++◌, sym, ap₂, ◌∙◌, zero-add, arith}
use Rattle.std.proofs.lemmas.List.FromFn.{map-range_with_len_more}
use Rattle.cip_problem.specs.Names.{number_of}
use Rattle.cip_input.specs.Generated.{name_of}
use Rattle.cip_input.proofs.DrawLaws.{fresh}
use Rattle.cip_input.proofs.columns.numbered_names.Goals as goal

pub add-requires : goal.add-requires
add-requires c =
    ap₂ number_of c.loop-number.invariant c.in-Ok.ensures ∙ fresh c.args.letter c.loop-number.number

pub loop-number-preserved : goal.loop-number-preserved
loop-number-preserved c =
    let k : ℕ = c.loop-number.number in
    c.in-Ok-add.ensures.ok
    ∙ ap₂ (λ (xs : List (List ℕ)) (x : List ℕ). xs ++ x ∷ []) c.loop-number.invariant c.in-Ok.ensures
    ∙ sym (map-range_with_len_more (name_of c.args.letter) 0 k k (zero-add k))

pub returns-in_default-add : goal.returns-in_default-add
returns-in_default-add c = grind (arith, common_steps)

pub loop-number-init : goal.loop-number-init
loop-number-init c = grind (arith, common_steps)
