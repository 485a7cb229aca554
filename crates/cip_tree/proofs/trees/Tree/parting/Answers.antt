use Rattle.std.proofs.lemmas.Grind.{common_steps}
use Rattle.std.proofs.Common.{◌≡◌, [], length, refl, arith, true, false, Some, MatchResult, rules, to_z, of_z, to_z-of_z, sym, ap, ◌∙◌, subst}
use Rattle.std.proofs.lemmas.Option.{slice_get-get_or}
use Rattle.std.specs.Int.{w128}
use Rattle.std.specs.Prelude.{slice_get}
use Rattle.cip_problem.specs.Program.{Plain, Open}
use Rattle.cip_problem.specs.Box.{sides_at}
use Rattle.cip_problem.specs.Choices.{choice_at}
use Rattle.cip_problem.specs.Wholes.{AllHaveWholes}
use Rattle.cip_domain.specs.Changes.{Region}
use Rattle.cip_domain.specs.Halves.{CanHalve}
use Rattle.cip_tree.specs.declared.origins.Parting.TheVariants.{Whole}
use Rattle.cip_tree.specs.declared.splits.SplitFault.TheVariants.{Outside}
use Rattle.cip_tree.specs.Nodes.{Nodes, box_of, choices_of}
use Rattle.cip_tree.proofs.Halving.{long_box, plain_of, open_own}
use Rattle.cip_tree.proofs.SplitColumns.{whole_come, chosen_are}
use Rattle.cip_tree.proofs.trees.Tree.parting.Goals as goal
use Rattle.cip_tree.proofs.trees.Tree.parting.Goals.{then-can_halve, else-can_halve}

pub sides-requires : goal.sides-requires
sides-requires c =
    omega (arith, long_box c.args.self.now.integral c.args.self.now.work [] c.args.col c.requires.wholes c.requires.column, ap length c.bounds.ensures)

pub returns-then-is_plain : goal.returns-then-is_plain
returns-then-is_plain c = λ node same.
    let tree = c.args.self.now in
    let at_is : to_z w128 (of_z w128 c.args.at) ≡ c.args.at = search (rules, to_z-of_z) in
    let flag : c.index-whole.result.now ≡ true = first_of (cc, search rules) in
    let whole : slice_get tree.integral c.args.col ≡ Some true = ap (λ (t : Nodes). slice_get t.integral c.args.col) (sym c.self.view_is) ∙ slice_get-get_or c.self.inside.whole.items c.args.col c.index-whole.result.now (omega (arith, c.requires.column, ap (λ (t : Nodes). length t.integral) c.self.view_is)) ∙ ap Some (sym c.index-whole.ensures ∙ flag) in
    let plain : choice_at (choices_of tree node) c.args.col ≡ Plain = ap (λ (r : Region). choice_at r.choices c.args.col) (sym same) ∙ ap (λ h. choice_at h c.args.col) (sym c.choices.ensures) ∙ sym c.at-choice.ensures ∙ plain_of c.at-choice.result (sym c.is_plain.ensures ∙ c.if-is_plain.true) in
    let wholes : AllHaveWholes tree.integral (box_of tree node) = subst (λ (r : Region). AllHaveWholes tree.integral r.box) same c.requires.wholes in
    let sides : c.sides.result ≡ sides_at (box_of tree node) c.args.col = c.sides.ensures ∙ ap (λ b. sides_at b c.args.col) c.bounds.ensures ∙ ap (λ (r : Region). sides_at r.box c.args.col) same in
    let can : MatchResult c.if-can_halve.result (λ parting. (parting ≡ Whole) × CanHalve c.sides.result (to_z w128 (of_z w128 c.args.at))) (λ fault. (fault ≡ Outside) × (¬ CanHalve c.sides.result (to_z w128 (of_z w128 c.args.at)))) =
    elim c.if-can_halve.branch [
      | then-can_halve w ↦ rw (w.result-is) (refl, c.can_halve.ensures.0 w.if-can_halve.true)
      | else-can_halve w ↦ rw (w.result-is) (refl, λ h. absurd (let g : false ≡ true = sym w.if-can_halve.false ∙ c.can_halve.ensures.1 h in cc))
    ] in
    whole_come tree node c.args.col c.args.at wholes whole plain c.if-can_halve.result
    (subst (λ s. MatchResult c.if-can_halve.result (λ parting. (parting ≡ Whole) × CanHalve s c.args.at) (λ fault. (fault ≡ Outside) × (¬ CanHalve s c.args.at))) sides
    (subst (λ z. MatchResult c.if-can_halve.result (λ parting. (parting ≡ Whole) × CanHalve c.sides.result z) (λ fault. (fault ≡ Outside) × (¬ CanHalve c.sides.result z))) at_is can))

pub returns-then-is_open : goal.returns-then-is_open
returns-then-is_open c = λ node same.
    let tree = c.args.self.now in
    let flag : c.index-whole.result.now ≡ false = first_of (cc, search rules) in
    let whole : slice_get tree.integral c.args.col ≡ Some false = ap (λ (t : Nodes). slice_get t.integral c.args.col) (sym c.self.view_is) ∙ slice_get-get_or c.self.inside.whole.items c.args.col c.index-whole.result.now (omega (arith, c.requires.column, ap (λ (t : Nodes). length t.integral) c.self.view_is)) ∙ ap Some (sym c.index-whole.ensures ∙ flag) in
    let own = open_own c.at-choice.result (sym c.is_open.ensures ∙ c.if-is_open.true) in
    let open_ : choice_at (choices_of tree node) c.args.col ≡ Open own.0 = ap (λ (r : Region). choice_at r.choices c.args.col) (sym same) ∙ ap (λ h. choice_at h c.args.col) (sym c.choices.ensures) ∙ sym c.at-choice.ensures ∙ own.1 in
    let wholes : AllHaveWholes tree.integral (box_of tree node) = subst (λ (r : Region). AllHaveWholes tree.integral r.box) same c.requires.wholes in
    chosen_are tree node c.args.col c.args.at wholes own.0 whole open_

pub returns-else-not-whole : goal.returns-else-not-whole
returns-else-not-whole c =
    let whole : slice_get c.args.self.now.integral c.args.col ≡ Some c.index-whole.result.now = ap (λ (t : Nodes). slice_get t.integral c.args.col) (sym c.self.view_is) ∙ slice_get-get_or c.self.inside.whole.items c.args.col c.index-whole.result.now (omega (arith, c.requires.column, ap (λ (t : Nodes). length t.integral) c.self.view_is)) ∙ ap Some (sym c.index-whole.ensures) in
    grind (arith, common_steps)

pub index-whole-requires : goal.index-whole-requires
index-whole-requires c = grind (arith, common_steps)
