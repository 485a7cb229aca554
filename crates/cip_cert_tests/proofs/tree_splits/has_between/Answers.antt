use Rattle.std.proofs.Common.{◌≡◌, true, false, List, [], ◌∷◌, length, refl, sym, ap, ◌∙◌, subst, arith, to_z, of_z, true≢false}
use Rattle.std.specs.Int.{w64}
use Rattle.cip_problem.specs.Program.{Sides}
use Rattle.cip_problem.specs.Box.{Between, sides_at}
use Rattle.cip_problem.specs.Wholes.{HasWhole, AllHaveWholes}
use Rattle.cip_problem.proofs.Box.SideTests.{between_of_test}
use Rattle.cip_domain.proofs.Boxes.{length-narrowed}
use Rattle.cip_domain.specs.Changes.{Region}
use Rattle.cip_tree.specs.Nodes.{Nodes, region_in, node_changes, box_of}
use Rattle.cip_cert_tests.proofs.tree_splits.has_between.Goals as goal

-- the first of two columns has a whole value, and the other wants none
wide : (box : List Sides) → length box ≡ 2 → HasWhole (sides_at box 0) → AllHaveWholes (true ∷ false ∷ []) box
wide [] l h = absurd (omega (arith, l))
wide (s ∷ []) l h = absurd (omega (arith, l))
wide (s ∷ t ∷ []) l h = ((λ e. h), ((λ e. absurd (true≢false (sym e))), tt))
wide (s ∷ t ∷ u ∷ us) l h = absurd (omega (arith, l))

pub returns-in-Some-clause-wholes : goal.returns-in-Some-clause-wholes
returns-in-Some-clause-wholes c = λ yes.
    let tree = c.first_sides.new.tree in
    let sides = c.in-Some.sides in
    let whole : HasWhole sides = record {
      number = to_z w64 (of_z w64 c.args.number);
      between = subst (λ v. Between sides.low sides.high v) c.from.ensures
          (between_of_test sides.low sides.high c.from.result (sym c.contains.ensures ∙ yes));
    } in
    let box : sides_at tree.work.box 0 ≡ sides_at (box_of tree c.args.node.now) 0 = ap (λ (r : Region). sides_at r.box 0) (c.in-Some.ensures.work refl) in
    subst (λ l. AllHaveWholes l (box_of tree c.args.node.now)) (sym (ap (λ (t : Nodes). t.integral) c.first_sides.ensures.tree ∙ c.requires.flags))
    (wide (box_of tree c.args.node.now) (length-narrowed (region_in tree.root) (node_changes tree c.args.node.now) ∙ ap (λ (t : Nodes). length t.root.box) c.first_sides.ensures.tree ∙ c.requires.columns)
    (subst HasWhole (c.in-Some.ensures.sides ∙ box) whole))
