use Rattle.cip_presolve.proofs.PartsRead.{sides_put}
use Rattle.cip_presolve.specs.DraftParts.{IsDraft}
use Rattle.cip_presolve.specs.DraftInside.{shown}
use Rattle.cip_problem.specs.Choices.{choice_at, is_open}
use Rattle.cip_problem.specs.Program.{Sides, Program}
use Rattle.std.proofs.lemmas.Grind.{common_steps}
use Rattle.std.proofs.Common.{arith, ◌≡◌, false, List, sym, subst}
use Rattle.cip_presolve.proofs.drafts.Draft.set_sides.Goals as goal

pub invariant_of-self : goal.invariant_of-self
invariant_of-self c =
    subst (λ (box : List Sides). IsDraft (record (shown c.self.inside) { bounds = box })) (sym c.set_sides.ensures)
    (sides_put (shown c.self.inside) c.args.column c.args.sides c.self.invariant
    (subst (λ (p : Program). is_open (choice_at p.choices c.args.column) ≡ false) (sym c.self.view_is)
    c.requires.plain))

pub returns : goal.returns
returns c = grind (arith, common_steps)

pub set_sides-requires : goal.set_sides-requires
set_sides-requires c = grind (arith, common_steps)
