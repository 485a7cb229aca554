-- The choices of a program past its last column.
use Rattle.std.proofs.Common.{◌≡◌, ◌≤◌, slice_get, length, Option, None, Bool, false, refl, sym, ◌∙◌, subst}
use Rattle.std.proofs.lemmas.Option.{slice_get_past, none-some}
use Rattle.cip_problem.specs.Program.{Sides, Choice, Plain, Open, Off, On, Program}
use Rattle.cip_problem.specs.Box.{sides_at}
use Rattle.cip_problem.specs.Choices.{choice_at}
use Rattle.cip_problem.specs.WellFormed.{IsChoice, IsWellFormed}
use Rattle.cip_domain.specs.Narrowing.{ArePlainPast}
use Rattle.cip_core.specs.Entering.{own_region}

-- choices past the last column are plain
pub plain_past : (choice : Choice) (whole : Option Bool) (sides : Sides) → IsChoice choice whole sides → whole ≡ None → choice ≡ Plain
plain_past Plain whole sides h e = refl
plain_past (Open own) whole sides h e = absurd (none-some false (sym e ∙ h.continuous))
plain_past Off whole sides h e = absurd h
plain_past On whole sides h e = absurd h

pub own_past : (program : Program) → IsWellFormed program → ArePlainPast (own_region program)
own_past program formed column l =
    let past : length program.integral ≤ column = subst (λ n. n ≤ column) (formed.bounds ∙ sym formed.integral) l in
    plain_past (choice_at program.choices column) (slice_get program.integral column) (sides_at program.bounds column) (formed.choices column) (slice_get_past program.integral column past)
