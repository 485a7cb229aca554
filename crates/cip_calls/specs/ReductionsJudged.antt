-- What a side that is proposed comes to.
use Rattle.std.specs.Prelude.{◌≡◌, ℕ, ◌^◌, nat_lt, unsigned_abs, Bool, ◌&&◌, ◌||◌, Option, None, Some, Result, Ok, Err, if◌then◌else◌}
use Rattle.cip_rational.specs.Rational.{ℚ, floor, ceil}
use Rattle.cip_problem.specs.Program.{Program}
use Rattle.cip_problem.specs.Box.{sides_at}
use Rattle.cip_problem.specs.WellFormed.{columns}
use Rattle.cip_lin.specs.declared.sides.Side.{Side}
use Rattle.cip_cert.specs.Lent.{Multiples}
use Rattle.cip_cert.specs.Reductions.{reduced}
use Rattle.cip_cert.specs.declared.faults.CutFault.{CutFault}
use Rattle.cip_problem.specs.Improving.{HoldsInBox}
use Rattle.cip_domain.specs.Changes.{side_change}
use Rattle.cip_domain.specs.Domain.{tightening}
use Rattle.cip_domain.specs.Narrowing.{Meets}
use Rattle.cip_domain.specs.declared.stores.Tightened.{Tightened}
use Rattle.cip_domain.specs.declared.stores.Tightened.TheVariants.{Yes, Same, Empty}
use Rattle.cip_core.specs.OpenColumns.{is_whole_at}
use Rattle.cip_tree.specs.Nodes.{TakenNode}
use Rattle.cip_core.specs.CoreStates.{CoreState, reduced_of, held_of, all_lent}
use Rattle.cip_core.specs.SidesTold.{IsSideTaken}
use Rattle.cip_calls.specs.declared.judged.NodeFault.{NodeFault}
use Rattle.cip_calls.specs.declared.judged.NodeFault.TheVariants.{NoSuchColumn, TooFar}
use Rattle.cip_calls.specs.declared.judged.JudgeFault.{JudgeFault}
use Rattle.cip_calls.specs.declared.judged.JudgeFault.TheVariants.{Node as OfNode, Check as OfCheck}
use Rattle.cip_calls.specs.declared.judged.Judged.{Judged}
use Rattle.cip_calls.specs.declared.judged.Judged.TheVariants as judged

-- a value has a size above 2^100: so has a whole number next to it
abbrev pub is_far : ℚ → Bool
is_far value = nat_lt (2 ^ 100) (unsigned_abs (ceil value)) || nat_lt (2 ^ 100) (unsigned_abs (floor value))

-- the column isn't one of this program's; or it is whole, and the value is too far away
abbrev pub side_fault : Program → ℕ → ℚ → Option NodeFault
side_fault program column value =
    if nat_lt column (columns program)
    then (if is_whole_at program.integral column && is_far value then Some TooFar else None)
    else Some NoSuchColumn

-- a fault of what is named comes before all else
abbrev pub unless_faulty : Option NodeFault → Judged → Judged
unless_faulty None answer = answer
unless_faulty (Some fault) answer = judged.Refused (OfNode fault)

-- what the check of the combination answers, and then what tightening the side comes to
abbrev pub by_check : Result ℚ CutFault → Tightened → Judged
by_check (Ok value) Yes = judged.Accepted
by_check (Ok value) Same = judged.Accepted
by_check (Ok value) Empty = judged.Emptied
by_check (Err fault) outcome = judged.Refused (OfCheck fault)

-- a side is refused with this fault, or comes to what tightening it comes to
abbrev pub judged_by : Option JudgeFault → Tightened → Judged
judged_by (Some fault) outcome = judged.Refused fault
judged_by None Yes = judged.Accepted
judged_by None Same = judged.Accepted
judged_by None Empty = judged.Emptied

-- what a side names is there and not too far away, and it follows in the box in work
pub record IsSideShown (core : CoreState) (column : ℕ) (side : Side) (value : ℚ) : Type 0 where
  pub named : side_fault (reduced_of core) column value ≡ None
  pub follows : HoldsInBox (reduced_of core) (held_of core) core.tree.work.box
      (λ point. Meets point (side_change column side value))

-- what the check of a side answers in the box in work
abbrev pub side_checked : CoreState → ℕ → Side → ℚ → Multiples → Result ℚ CutFault
side_checked core column side value combo =
    reduced side (all_lent core) (is_whole_at (reduced_of core).integral column) core.tree.work.box
    (columns (reduced_of core)) column value combo

-- the answer
abbrev pub reduction_answer : CoreState → ℕ → Side → ℚ → Multiples → Judged
reduction_answer core column side value combo =
    unless_faulty (side_fault (reduced_of core) column value)
    (by_check (side_checked core column side value combo)
    (tightening (sides_at core.tree.work.box column) side value))

-- a side that is accepted was taken; after any other answer nothing has changed
abbrev pub IsAfterReduction : Judged → CoreState → CoreState → TakenNode → TakenNode → ℕ → Side → ℚ → Type 0
IsAfterReduction judged.Accepted old new had has column side value =
    IsSideTaken old new had has column side value (tightening (sides_at old.tree.work.box column) side value)
IsAfterReduction judged.Emptied old new had has column side value = (new ≡ old) × (has ≡ had)
IsAfterReduction judged.Known old new had has column side value = (new ≡ old) × (has ≡ had)
IsAfterReduction judged.NotBetter old new had has column side value = (new ≡ old) × (has ≡ had)
IsAfterReduction (judged.Refused fault) old new had has column side value = (new ≡ old) × (has ≡ had)
