-- Reading a text of a point that is pulled from a store.
--     ReadsPoint program text old new point      what the text gives was read
--     PointCause program text old new cause      why there is none
use Rattle.std.specs.Prelude.{ℕ, List, Option}
use Rattle.cip_rational.specs.Rational.{ℚ}
use Rattle.cip_io.specs.Store.{StoreTells}
use Rattle.cip_problem.specs.Program.{Program}
use Rattle.cip_text_rules.specs.LineTexts.{HasResult, HasFault}
use Rattle.cip_input.specs.PointRules.{point_reading}
use Rattle.cip_input.specs.PointKindTexts.{kind_number}
use Rattle.cip_input.specs.declared.kinds.PointKind.{PointKind}
use Rattle.cip_input.specs.TextsRead.{ReadsText}
use Rattle.cip_input.specs.Unreads.{UnreadCause}
use Rattle.cip_input.specs.declared.unread.Unread.{Unread}

-- what a text gives was read
abbrev pub ReadsPoint : Program → (text : Option (List ℕ)) → (old new : StoreTells) → List ℚ → Type 0
ReadsPoint program = ReadsText (HasResult (point_reading program))

-- why it wasn't
abbrev pub PointCause : Program → (text : Option (List ℕ)) → (old new : StoreTells) → Unread PointKind → Type 0
PointCause program = UnreadCause kind_number (HasFault (point_reading program))
