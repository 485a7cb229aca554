use Rattle.std.proofs.lemmas.Grind.{common_steps}
use Rattle.std.proofs.Common.{◌≡◌, ◌<◌, ◌≤◌, refl, arith}
use Rattle.std.specs.Prelude.{IfSome}
use Rattle.cip_text.specs.PieceStands.{IsLastRead}
use Rattle.cip_text.proofs.Streams.{ends_with}
use Rattle.cip_text_rules.specs.PointRules.{point_reading}
use Rattle.cip_input.specs.PointTexts.{steps_of, kept_of, values_of, program_of}
use Rattle.cip_input.proofs.point_text.PointText.close.Goals as goal
use Rattle.cip_input.proofs.point_text.PointText.close.Goals.{then-is_filled, else-is_filled}

pub returns-clause-outcome : goal.returns-clause-outcome
returns-clause-outcome c = λ text h.
    let now = c.args.self.now in
    let after = c.if-is_filled.self in
    let read : IsLastRead (steps_of now) (kept_of now) (values_of now) (values_of after) c.if-is_filled.last_kind =
    elim c.if-is_filled.branch [
      | then-is_filled w ↦ rw (w.self-is, w.last_kind-is) (record {
        filled = λ e. w.read_unread-last_kind.ensures.read;
        empty = λ e. absurd (let t = w.if-is_filled.true in let f = c.is_filled.ensures in cc (t, f, e));
      })
      | else-is_filled w ↦ rw (w.self-is, w.last_kind-is) (record {
        filled = λ e. absurd (let t = w.if-is_filled.false in let f = c.is_filled.ensures in cc (t, f, e));
        empty = λ e. (refl, refl);
      })
    ] in
    let kept : kept_of after ≡ kept_of now = elim c.if-is_filled.branch [
      | then-is_filled w ↦ rw w.self-is w.read_unread-last_kind.ensures.kept
      | else-is_filled w ↦ rw w.self-is refl
    ] in
    ends_with (point_reading (program_of now)) (steps_of now) (c.points_are_read.ensures (program_of now) c.requires) text (kept_of now) (kept_of after) (values_of now) (values_of after) c.if-is_filled.last_kind c.end_kind-end_kind.result c.fault_at_end.result h read kept c.end_kind-end_kind.ensures.fault c.fault_at_end.ensures

pub returns-clause-kinds : goal.returns-clause-kinds
returns-clause-kinds c =
    let kinds : IfSome c.if-is_filled.last_kind (λ kind. (0 < kind) × (kind ≤ 6)) = elim c.if-is_filled.branch [
      | then-is_filled w ↦ rw w.last_kind-is w.read_unread-last_kind.ensures.kinds
      | else-is_filled w ↦ rw w.last_kind-is tt
    ] in
    grind (arith, common_steps, kinds)
