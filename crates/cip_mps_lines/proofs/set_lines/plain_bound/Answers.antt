use Rattle.std.proofs.Common.{ap, ◌∙◌}
use Rattle.cip_rational.specs.Numeral.{Numeral}
use Rattle.cip_text_rules.specs.MpsSayings.{BoundLine, of_set}
use Rattle.cip_mps_lines.specs.FirstWords.{texts}
use Rattle.cip_mps_lines.specs.MpsKinds.{bound_kind_in}
use Rattle.cip_mps_lines.proofs.SetLines.{plain_told, plain_bound_told}
use Rattle.cip_mps_lines.proofs.set_lines.plain_bound.Goals as goal

pub returns-in-None : goal.returns-in-None
returns-in-None c =
    ap (plain_told (bound_kind_in c.args.kind) c.args.place.now.set_name) c.in-None.ensures
    ∙ plain_bound_told c.args.place.now.set_name (bound_kind_in c.args.kind) (texts c.args.words.now)

pub returns-in-Some : goal.returns-in-Some
returns-in-Some c =
    let first = c.args.place.now.set_name in
    let kind = bound_kind_in c.args.kind in
    let set_name = c.in-Some.set_name.now in
    c.bound_of_set.ensures
    ∙ ap (λ (value : Numeral). of_set first set_name (BoundLine kind set_name c.in-Some.column.now value)) c.none.ensures
    ∙ ap (plain_told kind first) c.in-Some.ensures
    ∙ plain_bound_told first kind (texts c.args.words.now)
