use Rattle.std.proofs.Common.{Bool, ap, sym, ◌∙◌}
use Rattle.std.specs.Prelude.{if◌then◌else◌}
use Rattle.cip_text_rules.specs.MpsSayings.{valued_bound, plain_bound}
use Rattle.cip_mps_lines.specs.FirstWords.{texts}
use Rattle.cip_mps_lines.specs.MpsKinds.{bound_kind_in}
use Rattle.cip_mps_lines.proofs.set_lines.typed_bound.Goals as goal

pub returns-then-has_value : goal.returns-then-has_value
returns-then-has_value c =
    let first = c.args.place.now.set_name in
    let kind = bound_kind_in c.args.kind in
    let words = texts c.args.words.now in
    c.valued_bound.ensures
    ∙ ap (λ (valued : Bool). if valued then valued_bound first kind words else plain_bound first kind words) (sym c.if-has_value.true ∙ c.has_value.ensures)

pub returns-else-has_value : goal.returns-else-has_value
returns-else-has_value c =
    let first = c.args.place.now.set_name in
    let kind = bound_kind_in c.args.kind in
    let words = texts c.args.words.now in
    c.plain_bound.ensures
    ∙ ap (λ (valued : Bool). if valued then valued_bound first kind words else plain_bound first kind words) (sym c.if-has_value.false ∙ c.has_value.ensures)
