use Rattle.std.proofs.lemmas.Grind.{common_steps}
use Rattle.std.proofs.Common.{◌+◌, take, drop, sym, ap, ◌∙◌, arith}
use Rattle.cip_text_rules.specs.Lines.{is_blank}
use Rattle.cip_text.proofs.Cuts.{filled, field_is}
use Rattle.cip_text.proofs.Places.{place_within}
use Rattle.cip_text.proofs.text_lines.Fields.next_field.Goals as goal

pub cut_at-requires : goal.cut_at-requires
cut_at-requires c = omega (arith, c.first_blank.ensures, place_within is_blank c.without_blanks-rest.result.now)

pub returns : goal.returns
returns c =
    let rest = c.without_blanks-rest.result.now in
    field_is c.args.self.now.rest.now rest c.cut_at.result.0.now c.cut_at.result.1.now c.without_blanks-rest.ensures.same
    (filled rest (sym c.is_empty.ensures ∙ c.if-is_empty.false)) c.without_blanks-rest.ensures.starts
    (c.cut_at.ensures.before ∙ ap (λ place. take place rest) c.first_blank.ensures)
    (c.cut_at.ensures.after ∙ ap (λ place. drop (place + 1) rest) c.first_blank.ensures)

pub returns-then-is_empty : goal.returns-then-is_empty
returns-then-is_empty c = grind (arith, common_steps)
