use Rattle.std.proofs.Common.{cond, ap, ◌∙◌}
use Rattle.cip_bland.specs.Headings.{back_of}
use Rattle.cip_bland.specs.declared.steps.Heading.TheVariants.{Down}
use Rattle.cip_rational.specs.Rational.{zeroℚ, lt_test}
use Rattle.cip_simplex.proofs.Signs.{positive_test}
use Rattle.cip_simplex.proofs.ways.falling_heading.Goals as goal

pub returns : goal.returns
returns c = c.heading_if.ensures ∙ ap (λ b. cond b Down (back_of Down)) (positive_test c.cost_entry.result c.is_positive.result c.is_positive.ensures ∙ ap (lt_test zeroℚ) c.cost_entry.ensures)
