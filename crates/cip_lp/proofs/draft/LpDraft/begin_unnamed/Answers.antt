use Rattle.std.proofs.Common.{ap, ◌∙◌, ℕ, ◌≡◌, arith, length, ◌∷◌}
use Rattle.cip_text_rules.specs.LpFacts.{LpFacts}
use Rattle.cip_lp.proofs.KeptLaws.{unnamed_taken}
use Rattle.cip_rational.specs.NumberText.{natural_text}
use Rattle.cip_lp.proofs.draft.LpDraft.begin_unnamed.Goals as goal

pub returns : goal.returns
returns c =
    let count : c.len.result ≡ length c.self.inside.rows.items = omega (arith, c.len.ensures, c.self.inside.rows.ok.0)
    in
    unnamed_taken c.args.self.now c.begin.new.self c.in_ok-name.name.items c.begin.result
    (c.in_ok-name.ensures ∙ ap (λ (n : ℕ). 82 ∷ natural_text n)
    (count ∙ ap (λ (f : LpFacts). length f.rows) c.self.view_is))
    c.begin.ensures
