use Rattle.std.proofs.lemmas.Grind.{common_steps}
use Rattle.std.proofs.Common.{◌≡◌, ℕ, ◌<◌, ◌^◌, List, [], ◌∷◌, ◌++◌, sym, ap, ◌∙◌, arith, rules}
use Rattle.cip_rational.specs.NumberText.{natural_text}
use Rattle.cip_rational.proofs.NumberText.{natural_text_decimal}
use Rattle.cip_lp.proofs.row_lines.own_name.Goals as goal

pub returns : goal.returns
returns c =
    let small : c.args.number < 2 ^ 64 = search rules in
    let letter : c.push.new.self.items ≡ 82 ∷ [] = c.in-Ok.ensures.items ∙ ap (λ (xs : List ℕ). xs ++ 82 ∷ []) c.new-name.ensures.items in
    let digits : c.as_bytes.result.now ≡ natural_text c.args.number = c.as_bytes.ensures.value ∙ c.format.ensures.text ∙ sym (natural_text_decimal c.args.number (omega (arith, small))) in
    c.in-Ok-extend_from_slice.ensures.items ∙ ap (λ (xs : List ℕ). xs ++ c.as_bytes.result.now) letter ∙ ap (λ (xs : List ℕ). 82 ∷ xs) digits

pub returns-in_default-extend_from_slice : goal.returns-in_default-extend_from_slice
returns-in_default-extend_from_slice c = grind (arith, common_steps)

pub returns-in_default : goal.returns-in_default
returns-in_default c = grind (arith, common_steps)
