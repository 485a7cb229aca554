use Rattle.std.proofs.lemmas.Grind.{common_steps}
use Rattle.std.proofs.Common.{◌≡◌, ℕ, ◌<◌, List, [], ◌∷◌, ◌++◌, length, set, ap, ◌∙◌, sym, arith, subst}
use Rattle.cip_text_rules.specs.LpFacts.{FormTerm}
use Rattle.cip_lp.specs.LpForms.{term_shown, ArePlaced}
use Rattle.cip_lp.proofs.FormPlaces.{placed_more, still_placed}
use Rattle.std.proofs.lemmas.Result.{IfOk-from_err}
use Rattle.cip_lp.proofs.form.Form.put.Goals as goal

pub invariant_of-self-2 : goal.invariant_of-self-2
invariant_of-self-2 c =
    let terms = c.self.inside.terms.items in
    let room = c.make_room.new.places.items in
    let term : FormTerm = term_shown c.term.inside.column c.term.inside.value in
    let within : term.column < length room = omega (arith, c.in_ok-make_room.ensures.room, c.make_room.new.places.ok.0)
    in
    let count : c.len.result ≡ length terms = omega
    (arith, c.len.ensures, c.in_ok-make_room.ensures.len, c.self.inside.terms.ok.0) in
    let more : c.push_reserved.new.self.items ≡ terms ++ term ∷ [] =
    c.push_reserved.ensures.items ∙ ap (λ (ts : List FormTerm). ts ++ c.args.term ∷ []) c.in_ok-make_room.ensures.terms
    ∙ ap (λ (t : FormTerm). terms ++ t ∷ []) (sym c.term.view_is) in
    placed_more terms c.push_reserved.new.self.items c.self.inside.places.items room _ term c.self.invariant
    c.in_ok-make_room.ensures.kept within more (ap (λ (n : ℕ). set room c.term.inside.column n) count)

pub index_mut-requires : goal.index_mut-requires
index_mut-requires c = grind (arith, common_steps)

pub overflow_cast-term-inside : goal.overflow_cast-term-inside
overflow_cast-term-inside c = omega arith

pub push_reserved-requires : goal.push_reserved-requires
push_reserved-requires c = grind (arith, common_steps)

pub returns-clause-ok : goal.returns-clause-ok
returns-clause-ok c = grind (arith, common_steps)

pub same-term : goal.same-term
same-term c = grind (arith, common_steps)

pub returns-clause-err : goal.returns-clause-err
returns-clause-err c = grind (arith, common_steps)

pub returns-in_err-make_room-clause-ok : goal.returns-in_err-make_room-clause-ok
returns-in_err-make_room-clause-ok c = IfOk-from_err c.from_residual.result _ c.from_residual.ensures.0

pub invariant_of-self : goal.invariant_of-self
invariant_of-self c =
    subst (λ (terms : List FormTerm). ArePlaced terms c.make_room.new.places.items)
    (sym c.in_err-make_room.ensures.terms)
    (still_placed c.self.inside.terms.items c.self.inside.places.items c.make_room.new.places.items
    c.in_err-make_room.ensures.kept c.self.invariant)
