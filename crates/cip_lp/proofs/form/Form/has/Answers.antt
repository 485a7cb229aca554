use Rattle.std.proofs.lemmas.Grind.{common_steps}
use Rattle.std.proofs.Common.{◌≡◌, ◌==◌, ℕ, List, Option, None, Some, length, slice_get, refl, sym, ap, ◌∙◌, arith}
use Rattle.std.proofs.lemmas.Option.{slice_get_read, slice_get_past}
use Rattle.cip_text_rules.specs.LpFacts.{FormTerm}
use Rattle.cip_lp.specs.LpForms.{is_of}
use Rattle.cip_lp.proofs.FormPlaces.{found_at}
use Rattle.cip_lp.proofs.form.Form.has.Goals as goal

pub returns-in-None : goal.returns-in-None
returns-in-None c =
    let places = c.self.inside.places.items in
    let none : slice_get places c.args.column ≡ None = ap (λ (xs : List ℕ). slice_get xs c.args.column) (sym c.as_slice.ensures.value) ∙ slice_get_past c.as_slice.result.now c.args.column c.in-None.ensures.lookup.3 in
    found_at c.self.inside.terms.items places c.args.column c.args.self.now None c.self.invariant c.self.view_is none

pub returns-in-None-get : goal.returns-in-None-get
returns-in-None-get c =
    let places = c.self.inside.places.items in
    let terms = c.self.inside.terms.items in
    let place = c.in-Some.place.now in
    let kept : slice_get places c.args.column ≡ Some place =
    ap (λ (xs : List ℕ). slice_get xs c.args.column) (sym c.as_slice.ensures.value)
    ∙ slice_get_read c.as_slice.result.now (length c.as_slice.result.now) c.args.column place refl c.in-Some.ensures.lookup.3.0 (c.in-Some.ensures.lookup.3.1 place) in
    let none : slice_get terms place ≡ None = ap (λ (xs : List FormTerm). slice_get xs place) (sym c.as_slice-in-Some.ensures.value) ∙ slice_get_past c.as_slice-in-Some.result.now place c.in-None-get.ensures.lookup.3 in
    ap (λ (o : Option FormTerm). is_of o c.args.column) (sym none) ∙ found_at terms places c.args.column c.args.self.now (Some place) c.self.invariant c.self.view_is kept

pub returns-in-Some-get : goal.returns-in-Some-get
returns-in-Some-get c =
    let places = c.self.inside.places.items in
    let terms = c.self.inside.terms.items in
    let place = c.in-Some.place.now in
    let term = c.in-Some-get.term.now in
    let kept : slice_get places c.args.column ≡ Some place =
    ap (λ (xs : List ℕ). slice_get xs c.args.column) (sym c.as_slice.ensures.value)
    ∙ slice_get_read c.as_slice.result.now (length c.as_slice.result.now) c.args.column place refl c.in-Some.ensures.lookup.3.0 (c.in-Some.ensures.lookup.3.1 place) in
    let there : slice_get terms place ≡ Some term =
    ap (λ (xs : List FormTerm). slice_get xs place) (sym c.as_slice-in-Some.ensures.value)
    ∙ slice_get_read c.as_slice-in-Some.result.now (length c.as_slice-in-Some.result.now) place term refl c.in-Some-get.ensures.lookup.3.0 (c.in-Some-get.ensures.lookup.3.1 term) in
    ap (λ (t : FormTerm). t.column == c.args.column) c.term.view_is ∙ ap (λ (o : Option FormTerm). is_of o c.args.column) (sym there)
    ∙ found_at terms places c.args.column c.args.self.now (Some place) c.self.invariant c.self.view_is kept

pub get-requires-in-Some : goal.get-requires-in-Some
get-requires-in-Some c = grind (arith, common_steps)

pub get-requires : goal.get-requires
get-requires c = grind (arith, common_steps)
