use Rattle.std.proofs.lemmas.Grind.{common_steps}
use Rattle.std.proofs.Common.{ℕ, List, Vec, Global, ◌≡◌, ◌==◌, ◌∙◌, None, Some, refl, sym, ap, arith}
use Rattle.std.specs.BTreeMap.{get_by, insert_entry}
use Rattle.std.specs.Cmp.Lexicographic.{slice_cmp}
use Rattle.std.specs.Ordering.{nat_cmp}
use Rattle.std.specs.Str.{bytes_eq}
use Rattle.std.proofs.lemmas.Map.Text.{is_eq-slice_cmp}
use Rattle.cip_model.specs.Keys.{key_of, number_by}
use Rattle.cip_model.proofs.NameKeys.{short_put, long_put}
use Rattle.cip_model.proofs.NamePlaces.{same, in_order, order_push, is_eq-nat_cmp, same_nat}
use Rattle.cip_model.proofs.name_order.Order.put.Goals as goal

pub returns-in_ok-insert-in-Some-clause-ok : goal.returns-in_ok-insert-in-Some-clause-ok
returns-in_ok-insert-in-Some-clause-ok c =
    let old = c.args.self.now in
    let name : List ℕ = c.args.name.items in
    let key : ℕ = c.in-Some.key in
    let has : key_of name ≡ Some key = ap key_of (sym c.as_slice.ensures.value) ∙ sym c.key_of.ensures ∙ c.in-Some.is in
    let absent : get_by (λ item. nat_cmp key item) old.short ≡ None = ap (λ o. number_by o old name) (sym has) ∙ c.requires in
    let own : ℕ → ℕ = λ item. item in
    let entries : c.insert.new.self.entries ≡ insert_entry (λ x y. nat_cmp x y) old.short.entries key c.args.number = c.in_ok-insert-in-Some.ensures.entries in
    short_put old (record { short = c.insert.new.self; long = old.long }) name key c.args.number has (λ other. refl) (λ j.
    ap (λ es. in_order own nat_cmp (λ x y. x == y) is_eq-nat_cmp same_nat es j) entries
    ∙ order_push own nat_cmp (λ x y. x == y) is_eq-nat_cmp same_nat old.short.entries key c.args.number j absent)

pub returns-in_ok-insert-in-None-clause-ok : goal.returns-in_ok-insert-in-None-clause-ok
returns-in_ok-insert-in-None-clause-ok c =
    let old = c.args.self.now in
    let name : List ℕ = c.args.name.items in
    let has : key_of name ≡ None = ap key_of (sym c.as_slice.ensures.value) ∙ sym c.key_of.ensures ∙ c.in-None.is in
    let absent : get_by (λ item. slice_cmp nat_cmp name item.items) old.long ≡ None = ap (λ o. number_by o old name) (sym has) ∙ c.requires in
    let items : Vec ℕ Global → List ℕ = λ item. item.items in
    let cmp : List ℕ → List ℕ → _ = slice_cmp nat_cmp in
    let entries : c.insert-in-None.new.self.entries ≡ insert_entry (λ x y. slice_cmp nat_cmp (items x) (items y)) old.long.entries c.args.name c.args.number = c.in_ok-insert-in-None.ensures.entries in
    long_put old (record { short = old.short; long = c.insert-in-None.new.self }) name c.args.number has (λ key other. refl) (λ other.
    ap (λ es. in_order items cmp bytes_eq is_eq-slice_cmp same es other) entries
    ∙ order_push items cmp bytes_eq is_eq-slice_cmp same old.long.entries c.args.name c.args.number other absent)

pub returns-in_ok-insert-in-Some-clause-err : goal.returns-in_ok-insert-in-Some-clause-err
returns-in_ok-insert-in-Some-clause-err c = grind (arith, common_steps)

pub returns-in_ok-insert-in-None-clause-err : goal.returns-in_ok-insert-in-None-clause-err
returns-in_ok-insert-in-None-clause-err c = grind (arith, common_steps)

pub returns-in_err-insert-in-None-clause-err : goal.returns-in_err-insert-in-None-clause-err
returns-in_err-insert-in-None-clause-err c = grind (arith, common_steps)
