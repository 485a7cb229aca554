use Rattle.std.proofs.lemmas.Result.{IfOk-from_err}
use Rattle.std.proofs.lemmas.Grind.{common_steps}
use Rattle.std.proofs.Common.{◌≡◌, ◌++◌, ◌∷◌, [], ap, sym, subst, ◌∙◌, arith, List}
use Rattle.std.specs.Prelude.{vec_len}
use Rattle.std.proofs.lemmas.Bool.{eqb-true}
use Rattle.std.proofs.lemmas.List.{nil_from_length}
use Rattle.cip_text_rules.specs.MpsState.{Held}
use Rattle.cip_mps.specs.Entries.{Entry, AreRising}
use Rattle.cip_mps.specs.GroupEntries.{near_entry, entries_of}
use Rattle.cip_mps.proofs.Numbers.{near_pushed, far_pushed, rising_pushed}
use Rattle.cip_mps.proofs.groups.Group.push.Goals as goal

pub invariant_of-self-in-Some : goal.invariant_of-self-in-Some
invariant_of-self-in-Some c =
    let near = c.self.inside.near.items in
    let far = c.self.inside.far.items in
    let e : Entry = record { row = c.args.row; held = c.args.held } in
    let zero = eqb-true (vec_len c.self.inside.far) 0 (sym c.is_empty.ensures ∙ c.if-is_empty.true) in
    let none : far ≡ [] = nil_from_length far (omega (arith, zero, c.self.inside.far.ok.0)) in
    let is : near_entry c.in-Some.near ≡ e = c.in-Some.ensures in
    let told : entries_of c.push.new.self.items far ≡ entries_of near far ++ e ∷ [] = ap (λ xs. entries_of xs far) c.in_ok-push.ensures.items ∙ near_pushed near far c.in-Some.near e none is in
    subst AreRising (sym told) (rising_pushed (entries_of near far) e c.self.invariant (rw (← c.self.view_is) at c.requires))

pub invariant_of-self-2 : goal.invariant_of-self-2
invariant_of-self-2 c =
    let near = c.self.inside.near.items in
    let far = c.self.inside.far.items in
    let e : Entry = record { row = c.args.row; held = c.args.held } in
    let is : ◌≡◌ {A = Entry} (record { row = c.args.row; held = record { column = c.held.inside.column; value = c.held.inside.value } }) e = ap (λ (h : Held). record { row = c.args.row; held = h }) c.held.view_is in
    let told : entries_of near c.push-2.new.self.items ≡ entries_of near far ++ e ∷ [] =
    ap (entries_of near) c.in_ok-push-2.ensures.items ∙ far_pushed near far _ ∙ ap (λ (x : Entry). entries_of near far ++ x ∷ []) is in
    subst AreRising (sym told) (rising_pushed (entries_of near far) e c.self.invariant (rw (← c.self.view_is) at c.requires))

pub returns-in-Some-clause-ok : goal.returns-in-Some-clause-ok
returns-in-Some-clause-ok c =
    let near = c.self.inside.near.items in
    let far = c.self.inside.far.items in
    let e : Entry = record { row = c.args.row; held = c.args.held } in
    let zero = eqb-true (vec_len c.self.inside.far) 0 (sym c.is_empty.ensures ∙ c.if-is_empty.true) in
    let none : far ≡ [] = nil_from_length far (omega (arith, zero, c.self.inside.far.ok.0)) in
    ap (λ xs. entries_of xs far) c.in_ok-push.ensures.items ∙ near_pushed near far c.in-Some.near e none c.in-Some.ensures ∙ ap (λ (es : List Entry). es ++ e ∷ []) c.self.view_is

pub returns-clause-ok : goal.returns-clause-ok
returns-clause-ok c =
    let near = c.self.inside.near.items in
    let far = c.self.inside.far.items in
    let e : Entry = record { row = c.args.row; held = c.args.held } in
    let is : ◌≡◌ {A = Entry} (record { row = c.args.row; held = record { column = c.held.inside.column; value = c.held.inside.value } }) e = ap (λ (h : Held). record { row = c.args.row; held = h }) c.held.view_is in
    ap (entries_of near) c.in_ok-push-2.ensures.items ∙ far_pushed near far _ ∙ ap (λ (x : Entry). entries_of near far ++ x ∷ []) is ∙ ap (λ (es : List Entry). es ++ e ∷ []) c.self.view_is

pub invariant_of-self : goal.invariant_of-self
invariant_of-self c = grind (arith, common_steps)

pub invariant_of-self-in_err-push-2 : goal.invariant_of-self-in_err-push-2
invariant_of-self-in_err-push-2 c = grind (arith, common_steps)

pub returns-in-Some-clause-err : goal.returns-in-Some-clause-err
returns-in-Some-clause-err c = grind (arith, common_steps)

pub returns-clause-err : goal.returns-clause-err
returns-clause-err c = grind (arith, common_steps)

pub returns-in_err-push-clause-ok : goal.returns-in_err-push-clause-ok
returns-in_err-push-clause-ok c = IfOk-from_err c.from_residual.result _ c.from_residual.ensures.0

pub returns-in_err-push-2-clause-ok : goal.returns-in_err-push-2-clause-ok
returns-in_err-push-2-clause-ok c = IfOk-from_err c.from_residual-in_err-push-2.result _ c.from_residual-in_err-push-2.ensures.0
