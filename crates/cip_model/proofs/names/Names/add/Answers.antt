use Rattle.std.proofs.lemmas.Grind.{common_steps}
use Rattle.std.proofs.Common.{◌≡◌, ◌+◌, ◌++◌, ◌∷◌, [], ℕ, List, None, length, ap, ◌∙◌, arith, Some, take, refl, sym, ap₂, subst}
use Rattle.cip_problem.specs.Names.{number_of}
use Rattle.cip_model.specs.Keys.{names_of, pieces_from, number_in, AreOrdered, AreRising}
use Rattle.cip_model.specs.declared.names.Names.TheInside.{Inside}
use Rattle.std.proofs.lemmas.List.{take-append-le, take_all}
use Rattle.std.specs.Prelude.{slice_get}
use Rattle.cip_model.proofs.NamePlaces.{found_push, apart_after}
use Rattle.cip_model.proofs.NamePieces.{length-pieces, pieces_after, rising_after}
use Rattle.cip_model.proofs.names.Names.add.Goals.{After-push_reserved, After-truncate}
use Rattle.cip_model.proofs.names.Names.add.Goals as goal

-- the pieces are the names and the new one, and the ends rise
added : (c : After-push_reserved)
    → (pieces_from 0 c.written.new.bytes.items c.push_reserved.new.self.items ≡ names_of c.self.inside ++ c.args.name.items ∷ [])
    × AreRising 0 c.push_reserved.new.self.items (length c.written.new.bytes.items)
added c =
    let old : List ℕ = c.self.inside.bytes.items in
    let ends : List ℕ = c.self.inside.ends.items in
    let new : List ℕ = c.args.name.items in
    let bytes : List ℕ = c.written.new.bytes.items in
    let more : List ℕ = c.push_reserved.new.self.items in
    let end : ℕ = c.in-Ok.end in
    let behind : bytes ≡ old ++ new = c.in-Ok.ensures.written.0 ∙ ap (λ name. old ++ name) c.as_slice.ensures.value in
    let ended : more ≡ ends ++ end ∷ [] = c.push_reserved.ensures.items ∙ ap (λ items. items ++ end ∷ []) c.in-Ok.ensures.ends in
    let place : end ≡ length old + length new =
    omega (arith, c.in-Ok.ensures.written.1, ap length c.as_slice.ensures.value, c.self.inside.bytes.ok.0) in (
      pieces_after old ends new bytes more end c.self.invariant.rising behind ended place,
      rising_after old ends new bytes more end c.self.invariant.rising behind ended place,
    )

pub written-requires : goal.written-requires
written-requires c = c.self.invariant.rising

pub push_reserved-requires : goal.push_reserved-requires
push_reserved-requires c = c.in-Ok.ensures.written.2

pub invariant_of-self-2 : goal.invariant_of-self-2
invariant_of-self-2 c =
    let new : List ℕ = c.args.name.items in
    let names : List (List ℕ) = names_of c.self.inside in
    let pieces : List (List ℕ) = pieces_from 0 c.written.new.bytes.items c.push_reserved.new.self.items in
    let told = added (goal.at.invariant_of-self-2 c).After-push_reserved in
    let count : c.len-number.result ≡ length names =
    omega (
      arith,
      c.len-number.ensures,
      c.self.inside.ends.ok.0,
      length-pieces 0 c.self.inside.bytes.items c.self.inside.ends.items,
    ) in
    let absent : number_of names new ≡ None = rw (← c.self.view_is) at c.requires in
    record {
      rising = told.1;
      found = λ name.
          found_push names pieces new name c.len-number.result _ _ count absent (c.in_default-put.ensures.ok name)
          (c.self.invariant.found name) told.0;
      apart = apart_after names pieces new absent c.self.invariant.apart told.0;
    }

pub returns-clause-ok : goal.returns-clause-ok
returns-clause-ok c = rw (← c.self.view_is) (added (goal.at.returns-clause-ok c).After-push_reserved).0

-- names whose bytes, ends and order are as they were
same_ordered : (old new : Inside) → new.bytes.items ≡ old.bytes.items → new.ends.items ≡ old.ends.items → ((other : List ℕ) → number_in new.order other ≡ number_in old.order other) → AreOrdered old → AreOrdered new
same_ordered old new eb ee eo h =
    let names : names_of new ≡ names_of old = ap₂ (pieces_from 0) eb ee in
    record {
      rising = rw (eb, ee) h.rising;
      found = λ name. eo name ∙ h.found name ∙ ap (λ ns. number_of ns name) (sym names);
      apart = λ number name.
          subst
          (λ (ns : List (List ℕ)). slice_get ns number ≡ Some name → number_of ns name ≡ Some number) (sym names)
          (h.apart number name);
    }

restored : (n : ℕ) (old more all : List ℕ) → n ≡ length old → all ≡ old ++ more → take n all ≡ old
restored n old more all en ea =
    rw (en, ea) (take-append-le (length old) old more (omega arith) ∙ take_all (length old) old (omega arith))

bytes_back : (c : After-truncate) → c.truncate.new.self.items ≡ c.self.inside.bytes.items
bytes_back c =
    c.truncate.ensures.items
    ∙ restored c.len-start.result c.self.inside.bytes.items c.as_slice.result.now c.written.new.bytes.items
    (omega (arith, c.len-start.ensures, c.self.inside.bytes.ok.0)) c.in-Ok.ensures.written.0

pub invariant_of-self-in-Err : goal.invariant_of-self-in-Err
invariant_of-self-in-Err c =
    same_ordered c.self.inside _ (bytes_back c) c.in-Ok.ensures.ends c.in-Err.ensures.err c.self.invariant

pub returns-in-Err-clause-err : goal.returns-in-Err-clause-err
returns-in-Err-clause-err c =
    ap₂ (pieces_from 0) (bytes_back c) c.in-Ok.ensures.ends ∙ c.self.view_is

pub invariant_of-self : goal.invariant_of-self
invariant_of-self c =
    same_ordered c.self.inside _ c.in_default.ensures.written c.in_default.ensures.ends (λ other. refl)
    c.self.invariant

pub returns-in_default-clause-err : goal.returns-in_default-clause-err
returns-in_default-clause-err c =
    ap₂ (pieces_from 0) c.in_default.ensures.written c.in_default.ensures.ends ∙ c.self.view_is

pub put-requires : goal.put-requires
put-requires c = grind (arith, common_steps)

pub returns-in_default-clause-ok : goal.returns-in_default-clause-ok
returns-in_default-clause-ok c = grind (arith, common_steps)

pub returns-in-Err-clause-ok : goal.returns-in-Err-clause-ok
returns-in-Err-clause-ok c = grind (arith, common_steps)

pub returns-clause-err : goal.returns-clause-err
returns-clause-err c = grind (arith, common_steps)
