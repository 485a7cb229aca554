use Rattle.std.proofs.lemmas.Grind.{common_steps}
use Rattle.std.proofs.Common.{◌≡◌, ◌∙◌, length, ap, refl, sym, subst, arith, Some}
use Rattle.std.proofs.lemmas.List.{length-take-le}
use Rattle.cip_tree.specs.Walks.{Way, last_stop, IsWalked, EndsThere, IsRegionAt}
use Rattle.cip_tree.proofs.Walking.{rising_last, walked_kept, there_at_last, held_at_last}
use Rattle.cip_tree.proofs.walks.Walk.go_back.Goals as goal

pub invariant_of-self : goal.invariant_of-self
invariant_of-self c =
    let last : last_stop c.self.inside.stops.items ≡ Some c.in-Some.stop = ap (λ (w : Way). last_stop w.stops) c.self.view_is ∙ sym c.last.ensures ∙ c.in-Some.is in
    let rising = rising_last c.self.inside.stops.items c.in-Some.stop c.self.invariant.0 last in
    let mark = held_at_last c.self.inside.domain c.self.inside.stops.items c.in-Some.stop c.self.invariant.1 last in
    let long : length c.undo_to.new.self.before ≡ c.in-Some.stop.mark = ap length c.undo_to.ensures.before ∙ length-take-le c.in-Some.stop.mark c.self.inside.domain.before mark in
    (c.self.invariant.0, λ k d l. omega (arith, rising k d l, long))

pub returns-in-Some : goal.returns-in-Some
returns-in-Some c = λ root slots ids place w e.
    let last : last_stop c.self.inside.stops.items ≡ Some c.in-Some.stop = ap (λ (t : Way). last_stop t.stops) c.self.view_is ∙ sym c.last.ensures ∙ c.in-Some.is in
    let rising = rising_last c.self.inside.stops.items c.in-Some.stop c.self.invariant.0 last in
    let old : Way = record { domain = c.self.inside.domain; stops = c.self.inside.stops.items } in
    let new : Way = record { domain = c.undo_to.new.self; stops = c.self.inside.stops.items } in
    let walked : IsWalked root slots ids old = subst (IsWalked root slots ids) (sym c.self.view_is) w in
    let ends : EndsThere slots c.self.inside.stops.items place = subst (λ (t : Way). EndsThere slots t.stops place) (sym c.self.view_is) e in
    record {
      walked = walked_kept root slots ids old new refl (λ mark l. c.undo_to.ensures.earlier mark (omega (arith, l))) (λ k d l. c.undo_to.ensures.earlier _ (rising k d l)) walked;
      region = subst (IsRegionAt root slots place) (sym c.undo_to.ensures.restored) (there_at_last root slots ids old place c.in-Some.stop walked ends last);
    }

pub returns-in_default : goal.returns-in_default
returns-in_default c = grind (arith, common_steps)

pub undo_to-requires : goal.undo_to-requires
undo_to-requires c =
    let last : last_stop c.self.inside.stops.items ≡ Some c.in-Some.stop = ap (λ (w : Way). last_stop w.stops)
    c.self.view_is ∙ sym c.last.ensures ∙ c.in-Some.is in
    record { held = held_at_last c.self.inside.domain c.self.inside.stops.items c.in-Some.stop c.self.invariant.1 last }
