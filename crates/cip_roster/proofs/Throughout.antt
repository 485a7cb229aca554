-- What handlers that are on throughout are told, by one event and by all that wait.
use Rattle.std.proofs.Common.{◌≡◌, ℕ, ◌-◌, ◌^◌, ◌<◌, ◌≤◌, List, [], ◌∷◌, ◌++◌, Some, Bool, true, false, cond, sym, ◌∙◌, ap, subst, refl, arith, append_assoc, All, ⊎_elim}
use Rattle.std.specs.Prelude.{slice_get, ◌&&◌, ◌||◌, not}
use Rattle.std.proofs.lemmas.Bool.{false≢true, cases_Bool, and_parts, and_from}
use Rattle.std.proofs.lemmas.Option.{same_Some}
use Rattle.cip_events.specs.declared.events.Event.{Event}
use Rattle.cip_events.specs.Events.{wants}
use Rattle.cip_plugin.specs.Calls.{Ask, OnEvent}
use Rattle.cip_plugin.specs.declared.kinds.Kind.TheVariants as kinds
use Rattle.cip_plugin.specs.Seats.{Seat, State, is_live, is_on, is_playing, is_settled}
use Rattle.cip_plugin.specs.Steps.{Step, Runs, calls_of, asks_in}
use Rattle.cip_plugin.specs.Calling.{same_kind}
use Rattle.cip_plugin.specs.Delivering.{ComesToAll, InTurn}
use Rattle.cip_plugin.specs.Wishing.{IsOnThroughout, hears, raised_in, to_each}
use Rattle.cip_plugin.proofs.Counting.{raised_in-append}
use Rattle.cip_plugin.proofs.Onward.{Later, playing_alive}
use Rattle.cip_plugin.proofs.Running.{Runs-append, run_follows}
use Rattle.cip_roster.specs.Wished.{WasTold}
use Rattle.cip_roster.proofs.Granting.{steps_ask}
use Rattle.cip_roster.proofs.Keeping.{at_place}
use Rattle.cip_roster.proofs.Trying.{in_turn_append, in_turn_one}

-- who is settled and not closed may be asked
pub settled_plays : (playing alive : Bool) → (playing || not alive) ≡ true → alive ≡ true → playing ≡ true
settled_plays true alive settled is = refl
settled_plays false true settled is = cc
settled_plays false false settled is = cc

-- who may be asked isn't closed
pub on_lives : (s : Seat) → is_on s ≡ true → is_live s ≡ true
on_lives s on = playing_alive s.standing.stage (and_parts (is_playing s.standing.stage) s.standing.on on).0

-- who is on before and after, and wasn't disabled, is so at each moment between at which it is settled
pub on_between : (s t u : Seat) → IsOnThroughout s u → Later s t → Later t u → is_settled t ≡ true
    → (is_live u ≡ true) → IsOnThroughout s t × IsOnThroughout t u
on_between s t u on first second settled alive =
    let up : s.offs ≤ t.offs = first.offs in
    let further : t.offs ≤ u.offs = second.offs in
    let back : u.offs ≡ s.offs = on.offs in
    let counted : s.offs < 2 ^ 64 - 1 = on.counted in
    let same : t.offs ≡ s.offs = omega arith in
    let enabled : t.standing.on ≡ true =
    first.on (and_parts (is_playing s.standing.stage) s.standing.on on.on_before).1 same counted in
    let lives : is_live t ≡ true =
    ⊎_elim (λ is. is) (λ gone. absurd (false≢true (sym (second.gone gone) ∙ alive))) (cases_Bool (is_live t)) in
    let plays : is_playing t.standing.stage ≡ true =
    settled_plays (is_playing t.standing.stage) (is_live t) settled lives in
    let now : is_on t ≡ true = and_from (is_playing t.standing.stage) t.standing.on plays enabled in (
      record { on_before = on.on_before; on_after = now; offs = same; counted = counted },
      record { on_before = now; on_after = on.on_after; offs = omega arith; counted = omega arith },
    )

-- a later seat hears the same events
pub hears_later : (event : Event) (s t : Seat) → Later s t → hears event t ≡ hears event s
hears_later event s t later =
    ap (λ k. same_kind kinds.EventHandler k && wants t.interest event.kind) later.kind
    ∙ ap (λ m. same_kind kinds.EventHandler s.who.kind && wants m event.kind) later.interest

-- what a plugin is to be told of some events and of others
pub to_each-append : (seat : Seat) (xs ys : List Event) → to_each seat (xs ++ ys) ≡ to_each seat xs ++ to_each seat ys
to_each-append seat [] ys = refl
to_each-append seat (x ∷ xs) ys =
    elim (hears x seat) as (λ b. cond b (OnEvent x ∷ to_each seat (xs ++ ys)) (to_each seat (xs ++ ys))
    ≡ cond b (OnEvent x ∷ to_each seat xs) (to_each seat xs) ++ to_each seat ys) [
      | true ↦ ap (λ (rest : List Ask). OnEvent x ∷ rest) (to_each-append seat xs ys)
      | false ↦ to_each-append seat xs ys
    ]

-- some events were told so far, and others wait
pub record ToldSoFar (node : ℕ) (events told : List Event) (a b : State) (waits : List Event) : Type 0 where
  pub steps : List Step
  pub run : Runs a steps b
  pub comes : InTurn ComesToAll told a steps b
  pub each : (id : ℕ) (seat later : Seat) → slice_get a.seats id ≡ Some seat → slice_get b.seats id ≡ Some later
      → IsOnThroughout seat later → asks_in (calls_of id steps) ≡ to_each seat told
  pub order : told ++ waits ≡ events ++ raised_in node steps

-- one event more was told
pub told_more : (node : ℕ) (events told : List Event) (event : Event) (a b c : State) (waits later : List Event)
    → All (λ seat. is_settled seat ≡ true) b.seats
    → ToldSoFar node events told a b (event ∷ waits) → WasTold node event b c waits later
    → ToldSoFar node events (told ++ event ∷ []) a c later
told_more node events told event a b c waits later settled so_far was = record {
  steps = so_far.steps ++ was.steps;
  run = Runs-append so_far.steps was.steps a b c so_far.run was.run;
  comes = in_turn_append ComesToAll told (event ∷ []) a b c so_far.steps was.steps so_far.comes
      (in_turn_one ComesToAll event b c was.steps was.comes);
  each = λ id seat last at now on.
      let first = run_follows so_far.steps a b id seat so_far.run at in
      let second = run_follows was.steps b c id first.now was.run first.at in
      let own : second.now ≡ last = same_Some second.now last (sym second.at ∙ now) in
      let onward : Later first.now last = subst (λ (t : Seat). Later first.now t) own second.later in
      let is : is_settled first.now ≡ true =
      at_place (λ s. is_settled s ≡ true) b.seats id first.now first.at settled in
      let parts = on_between seat first.now last on first.later onward is (on_lives last on.on_after) in
      steps_ask id so_far.steps was.steps
      ∙ ap (λ (front : List Ask). front ++ asks_in (calls_of id was.steps))
      (so_far.each id seat first.now at first.at parts.0)
      ∙ ap (λ (rest : List Ask). to_each seat told ++ rest)
      (was.each id first.now last first.at now parts.1
      ∙ ap (λ (b : Bool). cond b (OnEvent event ∷ []) []) (hears_later event seat first.now first.later))
      ∙ sym (to_each-append seat told (event ∷ []));
  order = append_assoc told (event ∷ []) later
      ∙ ap (λ (rest : List Event). told ++ event ∷ rest) was.raised
      ∙ sym (append_assoc told (event ∷ waits) (raised_in node was.steps))
      ∙ ap (λ (front : List Event). front ++ raised_in node was.steps) so_far.order
      ∙ append_assoc events (raised_in node so_far.steps) (raised_in node was.steps)
      ∙ ap (λ (rest : List Event). events ++ rest) (sym (raised_in-append node so_far.steps was.steps));
}
