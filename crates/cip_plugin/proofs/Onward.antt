-- How a seat goes on: who was closed stays so, and who is on and wasn't disabled is on still.
use Rattle.std.proofs.Common.{◌≡◌, ◌+◌, ◌-◌, ◌^◌, ◌<◌, ◌≤◌, min, max, Some, Bool, true, false, sym, ◌∙◌, ap, refl, arith}
use Rattle.std.specs.Prelude.{◌&&◌, not, ℤ}
use Rattle.std.proofs.lemmas.Bool.{false≢true, and_parts}
use Rattle.std.proofs.lemmas.Option.{cond_some}
use Rattle.cip_plugin.specs.declared.kinds.Kind.{Kind}
use Rattle.cip_plugin.specs.Calls.{Ask, Separate, Propagate, Price, Search, Branch, Enforce, OnEvent, Call, Init, InitSolve, Asked, ExitSolve, Exit}
use Rattle.cip_plugin.specs.declared.stages.Stage.{Stage}
use Rattle.cip_plugin.specs.declared.stages.Stage.TheVariants.{Fresh, Begun, Playing, Left, Gone}
use Rattle.cip_plugin.specs.Seats.{Standing, Seat, is_alive, is_playing}
use Rattle.cip_plugin.specs.Lives.{turn, word_of, word_of_ask, same_stage, turned_from, asked_at, plays}
use Rattle.cip_plugin.specs.Steps.{IsCalled, IsTurned}

-- a seat and what it is later
pub record Later (s t : Seat) : Type 0 where
  pub kind : t.who.kind ≡ s.who.kind
  pub interest : t.interest ≡ s.interest
  pub offs : s.offs ≤ t.offs
  pub on : s.standing.on ≡ true → t.offs ≡ s.offs → s.offs < 2 ^ 64 - 1 → t.standing.on ≡ true
  pub gone : is_alive s.standing.stage ≡ false → is_alive t.standing.stage ≡ false

pub Later-refl : (s : Seat) → Later s s
Later-refl s = record {
  kind = refl;
  interest = refl;
  offs = omega arith;
  on = λ on same few. on;
  gone = λ gone. gone;
}

pub Later-trans : (s t u : Seat) → Later s t → Later t u → Later s u
Later-trans s t u first second = record {
  kind = second.kind ∙ first.kind;
  interest = second.interest ∙ first.interest;
  offs = omega arith;
  on = λ on same few.
      let up : s.offs ≤ t.offs = first.offs in
      let further : t.offs ≤ u.offs = second.offs in
      let still : t.offs ≡ s.offs = omega arith in
      second.on (first.on on still few) (omega arith) (omega arith);
  gone = λ gone. second.gone (first.gone gone);
}

-- who is asked may be asked, and stands as before
pub asked_stands : (fits : Bool) (now later : Standing) → asked_at fits now ≡ Some later
    → (is_playing now.stage ≡ true) × (now.on ≡ true) × (now ≡ later)
asked_stands fits now later asked =
    let parts = cond_some (fits && (is_playing now.stage && now.on)) now later asked in
    let may = and_parts fits (is_playing now.stage && now.on) parts.0 in
    let both = and_parts (is_playing now.stage) now.on may.1 in
    (both.0, both.1, parts.1)

-- a stage in which a plugin may be asked is no end
pub playing_alive : (stage : Stage) → is_playing stage ≡ true → is_alive stage ≡ true
playing_alive Fresh is = refl
playing_alive Begun is = refl
playing_alive Playing is = refl
playing_alive Left is = refl
playing_alive Gone is = cc

-- a stage that is one which is no end
same_alive : (from stage : Stage) → same_stage from stage ≡ true → is_alive from ≡ true → is_alive stage ≡ true
same_alive from Fresh same alive = refl
same_alive from Begun same alive = refl
same_alive from Playing same alive = refl
same_alive from Left same alive = refl
same_alive Fresh Gone same alive = cc
same_alive Begun Gone same alive = cc
same_alive Playing Gone same alive = cc
same_alive Left Gone same alive = cc
same_alive Gone Gone same alive = cc

-- what a turn from a stage to another leaves
pub turned_keeps : (from to : Stage) (now later : Standing) → is_alive from ≡ true
    → turned_from from now to ≡ Some later → (later.on ≡ now.on) × (is_alive now.stage ≡ true)
turned_keeps from to now later alive turned =
    let parts = cond_some (same_stage from now.stage) (record { stage = to; on = now.on }) later turned in
    (sym (ap (λ (s : Standing). s.on) parts.1), same_alive from now.stage parts.0 alive)

-- where a turn leads
pub turned_to : (from to : Stage) (now later : Standing) → turned_from from now to ≡ Some later → later.stage ≡ to
turned_to from to now later turned =
    ap (λ (s : Standing). s.stage)
    (sym (cond_some (same_stage from now.stage) (record { stage = to; on = now.on }) later turned).1)

-- what being asked leaves
asked_keeps : (fits : Bool) (now later : Standing) → asked_at fits now ≡ Some later
    → (later.on ≡ now.on) × (is_alive now.stage ≡ true)
asked_keeps fits now later asked =
    let stands = asked_stands fits now later asked in
    (ap (λ (s : Standing). s.on) (sym stands.2), playing_alive now.stage stands.0)

pub ask_keeps : (kind : Kind) (now : Standing) (ask : Ask) (later : Standing)
    → turn kind now (word_of_ask ask) ≡ Some later → (later.on ≡ now.on) × (is_alive now.stage ≡ true)
ask_keeps kind now Separate later turned = asked_keeps (plays kind (word_of_ask Separate)) now later turned
ask_keeps kind now Propagate later turned = asked_keeps (plays kind (word_of_ask Propagate)) now later turned
ask_keeps kind now (Price block costs) later turned =
    asked_keeps (plays kind (word_of_ask (Price block costs))) now later turned
ask_keeps kind now Search later turned = asked_keeps (plays kind (word_of_ask Search)) now later turned
ask_keeps kind now Branch later turned = asked_keeps (plays kind (word_of_ask Branch)) now later turned
ask_keeps kind now Enforce later turned = asked_keeps (plays kind (word_of_ask Enforce)) now later turned
ask_keeps kind now (OnEvent event) later turned =
    asked_keeps (plays kind (word_of_ask (OnEvent event))) now later turned

-- who is asked stands as before
pub ask_stands : (kind : Kind) (now : Standing) (ask : Ask) (later : Standing)
    → turn kind now (word_of_ask ask) ≡ Some later → now ≡ later
ask_stands kind now Separate later turned =
    (asked_stands (plays kind (word_of_ask Separate)) now later turned).2
ask_stands kind now Propagate later turned =
    (asked_stands (plays kind (word_of_ask Propagate)) now later turned).2
ask_stands kind now (Price block costs) later turned =
    (asked_stands (plays kind (word_of_ask (Price block costs))) now later turned).2
ask_stands kind now Search later turned = (asked_stands (plays kind (word_of_ask Search)) now later turned).2
ask_stands kind now Branch later turned = (asked_stands (plays kind (word_of_ask Branch)) now later turned).2
ask_stands kind now Enforce later turned = (asked_stands (plays kind (word_of_ask Enforce)) now later turned).2
ask_stands kind now (OnEvent event) later turned =
    (asked_stands (plays kind (word_of_ask (OnEvent event))) now later turned).2

-- a call leaves a plugin enabled or disabled as it was, and comes to none that was closed
pub call_keeps : (kind : Kind) (now : Standing) (call : Call) (later : Standing)
    → turn kind now (word_of call) ≡ Some later → (later.on ≡ now.on) × (is_alive now.stage ≡ true)
call_keeps kind now (Init was) later turned = turned_keeps Fresh Begun now later refl turned
call_keeps kind now (InitSolve was) later turned = turned_keeps Begun Playing now later refl turned
call_keeps kind now ExitSolve later turned = turned_keeps Playing Left now later refl turned
call_keeps kind now Exit later turned = turned_keeps Left Gone now later refl turned
call_keeps kind now (Asked ask given) later turned = ask_keeps kind now ask later turned

-- a seat behind a call
pub Later-called : (call : Call) (s t : Seat) → IsCalled call s t → Later s t
Later-called call s t called =
    let keeps = call_keeps s.who.kind s.standing call t.standing called.turn in
    let counts : t.offs ≡ s.offs = ap (λ (seat : Seat). seat.offs) called.same in
    record {
      kind = called.kind;
      interest = ap (λ (seat : Seat). seat.interest) called.same;
      offs = omega arith;
      on = λ on same few. keeps.0 ∙ on;
      gone = λ gone. absurd (false≢true (sym gone ∙ keeps.1));
    }

-- a seat behind being disabled or enabled
pub Later-turned : (on : Bool) (s t : Seat) → IsTurned on s t → Later s t
Later-turned true s t turned =
    let counts : t.offs ≡ s.offs = ap (λ (seat : Seat). seat.offs) turned.same in
    let parts = cond_some (is_playing s.standing.stage && not s.standing.on) (record s.standing { on = true })
    t.standing turned.turn in
    record {
      kind = ap (λ (seat : Seat). seat.who.kind) turned.same;
      interest = ap (λ (seat : Seat). seat.interest) turned.same;
      offs = omega arith;
      on = λ on same few. sym (ap (λ (standing : Standing). standing.on) parts.1);
      gone = λ gone. ap (λ (standing : Standing). is_alive standing.stage) (sym parts.1) ∙ gone;
    }
Later-turned false s t turned =
    let counts : t.offs ≡ max s.offs (min (s.offs + 1) (2 ^ 64 - 1)) = ap (λ (seat : Seat). seat.offs) turned.same in
    let parts = cond_some (is_playing s.standing.stage && s.standing.on) (record s.standing { on = false })
    t.standing turned.turn in
    record {
      kind = ap (λ (seat : Seat). seat.who.kind) turned.same;
      interest = ap (λ (seat : Seat). seat.interest) turned.same;
      offs = omega arith;
      on = λ on same few. absurd (omega arith);
      gone = λ gone. ap (λ (standing : Standing). is_alive standing.stage) (sym parts.1) ∙ gone;
    }

-- a seat behind a new priority
pub Later-ranked : (priority : ℤ) (s t : Seat) → t ≡ record s { priority = priority } → Later s t
Later-ranked priority s t ranked =
    let counts : t.offs ≡ s.offs = ap (λ (seat : Seat). seat.offs) ranked in
    record {
      kind = ap (λ (seat : Seat). seat.who.kind) ranked;
      interest = ap (λ (seat : Seat). seat.interest) ranked;
      offs = omega arith;
      on = λ on same few. ap (λ (seat : Seat). seat.standing.on) ranked ∙ on;
      gone = λ gone. ap (λ (seat : Seat). is_alive seat.standing.stage) ranked ∙ gone;
    }
