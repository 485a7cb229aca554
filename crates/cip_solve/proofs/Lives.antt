-- The lives of the plugins that served in a search are whole.
use Rattle.std.proofs.Common.{◌≡◌, ℕ, zero, suc, List, [], ◌∷◌, ◌++◌, map, Some, true, false, refl, ap, ◌∙◌, subst}
use Rattle.std.specs.Prelude.{slice_get}
use Rattle.std.proofs.lemmas.Option.{none-some, same_Some}
use Rattle.cip_events.specs.declared.traces.TraceLine.{TraceLine}
use Rattle.cip_plugin.specs.Calls.{Call}
use Rattle.cip_plugin.specs.Telling.{Heard}
use Rattle.cip_plugin.specs.Who.{Who}
use Rattle.cip_plugin.specs.declared.kinds.Kind.{Kind}
use Rattle.cip_plugin.specs.declared.stages.Stage.{Stage}
use Rattle.cip_plugin.specs.declared.stages.Stage.TheVariants.{Fresh, Begun, Playing, Left, Gone}
use Rattle.cip_plugin.specs.Lives.{LivesAreTold, life, newborn, words_of, word_of, callbacks}
use Rattle.cip_plugin.specs.Seats.{Standing, Seat, State, is_alive, is_live}
use Rattle.cip_plugin.specs.Steps.{Step, IsSeated, Runs, calls_of}
use Rattle.cip_plugin.proofs.Running.{Runs-append, run_lives, run_told}
use Rattle.cip_plugin.proofs.Tracing.{run_tells}
use Rattle.cip_roster.specs.Begun.{AreSeated, all_begin}
use Rattle.cip_roster.specs.Closed.{backs, shelf_backs, all_end}
use Rattle.cip_roster.proofs.Beginning.{begun_lives}
use Rattle.cip_roster.proofs.Keeping.{at_place}
use Rattle.cip_solve.specs.WholeLives.{IsWholeLife, LivesAreWhole}

-- lines are kept over a run, where they were
run_kept : (steps : List Step) (a b : State) → Runs a steps b → b.kept ≡ a.kept
run_kept [] a b run = ap (λ (s : State). s.kept) run
run_kept (step ∷ steps) a b run = run_kept steps run.0 b run.2 ∙ run.1.kept

-- who stood at a place came to the seat of its number
seated_at : (whos : List Who) (seats : List Seat) (id : ℕ) (who : Who) → AreSeated whos seats → slice_get whos id ≡ Some who → (seat : Seat) × (slice_get seats id ≡ Some seat) × IsSeated who seat
seated_at [] seats zero who s at = absurd (none-some who at)
seated_at [] seats (suc id) who s at = absurd (none-some who at)
seated_at (other ∷ whos) [] id who s at = absurd s
seated_at (other ∷ whos) (seat ∷ seats) zero who s at = (seat, refl, subst (λ w. IsSeated w seat) (same_Some other who at) s.0)
seated_at (other ∷ whos) (seat ∷ seats) (suc id) who s at = seated_at whos seats id who s.1 at

-- one that isn't live was closed
gone_stage : (stage : Stage) → is_alive stage ≡ false → stage ≡ Gone
gone_stage Fresh e = absurd (cc)
gone_stage Begun e = absurd (cc)
gone_stage Playing e = absurd (cc)
gone_stage Left e = absurd (cc)
gone_stage Gone e = refl

closed_life : (kind : Kind) (now : Standing) (lines others : List TraceLine) (id : ℕ) → is_alive now.stage ≡ false → others ≡ lines → life kind (Some newborn) (words_of id lines) ≡ Some now → IsWholeLife kind (words_of id others)
closed_life kind now lines others id gone same told = record {
  on = now.on;
  closed = ap (λ l. life kind (Some newborn) (words_of id l)) same ∙ (told ∙ ap (λ stage. Some (record { stage = stage; on = now.on })) (gone_stage now.stage gone));
}

-- the words of a run from where none was written
told_words : (id : ℕ) (before lines others : List TraceLine) (calls : List Call) → before ≡ [] → others ≡ lines → callbacks (words_of id lines) ≡ callbacks (words_of id before) ++ map (λ call. word_of call) calls → callbacks (words_of id others) ≡ map (λ call. word_of call) calls
told_words id before lines others calls none same told =
    ap (λ l. callbacks (words_of id l)) same ∙ (told ∙ ap (λ l. callbacks (words_of id l) ++ map (λ call. word_of call) calls) none)

pub lives_are_whole : LivesAreWhole
lives_are_whole log had has trace served =
    let begins = served.begins.begins in
    let closes = served.ends.closes in
    let tells = served.ends.told in
    let fresh = begins.fresh in
    let starts : List Step = all_begin 0 begins.answered in
    let between : List Step = served.served.steps in
    let last : List Step = all_end 0 served.left.seats in
    let run : Runs fresh (starts ++ (between ++ last)) closes.end =
    Runs-append starts (between ++ last) fresh served.begun closes.end begins.run
    (Runs-append between last served.begun served.left closes.end served.served.run closes.run) in
    let kept_begun : served.begun.kept ≡ true = run_kept starts fresh served.begun begins.run ∙ begins.kept in
    let kept_left : served.left.kept ≡ true = run_kept between served.begun served.left served.served.run ∙ kept_begun in
    let lives : LivesAreTold closes.end =
    run_lives last served.left closes.end closes.run kept_left
    (run_lives between served.begun served.left served.served.run kept_begun (begun_lives had.start had.shelf served.begun begins)) in
    let lines : tells.told.lines.items ≡ closes.end.lines = tells.lines ∙ closes.lines in
    record {
      told = tells.told;
      is_told = tells.is_told;
      seats = closes.end.seats;
      places = served.left.places;
      spent = subst (λ before. has.spent ≡ before ++ (backs 0 closes.end.seats ++ shelf_backs served.left.places)) served.begins.spent closes.spent;
      whole = λ id seat at. closed_life seat.who.kind seat.standing closes.end.lines tells.told.lines.items id (at_place (λ s. is_live s ≡ false) closes.end.seats id seat at closes.gone) lines (lives.each id seat at);
      calls = λ id who seat first at.
          let sat = seated_at had.start fresh.seats id who begins.seats first in record {
            calls = calls_of id (starts ++ (between ++ last));
            are_words = told_words id fresh.lines closes.end.lines tells.told.lines.items (calls_of id (starts ++ (between ++ last))) begins.lines lines
                (run_tells (starts ++ (between ++ last)) fresh closes.end id run begins.kept);
            heard = subst (λ (w : Who). Heard w.told (calls_of id (starts ++ (between ++ last))) seat.who.told) sat.2.holds
                (run_told (starts ++ (between ++ last)) fresh closes.end id sat.0 seat run sat.1 at);
          };
    }
