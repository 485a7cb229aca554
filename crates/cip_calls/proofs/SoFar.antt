-- Plugins that are asked one at a time, as far as that has come.
use Rattle.std.proofs.Common.{◌≡◌, ◌⊎◌, inl, inr, ℕ, ◌+◌, ◌<◌, true, List, [], ◌∷◌, ◌++◌, length, replicate, Contains, Option, None, Some, refl, sym, ap, ◌∙◌, subst, arith, add-zero, append-nil}
use Rattle.std.proofs.lemmas.List.Elements.{All-cons, Contains-append_left, Contains-append_right}
use Rattle.std.proofs.lemmas.Bool.{and_from}
use Rattle.cip_plugin.specs.Asking.{asks}
use Rattle.cip_plugin.specs.Calls.{Ask, Call}
use Rattle.cip_plugin.specs.declared.asking.Given.{Given}
use Rattle.cip_plugin.specs.declared.keys.Key.{Key}
use Rattle.cip_plugin.specs.Seats.{Seat, State, is_on}
use Rattle.cip_plugin.specs.Steps.{Step, Runs, calls_of, asks_in}
use Rattle.cip_calls.specs.Wished.{Ran}
use Rattle.cip_plugin.proofs.Hearing.{asks_in-append}
use Rattle.cip_plugin.proofs.Running.{calls_of-append, Runs-append}
use Rattle.cip_calls.specs.declared.judged.Judged.{Judged}
use Rattle.cip_calls.specs.Asked.{count_of, proposers, told_next}
use Rattle.cip_calls.specs.Noted.{HasNoted, HasJudged, makers}
use Rattle.cip_calls.specs.Served.{handed_out, judged_of, is_wanted, Used}
use Rattle.cip_calls.specs.Waiting.{waiting, HasAskedNext}
use Rattle.cip_calls.proofs.Asking.{count_more, handed-append}
use Rattle.cip_calls.proofs.Serving.{judged_by}
use Rattle.cip_calls.proofs.Waiting.{keyed, waits_first}
use Rattle.cip_calls.specs.Enforcing.{made}
use Rattle.cip_problem.proofs.Covers.{none_of_nothing}

-- some plugins were asked, the last of them this one, and what each gave was judged; of those that waited as it began
-- each was asked, or waits still
pub record SoFar (ask : Ask) (start : State) (had : List (ℕ × Judged)) (now : State) (has : List (ℕ × Judged)) (named : Option ℕ) : Type 0 where
  pub steps : List Step
  pub run : Runs start steps now
  pub judged : (id : ℕ) → judged_of id has ≡ judged_of id had + handed_out (calls_of id steps)
  pub waits : (key : Key) → Contains (waiting ask start.seats None) key
      → Contains (asks_in (calls_of key.id steps)) ask ⊎ Contains (waiting ask now.seats named) key

pub so_far_none : (ask : Ask) (a : State) (h : List (ℕ × Judged)) → SoFar ask a h a h None
so_far_none ask a h = record { steps = []; run = refl; judged = λ id. sym (add-zero (judged_of id h)); waits = λ key c. inr c }

-- who made what was given
told_made : (ask : Ask) (id : ℕ) (given : Option Given) → proposers ask (told_next (Some (id, given))) ≡ replicate (made ask given) id
told_made ask id None = refl
told_made ask id (Some given) = append-nil (replicate (made ask (Some given)) id)

first_part : (ask : Ask) (xs ys all : List Call) → all ≡ xs ++ ys → Contains (asks_in xs) ask → Contains (asks_in all) ask
first_part ask xs ys all e c =
    subst (λ (l : List Call). Contains (asks_in l) ask) (sym e)
    (subst (λ (l : List Ask). Contains l ask) (sym (asks_in-append xs ys)) (Contains-append_left (asks_in xs) (asks_in ys) ask c))

last_part : (ask : Ask) (xs ys all : List Call) → all ≡ xs ++ ys → Contains (asks_in ys) ask → Contains (asks_in all) ask
last_part ask xs ys all e c =
    subst (λ (l : List Call). Contains (asks_in l) ask) (sym e)
    (subst (λ (l : List Ask). Contains l ask) (sym (asks_in-append xs ys)) (Contains-append_right (asks_in xs) (asks_in ys) ask c))

-- steps, others, and some that call nobody
calls_joined : (k : ℕ) (xs ys zs : List Step) → calls_of k zs ≡ [] → calls_of k (xs ++ (ys ++ zs)) ≡ calls_of k xs ++ calls_of k ys
calls_joined k xs ys zs silent =
    calls_of-append k xs (ys ++ zs)
    ∙ ap (λ (l : List Call). calls_of k xs ++ l)
    (calls_of-append k ys zs ∙ ap (λ (l : List Call). calls_of k ys ++ l) silent ∙ append-nil (calls_of k ys))

-- one was asked, or waits still
next_wait : (ask : Ask) (a b c : State) (named : Option ℕ) (id : ℕ) (given : Option Given) (next : HasAskedNext ask a b named (Some (id, given))) (noted : HasNoted b c)
    (xs : List Step) (key : Key) → Contains (asks_in (calls_of key.id xs)) ask ⊎ Contains (waiting ask a.seats named) key
    → Contains (asks_in (calls_of key.id (xs ++ (next.some.steps ++ noted.steps)))) ask ⊎ Contains (waiting ask c.seats (Some id)) key
next_wait ask a b c named id given next noted xs key (inl asked) =
    inl (first_part ask (calls_of key.id xs) (calls_of key.id next.some.steps) (calls_of key.id (xs ++ (next.some.steps ++ noted.steps)))
    (calls_joined key.id xs next.some.steps noted.steps (noted.silent key.id)) asked)
next_wait ask a b c named id given next noted xs key (inr waits) =
    elim (next.next.others key waits) [
      | inl same ↦ inl (last_part ask (calls_of key.id xs) (calls_of key.id next.some.steps) (calls_of key.id (xs ++ (next.some.steps ++ noted.steps)))
          (calls_joined key.id xs next.some.steps noted.steps (noted.silent key.id))
          (subst (λ (k : ℕ). Contains (asks_in (calls_of k next.some.steps)) ask) (sym same) next.next.asked))
      | inr still ↦ inr (subst (λ (seats : List Seat). Contains (waiting ask seats (Some id)) key) (sym noted.seats) still)
    ]

-- one more had its turn, and what it gave was judged
pub so_far_more : (ask : Ask) (start a b c : State) (had h e : List (ℕ × Judged)) (named : Option ℕ) (id : ℕ) (given : Option Given) → SoFar ask start had a h named
    → HasAskedNext ask a b named (Some (id, given)) → HasNoted b c → HasJudged id (made ask given) h e → SoFar ask start had c e (Some id)
so_far_more ask start a b c had h e named id given so next noted entered = record {
  steps = so.steps ++ (next.some.steps ++ noted.steps);
  run = Runs-append so.steps (next.some.steps ++ noted.steps) start a c so.run (Runs-append next.some.steps noted.steps a b c next.some.run noted.run);
  judged = λ k.
      let n = made ask given in
      let now : judged_of k e ≡ count_of k (makers h) + count_of k (replicate n id) = judged_by k e ∙ ap (count_of k) entered ∙ count_more k (makers h) (replicate n id) in
      let gave : handed_out (calls_of k next.some.steps) ≡ count_of k (replicate n id) = next.some.handed k ∙ ap (count_of k) (told_made ask id given) in
      let calls : handed_out (calls_of k (so.steps ++ (next.some.steps ++ noted.steps))) ≡ handed_out (calls_of k so.steps) + handed_out (calls_of k next.some.steps) =
      ap handed_out (calls_joined k so.steps next.some.steps noted.steps (noted.silent k)) ∙ handed-append (calls_of k so.steps) (calls_of k next.some.steps) in
      let before = judged_by k h in
      let was = so.judged k in
      omega (arith, now, gave, calls, before, was);
  waits = λ key d. next_wait ask a b c named id given next noted so.steps key (so.waits key d);
}

-- fewer wait then
pub fewer_wait : (ask : Ask) (a b c : State) (named : Option ℕ) (id : ℕ) (given : Option Given) → HasAskedNext ask a b named (Some (id, given)) → HasNoted b c
    → length (waiting ask c.seats (Some id)) < length (waiting ask a.seats named)
fewer_wait ask a b c named id given next noted =
    omega (arith, next.next.fewer, ap (λ (seats : List Seat). length (waiting ask seats (Some id))) noted.seats)

-- what each gave was judged
pub used_part : (ask : Ask) (start now : State) (had has : List (ℕ × Judged)) (named : Option ℕ) → SoFar ask start had now has named → Used [] start had now has
used_part ask start now had has named so = record {
  steps = so.steps;
  run = so.run;
  each = λ id s u at later on. record { asked = λ i d within. absurd (omega (arith, within)); judged = so.judged id };
}

none_left : (ask : Ask) (seats : List Seat) (named : Option ℕ) (key : Key) (calls : List Call) → waiting ask seats named ≡ []
    → Contains (asks_in calls) ask ⊎ Contains (waiting ask seats named) key → Contains (asks_in calls) ask
none_left ask seats named key calls none (inl asked) = asked
none_left ask seats named key calls none (inr waits) = absurd (none_of_nothing key (subst (λ (l : List Key). Contains l key) none waits))

-- where none waits any more, all were asked
pub used_all : (ask : Ask) (start a b : State) (had h : List (ℕ × Judged)) (named : Option ℕ) → ((s : Seat) → is_wanted ask s ≡ asks s.who.kind ask)
    → SoFar ask start had a h named → HasAskedNext ask a b named None → Used (ask ∷ []) start had b h
used_all ask start a b had h named plain so next = record {
  steps = so.steps ++ next.some.steps;
  run = Runs-append so.steps next.some.steps start a b so.run next.some.run;
  each = λ id s u at later on.
      let xs : List Call = calls_of id so.steps in
      let ys : List Call = calls_of id next.some.steps in
      let calls : calls_of id (so.steps ++ next.some.steps) ≡ xs ++ ys = calls_of-append id so.steps next.some.steps in
      let none : handed_out ys ≡ 0 = next.some.handed id in
      let all : handed_out (calls_of id (so.steps ++ next.some.steps)) ≡ handed_out xs + handed_out ys = ap handed_out calls ∙ handed-append xs ys in
      let was = so.judged id in
      record {
        asked = All-cons (λ q. is_wanted q s ≡ true → Contains (asks_in (calls_of id (so.steps ++ next.some.steps))) q) ask []
            (λ wanted. first_part ask xs ys (calls_of id (so.steps ++ next.some.steps)) calls
            (none_left ask a.seats named (keyed id s.priority) xs next.next
            (so.waits (keyed id s.priority) (waits_first ask start.seats id s at (and_from (is_on s) (asks s.who.kind ask) on.on_before (sym (plain s) ∙ wanted))))))
            (λ i d within. absurd (omega (arith, within)));
        judged = omega (arith, none, all, was);
      };
}

pub so_far_ran : (ask : Ask) (start now : State) (had has : List (ℕ × Judged)) (named : Option ℕ) → SoFar ask start had now has named → Ran start now
so_far_ran ask start now had has named so = record { steps = so.steps; run = so.run }

pub next_ran : (ask : Ask) (a b : State) (named : Option ℕ) (gave : Option (ℕ × Option Given)) → HasAskedNext ask a b named gave → Ran a b
next_ran ask a b named gave next = record { steps = next.some.steps; run = next.some.run }

-- by how many were given
pub judged_made : (n m id : ℕ) (a b : List (ℕ × Judged)) → m ≡ n → HasJudged id n a b → HasJudged id m a b
judged_made n m id a b e h = subst (λ (k : ℕ). HasJudged id k a b) (sym e) h

pub end_next : (ask : Ask) (a b : State) (named : Option ℕ) (gave : Option (ℕ × Option Given)) → ((x : ℕ × Option Given) → gave ≡ Some x → ⊥) → HasAskedNext ask a b named gave
    → HasAskedNext ask a b named None
end_next ask a b named None other next = next
end_next ask a b named (Some x) other next = absurd (other x refl)
