-- The steps stand for what is known of a text.
use Rattle.std.proofs.Common.{◌≡◌, Bool, true, false, not, ◌&&◌, map, None, refl, ap, ◌∙◌}
use Rattle.std.specs.List.{list_any}
use Rattle.std.proofs.lemmas.List.{append-nil}
use Rattle.cip_text_rules.specs.Lines.{Record}
use Rattle.cip_text_rules.proofs.LineSame.{StandsFor}
use Rattle.cip_text_rules.proofs.LineEnded.{EndsAlike, GoodStage, ends_stand}
use Rattle.cip_text_rules.specs.MpsSayings.{Saying, Opens}
use Rattle.cip_text_rules.specs.MpsFacts.{Facts, facts_with}
use Rattle.cip_text_rules.specs.MpsProgram.{is_free, program_of}
use Rattle.cip_text_rules.specs.MpsRules.{least, fault_of, is_end, kinds_of}
use Rattle.cip_text_rules.specs.MpsOutcome.{Context, said_in, context_with, is_last, mps_records, mps_reading}
use Rattle.cip_text_rules.proofs.Quiet.{Keeps, keeps}
use Rattle.cip_text_rules.specs.MpsState.{State, state_of, program_from}
use Rattle.cip_text_rules.specs.MpsSteps.{tests, taken, said_at, is_last_at, record_steps, mps_steps}
use Rattle.cip_text_rules.proofs.Told.{said_sound}
use Rattle.cip_text_rules.proofs.Good.{Good, good_first, good_with}
use Rattle.cip_text_rules.proofs.TestsSame.{tests_same}
use Rattle.cip_text_rules.proofs.Taken.{taken_is}
use Rattle.cip_text_rules.proofs.ProgramSame.{program_is}

-- the state is that of the facts, which are good
pub record GoodState (context : Context) (state : State) : Type 0 where
  pub is_state : state ≡ state_of context.place context.facts
  pub good : Good context.facts

is_there : (a b : Bool) → (a && not b) ≡ false → a ≡ true → b ≡ true
is_there true true e d = refl
is_there true false e d = absurd (cc)
is_there false b e d = absurd (cc)

-- what the context says of a record
kept_rules : (context : Context) (content : Record) → fault_of context.facts (said_in context content) ≡ None → Keeps context.facts (said_in context content)
kept_rules context content e = keeps context.facts (said_in context content) e

same_fault : (context : Context) (state : State) (content : Record) → GoodState context state → least (tests state (said_at state content)) ≡ fault_of context.facts (said_in context content)
same_fault context state content g =
    ap (λ s. least (tests s (said_at s content))) g.is_state
    ∙ tests_same context.place context.facts (said_in context content) g.good (said_sound context.place content)

same_last : (context : Context) (state : State) (content : Record) → GoodState context state → is_last_at state content ≡ is_last context content
same_last context state content g = ap (λ s. is_last_at s content) g.is_state

next_good : (context : Context) (state : State) (content : Record) → GoodState context state → fault_of context.facts (said_in context content) ≡ None → GoodState (context_with context (said_in context content)) (taken state (said_at state content))
next_good context state content g e = record {
  is_state =
      ap (λ s. taken s (said_at s content)) g.is_state
      ∙ taken_is context.place context.facts (said_in context content) (kept_rules context content e) g.good;
  good = good_with context.facts (said_in context content) (kept_rules context content e) (said_sound context.place content) g.good;
}

-- ENDATA adds no row
same_kinds : (facts : Facts) (now : Saying) → is_end now ≡ true → kinds_of (facts_with facts now) ≡ kinds_of facts
same_kinds facts (Opens part words) e = ap (map (λ row. row.kind)) (append-nil facts.rows)
same_kinds facts other e = absurd (cc)

last_program : (context : Context) (state : State) (content : Record) → GoodState context state → fault_of context.facts (said_in context content) ≡ None → is_last context content ≡ true → program_from (taken state (said_at state content)) ≡ program_of (facts_with context.facts (said_in context content))
last_program context state content g e end =
    let next = next_good context state content g e in
    let there = is_there (is_end (said_in context content)) (list_any is_free (kinds_of context.facts)) (kept_rules context content e).has_objective end in
    ap program_from next.is_state
    ∙ program_is (context_with context (said_in context content)).place (facts_with context.facts (said_in context content)) next.good
    (ap (list_any is_free) (same_kinds context.facts (said_in context content) end) ∙ there)

alike : EndsAlike mps_records record_steps is_last is_last_at GoodState
alike = record {
  items = refl;
  long = refl;
  start = record { is_state = refl; good = good_first };
  fault = same_fault;
  end = same_last;
  next = next_good;
  end_fault = λ context state g. refl;
  result = λ context state g e. absurd (cc e);
  last = last_program;
}

pub steps_stand : StandsFor mps_reading mps_steps (GoodStage mps_records record_steps GoodState)
steps_stand = ends_stand mps_records record_steps is_last is_last_at GoodState alike
