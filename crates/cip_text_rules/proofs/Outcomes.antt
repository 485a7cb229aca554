-- What holds of the facts behind lines that break no rule, and of the program of a text.
use Rattle.std.proofs.Common.{◌≡◌, inl, inr, ℕ, List, None, subst}
use Rattle.cip_text_rules.specs.Program.{Program}
use Rattle.cip_text_rules.specs.Lines.{Record}
use Rattle.cip_text_rules.specs.LineTexts.{Numbered}
use Rattle.cip_text_rules.specs.LineStatements.{known_after, AreOpen, IsEndReached, NeedsNoEnd}
use Rattle.cip_text_rules.proofs.LineEnded.{result_found, holds_open}
use Rattle.cip_text_rules.specs.MpsFacts.{Facts, no_facts, facts_with}
use Rattle.cip_text_rules.specs.MpsProgram.{program_of}
use Rattle.cip_text_rules.specs.MpsRules.{fault_of}
use Rattle.cip_text_rules.specs.MpsOutcome.{Context, no_context, said_in, is_last, mps_records, HasProgram}
use Rattle.cip_text_rules.proofs.Quiet.{Keeps, keeps}

-- a program is that of lines that break no rule, up to ENDATA
end_reached : (text : List ℕ) (program : Program) → HasProgram text program → IsEndReached is_last mps_records text program
end_reached text program h = elim (result_found is_last mps_records text program h).1 [ inl r ↦ r | inr n ↦ absurd (never n) ]
  where
    never : NeedsNoEnd is_last mps_records text program → ⊥
    never n = let e = n.no_fault in cc e

module _ (P : Facts → Type 0) (step : (context : Context) (content : Record) → Keeps context.facts (said_in context content) → P context.facts → P (facts_with context.facts (said_in context content))) (start : P no_facts) where
  one_more : (context : Context) (content : Record) → fault_of context.facts (said_in context content) ≡ None → P context.facts → P (facts_with context.facts (said_in context content))
  one_more context content e = step context content (keeps context.facts (said_in context content) e)

  -- what holds of the facts goes on to hold behind lines that break no rule
  pub invariant : (records : List (Numbered Record)) → AreOpen is_last mps_records no_context records → P (known_after mps_records no_context records).facts
  invariant records o = holds_open is_last mps_records (λ context. P context.facts) one_more records no_context start o

  -- and so does what it says of the program of a text
  pub of_program : (Q : Program → Type 0) → ((facts : Facts) → P facts → Q (program_of facts)) → (text : List ℕ) (program : Program) → HasProgram text program → Q program
  of_program Q told text program h =
      let r = end_reached text program h in
      subst Q r.is_value (told _ (one_more (known_after mps_records no_context r.before) r.now.item r.no_fault (invariant r.before r.reached.open_before)))
