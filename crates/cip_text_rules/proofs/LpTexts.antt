-- The program of a text is that of facts that are sound.
use Rattle.std.proofs.Common.{◌≡◌, ℕ, ◌≤◌, List, [], ◌∷◌, Option, None, Some, inl, inr, refl, sym, subst, ◌∙◌}
use Rattle.std.specs.Prelude.{All}
use Rattle.cip_problem.specs.Limits.{most_columns}
use Rattle.cip_problem.specs.Activity.{StandsBelow}
use Rattle.cip_problem.specs.Program.{Row, Program}
use Rattle.cip_problem.specs.WellFormed.{IsWellFormed}
use Rattle.cip_text_rules.specs.LineTexts.{Numbered}
use Rattle.cip_text_rules.specs.LineStatements.{known_after, AreOpen, IsEndReached, NeedsNoEnd}
use Rattle.cip_text_rules.proofs.LineEnded.{result_found, holds_open}
use Rattle.cip_text_rules.specs.LpTokens.{Token}
use Rattle.cip_text_rules.specs.LpPlaces.{Event}
use Rattle.cip_text_rules.specs.LpGrammar.{events_of}
use Rattle.cip_text_rules.specs.LpFacts.{LpFacts, event_fault, facts_with, or_later, first_fault, facts_after, program_of}
use Rattle.cip_text_rules.specs.LpOutcome.{LpContext, no_context, token_fault, context_with, is_end, lp_tokens, HasLpProgram}
use Rattle.cip_text_rules.specs.LpSound.{IsSoundLp}
use Rattle.cip_text_rules.proofs.LpFits.{first_sound, event_kept}

-- several things that are said without fault
all_kept : (facts : LpFacts) (events : List Event) → IsSoundLp facts → first_fault facts events ≡ None → IsSoundLp (facts_after facts events)
all_kept facts [] h e = h
all_kept facts (event ∷ events) h e = go (event_fault facts event) refl e (λ k. all_kept (facts_with facts event) events k)
  where
    go : (o : Option ℕ) → event_fault facts event ≡ o → or_later o (first_fault (facts_with facts event) events) ≡ None → (IsSoundLp (facts_with facts event) → first_fault (facts_with facts event) events ≡ None → IsSoundLp (facts_after (facts_with facts event) events)) → IsSoundLp (facts_after (facts_with facts event) events)
    go None q k later = later (event_kept facts event h q) k
    go (Some kind) q k later = absurd (cc)

one_more : (context : LpContext) (token : Token) → token_fault context token ≡ None → IsSoundLp context.facts → IsSoundLp (context_with context token).facts
one_more context token e h = all_kept context.facts (events_of context.where_ token) h e

sound : (items : List (Numbered Token)) → AreOpen is_end lp_tokens no_context items → IsSoundLp (known_after lp_tokens no_context items).facts
sound items o = holds_open is_end lp_tokens (λ context. IsSoundLp context.facts) one_more items no_context first_sound o

formed : (facts : LpFacts) → IsSoundLp facts → IsWellFormed (program_of facts)
formed facts h = record {
  column_names = sym h.costs;
  integral = h.integral ∙ sym h.costs;
  bounds = h.bounds ∙ sym h.costs;
  row_names = h.row_names;
  few_columns = subst (λ (n : ℕ). n ≤ most_columns) (sym h.costs) h.few_columns;
  few_rows = h.few_rows;
  rows = subst (λ (n : ℕ). All (λ (row : Row). StandsBelow n row.terms) facts.rows) (sym h.costs) h.rows;
  choices = λ column. tt;
}

pub end_reached : (text : List ℕ) (program : Program) → HasLpProgram text program → IsEndReached is_end lp_tokens text program
end_reached text program h = elim (result_found is_end lp_tokens text program h).1 [ inl r ↦ r | inr n ↦ absurd (never n) ]
  where
    never : NeedsNoEnd is_end lp_tokens text program → ⊥
    never n = let e = n.no_fault in cc e

pub texts_fit : (text : List ℕ) (program : Program) → HasLpProgram text program → IsWellFormed program
texts_fit text program h =
    let r = end_reached text program h in
    subst IsWellFormed r.is_value (formed _ (one_more (known_after lp_tokens no_context r.before) r.now.item r.no_fault (sound r.before r.reached.open_before)))
