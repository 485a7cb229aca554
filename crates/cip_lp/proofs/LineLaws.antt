-- What is read of a line.
use Rattle.std.proofs.Common.{◌≡◌, ℕ, Bool, true, false, cond, List, [], ◌∷◌, Option, None, Some, refl, sym, ap, ◌∙◌}
use Rattle.std.specs.Prelude.{is_some, MatchOption}
use Rattle.cip_text_rules.specs.LineEnds.{Stage, Open, Ended, known_at}
use Rattle.cip_text_rules.specs.LineStream.{Going, progress_at, item_read}
use Rattle.cip_text.specs.PieceStands.{progress_after}
use Rattle.cip_lp.specs.declared.line_tokens.Token as code
use Rattle.cip_lp.specs.LpLines.{token_shown}
use Rattle.cip_text_rules.specs.LpTokens.{Token}
use Rattle.cip_text_rules.specs.LpOutcome.{LpContext, context_with, is_end, lp_reading}
use Rattle.cip_lp.specs.declared.line_reader.LineReader.{LineReader}
use Rattle.cip_text_rules.specs.LpBytes.{tokens_read}
use Rattle.cip_text_rules.proofs.TakenTexts.{tokens_failed}
use Rattle.cip_lp.specs.LinesRead.{stage_of, AreOver, IsTaken}
use Rattle.cip_lp.specs.declared.statements.Statements.{Statements}
use Rattle.cip_lp.specs.LpStages.{context_of}
use Rattle.cip_lp.specs.LpTaken.{IsTokenTaken}

-- behind the end of the text
pub tokens_over : (known : LpContext) (number : ℕ) (tokens : List Token) → tokens_read number (Going (Ended known)) tokens ≡ Going (Ended known)
tokens_over known number [] = refl
tokens_over known number (token ∷ tokens) = tokens_over known number tokens

-- a token more
pub token_read : (old : LpContext) (new : Stage LpContext) (token : Token) (kind : Option ℕ) (number : ℕ) → IsTaken old new token kind → item_read lp_reading (Going (Open old)) number token ≡ progress_after number kind new
token_read old new token None number t =
    ap (λ f. progress_at f number (lp_reading.next (Open old) token)) (sym t.is_kind) ∙ ap Going (sym (t.taken refl))
token_read old new token (Some kind) number t = ap (λ f. progress_at f number (lp_reading.next (Open old) token)) (sym t.is_kind)

-- a token without fault, and those behind it
pub tokens_go_on : (old : LpContext) (new : Stage LpContext) (token : Token) (kind : Option ℕ) (number : ℕ) (before behind : List Token) → is_some kind ≡ false → before ≡ token ∷ behind → IsTaken old new token kind
    → tokens_read number (Going (Open old)) before ≡ tokens_read number (Going new) behind
tokens_go_on old new token (Some kind) number before behind n e t = absurd (cc)
tokens_go_on old new token None number before behind n e t =
    ap (λ ts. tokens_read number (Going (Open old)) ts) e
    ∙ ap (λ p. tokens_read number p behind) (token_read old new token None number t)

-- a token with a fault, and those behind it
pub tokens_stop : (old : LpContext) (new : Stage LpContext) (token : Token) (kind : Option ℕ) (number : ℕ) (before behind : List Token) → is_some kind ≡ true → before ≡ token ∷ behind → IsTaken old new token kind
    → tokens_read number (Going (Open old)) before ≡ progress_after number kind new
tokens_stop old new token None number before behind n e t = absurd (cc)
tokens_stop old new token (Some kind) number before behind n e t =
    ap (λ ts. tokens_read number (Going (Open old)) ts) e
    ∙ ap (λ p. tokens_read number p behind) (token_read old new token (Some kind) number t)
    ∙ tokens_failed number kind number behind

-- the stage of a reader
pub stage_open : (lines : LineReader) → lines.ended ≡ false → stage_of lines ≡ Open (context_of lines.statements)
stage_open lines e = ap (λ (b : Bool). cond b (Ended (context_of lines.statements)) (Open (context_of lines.statements))) e

pub known_is : (lines : LineReader) → (known_at (stage_of lines)).facts ≡ lines.statements.draft
known_is lines = go lines.ended
  where
    go : (b : Bool) → (known_at (cond b (Ended (context_of lines.statements)) (Open (context_of lines.statements)))).facts ≡ lines.statements.draft
    go true = refl
    go false = refl

pub over_ended : (lines : LineReader) (tokens : List Token) → lines.ended ≡ true → AreOver (stage_of lines) tokens
over_ended lines tokens e number = go lines.ended e
  where
    go : (b : Bool) → b ≡ true → tokens_read number (Going (cond b (Ended (context_of lines.statements)) (Open (context_of lines.statements)))) tokens ≡ Going (cond b (Ended (context_of lines.statements)) (Open (context_of lines.statements)))
    go true p = tokens_over (context_of lines.statements) number tokens
    go false p = absurd (cc)

pub over_empty : (stage : Stage LpContext) (tokens : List Token) → tokens ≡ [] → AreOver stage tokens
over_empty stage tokens e number = ap (λ ts. tokens_read number (Going stage) ts) e

-- a token that was taken by the statements
pub token_taken : (old new : Statements) (token : Token) (kind : Option ℕ) (ended : Bool) → IsTokenTaken old new token kind → ended ≡ is_end (context_of old) token → IsTaken (context_of old) (cond ended (Ended (context_of new)) (Open (context_of new))) token kind
token_taken old new token kind ended t e = record {
  is_kind = t.is_kind;
  taken = λ none. let known : context_of new ≡ context_with (context_of old) token = t.taken none in λ i. cond (e i) (Ended (known i)) (Open (known i));
  few = t.few;
}

-- a token with a fault, whatever the stage behind it
pub token_failed : (old new : Statements) (stage : Stage LpContext) (token : Token) (kind : Option ℕ) → is_some kind ≡ true → IsTokenTaken old new token kind → IsTaken (context_of old) stage token kind
token_failed old new stage token None some t = absurd (cc)
token_failed old new stage token (Some kind) some t = record {
  is_kind = t.is_kind;
  taken = λ none. absurd (cc);
  few = t.few;
}

-- one token more of a reader, and those behind it
pub reader_goes_on : (old : LineReader) (new : Stage LpContext) (token : Token) (kind : Option ℕ) (before behind : List Token) → old.ended ≡ false → is_some kind ≡ false → before ≡ token ∷ behind → IsTaken (context_of old.statements) new token kind
    → (number : ℕ) → tokens_read number (Going new) behind ≡ tokens_read number (Going (stage_of old)) before
reader_goes_on old new token kind before behind o n e t number =
    sym (tokens_go_on (context_of old.statements) new token kind number before behind n e t) ∙ ap (λ s. tokens_read number (Going s) before) (sym (stage_open old o))

pub reader_stops : (old : LineReader) (new : Stage LpContext) (token : Token) (kind : Option ℕ) (before behind : List Token) → old.ended ≡ false → is_some kind ≡ true → before ≡ token ∷ behind → IsTaken (context_of old.statements) new token kind
    → (number : ℕ) → tokens_read number (Going (stage_of old)) before ≡ progress_after number kind new
reader_stops old new token kind before behind o n e t number =
    ap (λ s. tokens_read number (Going s) before) (stage_open old o) ∙ tokens_stop (context_of old.statements) new token kind number before behind n e t

-- the next token of a line, or none
pub next_or_over : (lines : LineReader) (next : Option code.Token) (before behind : List Token) → lines.ended ≡ false → MatchOption next ((before ≡ []) × (behind ≡ [])) (λ token. before ≡ token_shown token ∷ behind)
    → MatchOption next (AreOver (stage_of lines) before) (λ token. (lines.ended ≡ false) × (before ≡ token_shown token ∷ behind))
next_or_over lines None before behind e h = over_empty (stage_of lines) before h.0
next_or_over lines (Some token) before behind e h = (e, h)
