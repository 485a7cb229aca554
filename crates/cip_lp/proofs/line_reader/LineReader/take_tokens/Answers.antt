use Rattle.std.proofs.lemmas.Grind.{common_steps}
use Rattle.std.proofs.Common.{cond, sym, ◌∙◌, arith}
use Rattle.cip_text_rules.specs.LineEnds.{Open, Ended}
use Rattle.cip_lp.specs.declared.line_reader.LineReader.{LineReader}
use Rattle.cip_lp.specs.LpLines.{token_shown, tokens_left}
use Rattle.cip_lp.specs.LpStages.{context_of}
use Rattle.cip_lp.specs.LinesRead.{stage_of}
use Rattle.cip_lp.proofs.LineLaws.{token_taken, token_failed, reader_goes_on, reader_stops}
use Rattle.cip_lp.proofs.line_reader.LineReader.take_tokens.Goals as goal

pub loop-token-preserved : goal.loop-token-preserved
loop-token-preserved c = λ number.
    let old = c.loop-token.self in
    let new = c.take.new.self in
    let token = token_shown c.in-Some.token in
    let ended = c.is_end-self.result in
    reader_goes_on old (cond ended (Ended (context_of new)) (Open (context_of new))) token c.in_ok-kind.kind (tokens_left c.loop-token.tokens) (tokens_left c.next_of.new.tokens) c.in-Some.ensures.0 (sym c.is_some.ensures ∙ c.if-is_some.false) c.in-Some.ensures.1
    (token_taken old.statements new token c.in_ok-kind.kind ended c.in_ok-kind.ensures (c.is_end-self.ensures (context_of old.statements))) number
    ∙ c.loop-token.invariant number

pub returns-then-is_some-clause-read : goal.returns-then-is_some-clause-read
returns-then-is_some-clause-read c = λ number.
    let old = c.loop-token.self in
    let new : LineReader = record old { statements = c.take.new.self } in
    let token = token_shown c.in-Some.token in
    let some = sym c.is_some.ensures ∙ c.if-is_some.true in
    sym (c.loop-token.invariant number)
    ∙ reader_stops old (stage_of new) token c.in_ok-kind.kind (tokens_left c.loop-token.tokens) (tokens_left c.next_of.new.tokens) c.in-Some.ensures.0 some c.in-Some.ensures.1
    (token_failed old.statements new.statements (stage_of new) token c.in_ok-kind.kind some c.in_ok-kind.ensures) number

pub returns-clause-read : goal.returns-clause-read
returns-clause-read c = λ number. sym (c.loop-token.invariant number) ∙ c.in_default.ensures number

pub loop-token-smaller : goal.loop-token-smaller
loop-token-smaller c = grind (arith, common_steps)

pub returns-then-is_some-clause-kinds : goal.returns-then-is_some-clause-kinds
returns-then-is_some-clause-kinds c = grind (arith, common_steps)

pub returns-clause-kinds : goal.returns-clause-kinds
returns-clause-kinds c = grind (arith, common_steps)
