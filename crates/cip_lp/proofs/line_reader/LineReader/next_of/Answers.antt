use Rattle.cip_lp.specs.LpLines.{tokens_left}
use Rattle.cip_lp.proofs.LineLaws.{over_ended, next_or_over}
use Rattle.cip_lp.proofs.line_reader.LineReader.next_of.Goals as goal

pub returns-then-self : goal.returns-then-self
returns-then-self c = over_ended c.args.self.now (tokens_left c.args.tokens.now) c.if-self.true

pub returns : goal.returns
returns c = next_or_over c.args.self.now c.next_token.result (tokens_left c.args.tokens.now) (tokens_left c.next_token.new.self) c.if-self.false c.next_token.ensures
