-- The tokens of a line that are still to come, as the code hands them out.
--     tokens_left tokens      the tokens
use Rattle.std.specs.Prelude.{List}
use Rattle.cip_text_rules.specs.LpTokens as tokens
use Rattle.cip_text_rules.specs.LpTokens.{tokens_from}
use Rattle.cip_lp.specs.declared.line_tokens.Token.{Token}
use Rattle.cip_lp.specs.declared.line_tokens.Token.TheVariants.{Opening, OutsideSection, Reserved, Free, Infinite, Number, Name, Sign, Colon, Relates, Bad}
use Rattle.cip_lp.specs.declared.line_tokens.LineTokens.{LineTokens}
use Rattle.cip_lp.specs.LpKinds.{part_shown, relation_shown}

-- a token
abbrev pub token_shown : Token → tokens.Token
token_shown (Opening part) = tokens.Opening (part_shown part)
token_shown OutsideSection = tokens.OutsideSection
token_shown Reserved = tokens.Reserved
token_shown Free = tokens.Free
token_shown (Infinite word) = tokens.Infinite word.now
token_shown (Number number) = tokens.Number number.now
token_shown (Name name) = tokens.Name name.now
token_shown (Sign minus) = tokens.Sign minus
token_shown Colon = tokens.Colon
token_shown (Relates relation) = tokens.Relates (relation_shown relation)
token_shown Bad = tokens.BadToken

-- the tokens that are still to come
abbrev pub tokens_left : LineTokens → List tokens.Token
tokens_left line = tokens_from line.front line.pieces.rest.now
