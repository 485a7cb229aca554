use Rattle.std.proofs.Common.{◌≡◌, sym, subst}
use Rattle.std.specs.Prelude.{IfOk}
use Rattle.cip_text_rules.specs.LpFacts.{LpFacts, program_of}
use Rattle.cip_lp.proofs.LineLaws.{known_is}
use Rattle.cip_lp.proofs.line_reader.LineReader.into_program.Goals as goal

pub returns : goal.returns
returns c = subst (λ (f : LpFacts). IfOk c.into_program.result (λ program. program ≡ program_of f)) (sym (known_is c.args.self)) c.into_program.ensures
