use Rattle.std.proofs.lemmas.Grind.{common_steps}
use Rattle.std.proofs.Common.{arith}
use Rattle.cip_text.proofs.piece_reader.PieceReader.new.Goals as goal

pub returns : goal.returns
returns g c = grind (arith, common_steps)
