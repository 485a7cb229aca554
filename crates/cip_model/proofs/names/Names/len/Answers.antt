use Rattle.std.proofs.Common.{arith}
use Rattle.cip_model.proofs.NamePieces.{length-pieces}
use Rattle.cip_model.proofs.names.Names.len.Goals as goal

pub returns : goal.returns
returns c = rw (← c.self.view_is) (omega (arith, c.len.ensures, c.self.inside.ends.ok.0, length-pieces 0 c.self.inside.bytes.items c.self.inside.ends.items))
