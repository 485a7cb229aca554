use Rattle.std.proofs.lemmas.Grind.{common_steps}
use Rattle.std.proofs.Common.{List, ℕ, arith}
use Rattle.cip_model.proofs.NamePieces.{length-pieces}
use Rattle.cip_model.proofs.names.Names.name.Goals as goal

pub piece-requires-clause-there : goal.piece-requires-clause-there
piece-requires-clause-there c =
    let bytes : List ℕ = c.self.inside.bytes.items in
    let ends : List ℕ = c.self.inside.ends.items in
    rw c.as_slice-2.ensures.value (omega (arith, rw (← c.self.view_is) at c.requires, length-pieces 0 bytes ends))

pub piece-requires-clause-rising : goal.piece-requires-clause-rising
piece-requires-clause-rising c = grind (arith, common_steps)

pub returns : goal.returns
returns c = grind (arith, common_steps)
