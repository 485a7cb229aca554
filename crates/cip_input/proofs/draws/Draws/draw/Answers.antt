use Rattle.std.proofs.Common.{◌*◌, ◌^◌, ap}
use Rattle.std.proofs.Math.Nat.{mod-add-mod}
use Rattle.cip_input.specs.Generated.{next_state, drawn_at}
use Rattle.cip_input.proofs.draws.Draws.draw.Goals as goal

pub returns-clause-state : goal.returns-clause-state
unfolding next_state
returns-clause-state c = mod-add-mod (c.args.self.now.state * 6364136223846793005) (2 ^ 64) 1442695040888963407

pub returns-clause-drawn : goal.returns-clause-drawn
unfolding next_state
returns-clause-drawn c = ap drawn_at (mod-add-mod (c.args.self.now.state * 6364136223846793005) (2 ^ 64) 1442695040888963407)
