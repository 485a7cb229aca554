-- Numbers of at most 4,096.
use Rattle.std.specs.Prelude.{ℕ, nat_le, if◌then◌else◌, Option, None, Some}
use Rattle.cip_problem.specs.BlockParts.{most_blocks}

-- a number, where it is at most that of blocks
abbrev pub small : Option ℕ → Option ℕ
small None = None
small (Some number) = if nat_le number most_blocks then Some number else None
