use Rattle.std.proofs.Common.{◌≡◌, drop}
use Rattle.cip_io.specs.Texts.{held}
use Rattle.cip_io.specs.Shelf.{named}
use Rattle.cip_io.proofs.shelf.find_file.Given as goal

-- the name is none of those before
abbrev pub invariant-loop-i : goal.invariant-loop-i
invariant-loop-i l = held (named l.files) l.name ≡ held (named (drop l.i l.files)) l.name
