-- How a trace shows names.
use Rattle.std.specs.Prelude.{ℕ, List, map, take, nat_le, ◌&&◌, if◌then◌else◌}

-- a byte outside '!' to '~' is shown as '?'
abbrev pub shown_byte : ℕ → ℕ
shown_byte byte = if nat_le 33 byte && nat_le byte 126 then byte else 63

-- a text is cut at 64 bytes
abbrev pub shown_name : List ℕ → List ℕ
shown_name text = map shown_byte (take 64 text)
