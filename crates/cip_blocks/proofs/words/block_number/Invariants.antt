use Rattle.std.proofs.Common.{◌≡◌, take, drop}
use Rattle.std.specs.Prelude.{min}
use Rattle.std.specs.Char.{is_ascii_digit}
use Rattle.std.specs.List.{list_all}
use Rattle.cip_rational.specs.Numeral.{digits_value}
use Rattle.cip_blocks.proofs.words.block_number.Given as goal

abbrev pub invariant-loop-byte : goal.invariant-loop-byte
invariant-loop-byte l = record {
  value : l.value ≡ min (digits_value (take l.byte-index l.word)) 4097;
  digits : list_all is_ascii_digit (drop l.byte-index l.word) ≡ list_all is_ascii_digit l.word;
}
