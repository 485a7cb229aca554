use Rattle.std.proofs.Common.{◌≡◌, ◌<◌, drop}
use Rattle.cip_model.specs.Keys.{key_from}
use Rattle.cip_model.proofs.name_order.key_of.Given as goal

abbrev pub invariant-loop-byte : goal.invariant-loop-byte
invariant-loop-byte l = record {
  key : key_from l.key (drop l.byte-index l.name) ≡ key_from 0 l.name;
  fits : l.key < 1329227995784915872903807060280345088;
}
