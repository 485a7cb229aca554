use Rattle.std.proofs.Common.{◌≡◌, ◌<◌, drop}
use Rattle.cip_rows.specs.Mixed.{modulus, with_terms}
use Rattle.cip_rows.proofs.fingerprints.fingerprint.Given as goal

abbrev pub invariant-loop-term : goal.invariant-loop-term
invariant-loop-term l = (l.from < modulus) × (with_terms l.from (drop l.term-index l.row.terms) ≡ with_terms 0 l.row.terms)
