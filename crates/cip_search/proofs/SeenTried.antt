-- The definitions tried.
use Rattle.std.proofs.Common.{refl}
use Rattle.cip_search.specs.SeenExamples.{Examples}

pub examples : Examples
examples = record { renamed = refl; given = refl; seen = refl }
