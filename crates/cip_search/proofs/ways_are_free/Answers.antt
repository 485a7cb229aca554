use Rattle.cip_search.specs.Wide.{IsWide}
use Rattle.cip_search.proofs.Leading as leading
use Rattle.cip_search.proofs.ways_are_free.Goals as goal

pub returns : goal.returns
returns c = λ program reduced way other start. record {
  stays = leading.stays program;
  by_other = leading.by_other program reduced way start other IsWide;
}
