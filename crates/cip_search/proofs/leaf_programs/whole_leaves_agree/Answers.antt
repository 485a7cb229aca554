use Rattle.cip_search.proofs.WholeLeaves.{place_agrees, moves_agree}
use Rattle.cip_search.proofs.leaf_programs.whole_leaves_agree.Goals as goal

pub returns : goal.returns
returns c = record {
  place = λ program leaf place formed whole h. place_agrees program leaf formed whole place h;
  moves = λ program leaf number formed whole. moves_agree program leaf formed whole number;
}
