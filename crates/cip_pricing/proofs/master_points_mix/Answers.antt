use Rattle.cip_pricing.proofs.Masters.{mixture_of, form_same, master_shows}
use Rattle.cip_pricing.proofs.master_points_mix.Goals as goal

pub returns : goal.returns
returns c = record {
  mixture = λ program blocks box held values weights d l points free paired nonneg one. mixture_of program blocks box
      held values weights d l points free paired one nonneg;
  forms = form_same;
  shows = master_shows;
}
