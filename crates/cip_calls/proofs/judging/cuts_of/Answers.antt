use Rattle.std.proofs.lemmas.List.{length-map}
use Rattle.cip_calls.specs.Served.{count_for}
use Rattle.cip_plugin.specs.declared.asking.Given.{Given}
use Rattle.cip_plugin.specs.Calls.{Separate}
use Rattle.cip_plugin.specs.Asking.{answer_of}
use Rattle.std.proofs.Common.{length, sym, ap, ◌∙◌}
use Rattle.cip_calls.proofs.judging.cuts_of.Goals as goal

pub returns-in-Cuts : goal.returns-in-Cuts
returns-in-Cuts c = ap length c.as_slice.ensures.value ∙ sym (length-map c.in-Cuts.cuts.items _) ∙ sym (ap (λ (x : Given). count_for Separate (answer_of x)) c.in-Cuts.is)

pub returns-in-Reductions : goal.returns-in-Reductions
returns-in-Reductions c = sym (ap (λ (x : Given). count_for Separate (answer_of x)) c.in-Reductions.is)

pub returns-in-Priced : goal.returns-in-Priced
returns-in-Priced c = sym (ap (λ (x : Given). count_for Separate (answer_of x)) c.in-Priced.is)

pub returns-in-Guesses : goal.returns-in-Guesses
returns-in-Guesses c = sym (ap (λ (x : Given). count_for Separate (answer_of x)) c.in-Guesses.is)

pub returns-in-Split : goal.returns-in-Split
returns-in-Split c = sym (ap (λ (x : Given). count_for Separate (answer_of x)) c.in-Split.is)

pub returns-in-Enforced : goal.returns-in-Enforced
returns-in-Enforced c = sym (ap (λ (x : Given). count_for Separate (answer_of x)) c.in-Enforced.is)

pub returns-in-Wishes : goal.returns-in-Wishes
returns-in-Wishes c = sym (ap (λ (x : Given). count_for Separate (answer_of x)) c.in-Wishes.is)
