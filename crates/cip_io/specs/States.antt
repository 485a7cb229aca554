-- What the stores and the sink in memory are to their callers.
use Rattle.std.specs.Prelude.{ℕ, ◌-◌, List, [], ◌∷◌, ◌++◌, length, Bool, not, ◌&&◌, ◌==◌, is_some}
use Rattle.std.specs.List.{list_any}
use Rattle.cip_io.specs.Faults.{next_count}
use Rattle.cip_io.specs.Texts.{held}

-- names with their texts, the newest first; what is left of the current text; the most bytes of one pull
pub record Texts : Type 0 where
  pub files : List (List ℕ × List ℕ)
  pub left : List ℕ
  pub greatest_piece : ℕ

-- nothing held, and nothing left
abbrev pub no_texts : ℕ → Texts
no_texts greatest_piece = record { files = []; left = []; greatest_piece = greatest_piece }

-- one more text, in the place of an older one of that name
abbrev pub with_text : Texts → List ℕ → List ℕ → Texts
with_text texts name text = record texts { files = (name, text) ∷ texts.files }

-- this is left of the current text
abbrev pub with_left : Texts → List ℕ → Texts
with_left texts text = record texts { left = text }

-- texts, the numbers of the calls that fail, how many calls there were, how many of them failed
pub record StoreState : Type 0 where
  pub texts : Texts
  pub failing : List ℕ
  pub calls : ℕ
  pub faults : ℕ

abbrev pub new_store : ℕ → StoreState
new_store greatest_piece = record { texts = no_texts greatest_piece; failing = []; calls = 0; faults = 0 }

-- the next call is one of those that fail
abbrev pub is_due : StoreState → Bool
is_due store = list_any (λ call. call == next_count store.calls) store.failing

-- the next call, if it is a `choose`, finds its name and doesn't fail
abbrev pub can_choose : StoreState → List ℕ → Bool
can_choose store name = not (is_due store) && is_some (held store.texts.files name)

-- after a call that failed
abbrev pub after_fault : StoreState → StoreState
after_fault store = record store { calls = next_count store.calls; faults = next_count store.faults }

-- after a call that left this of the current text
abbrev pub after_call : StoreState → List ℕ → StoreState
after_call store text = record store { texts = with_left store.texts text; calls = next_count store.calls }

-- bytes taken, how many it takes in all, how often it was full
pub record SinkState : Type 0 where
  pub taken : List ℕ
  pub room : ℕ
  pub faults : ℕ

abbrev pub new_sink : ℕ → SinkState
new_sink room = record { taken = []; room = room; faults = 0 }

-- how many more bytes it takes
abbrev pub free_room : SinkState → ℕ
free_room sink = sink.room - length sink.taken

abbrev pub after_push : SinkState → List ℕ → SinkState
after_push sink bytes = record sink { taken = sink.taken ++ bytes }

abbrev pub after_refusal : SinkState → SinkState
after_refusal sink = record sink { faults = next_count sink.faults }
