-- What is told of one object is told of the other, where two are the same; and how long what an object holds lives.
use Rattle.std.proofs.Common.{◌≡◌, ℕ, List, ◌++◌, Option, subst}
use Rattle.std.specs.Prelude.{⊤}
use mathlib.Core.List.{Mem, mem-append_right}
use Rattle.cip_plugin.specs.Calls.{Call}
use Rattle.cip_plugin.specs.Telling.{Heard}

-- an object that is the one before the calls was heard by them
pub heard_same : {I : Type 0} {V : I → Type 0} (told : (i : I) → V i → Option (List Call)) (p q : (i : I) × V i)
    {calls : List Call} {after : Option (List Call)} → p ≡ q → Heard (told p.0 p.1) calls after
    → Heard (told q.0 q.1) calls after
heard_same told p q {calls} {after} same heard =
    subst (λ r. Heard (told r.0 r.1) calls after) same heard

-- what an object holds lives as long as a reference to it, where both together do
pub lives_on : (own held : List ℕ) → ((a : ℕ) → Mem a (own ++ held) → Mem a own) → ⊤ × ((a : ℕ) → Mem a held → Mem a own)
lives_on own held inside = (tt, λ a within. inside a (mem-append_right own within))
