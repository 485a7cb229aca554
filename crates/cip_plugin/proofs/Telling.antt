-- What is told behind some calls and then others.
use Rattle.std.proofs.Common.{◌≡◌, ◌+◌, ◌≤◌, List, [], ◌∷◌, ◌++◌, length, take, drop, Option, None, Some, IsSome, IsTrue, All, sym, ◌∙◌, ap, refl, arith, zero-add, append_assoc}
use Rattle.std.proofs.lemmas.List.{append-nil, take_at, drop_at}
use Rattle.std.proofs.lemmas.List.Elements.{All-same, All-take, All-drop}
use Rattle.cip_plugin.specs.Calls.{Call, Init, InitSolve, Asked, ExitSolve, Exit}
use Rattle.cip_plugin.specs.Telling.{Heard, HeardBy, HasToTell, answered, endings, told_endings}

-- what is so of all of a list is so of its parts
pub all_parts : {A : Type 0} (P : A → Type 0) (xs ys : List A) → All P (xs ++ ys) → All P xs × All P ys
all_parts P xs ys all = (
  All-same P xs (take (length xs) (xs ++ ys)) (sym (take_at xs ys (length xs) refl))
      (All-take P (length xs) (xs ++ ys) all),
  All-same P ys (drop (length xs) (xs ++ ys)) (sym (drop_at xs ys (length xs) refl))
      (All-drop P (length xs) (xs ++ ys) all),
)

-- the two last calls among some and others
pub endings-append : (xs ys : List Call) → endings (xs ++ ys) ≡ endings xs + endings ys
endings-append [] ys = sym (zero-add (endings ys))
endings-append (Init was ∷ xs) ys = endings-append xs ys
endings-append (InitSolve was ∷ xs) ys = endings-append xs ys
endings-append (Asked ask given ∷ xs) ys = endings-append xs ys
endings-append (ExitSolve ∷ xs) ys = let rest = endings-append xs ys in omega arith
endings-append (Exit ∷ xs) ys = let rest = endings-append xs ys in omega arith

-- what is told goes on
pub HeardBy_append : (a : Option (List Call)) (c d : List Call) (b e : Option (List Call)) → HeardBy a c b
    → HeardBy b d e → HeardBy a (c ++ d) e
HeardBy_append a c d b None first second = tt
HeardBy_append None c d None (Some z) first second = absurd second
HeardBy_append None c d (Some y) (Some z) first second = absurd first
HeardBy_append (Some x) c d None (Some z) first second = absurd second
HeardBy_append (Some x) c d (Some y) (Some z) first second =
    second ∙ ap (λ (front : List Call). front ++ d) first ∙ append_assoc x c d

-- a plugin that still tells has told the two last calls as often as they came
pub told_more : (a : Option (List Call)) (c : List Call) (b : Option (List Call)) → HeardBy a c b → IsSome b
    → told_endings b ≡ told_endings a + endings c
told_more a c None by tells = cc
told_more None c (Some y) by tells = absurd by
told_more (Some x) c (Some y) by tells = ap endings by ∙ endings-append x c

-- some calls and then others
pub Heard_append : (a : Option (List Call)) (c d : List Call) (b e : Option (List Call)) → Heard a c b → Heard b d e
    → Heard a (c ++ d) e
Heard_append a c d b e first second = record {
  by = HeardBy_append a c d b e first.by second.by;
  tells = λ has.
      let each = all_parts (λ call. IsTrue (answered call)) c d has.answered in
      let few : told_endings a + endings (c ++ d) ≤ 2 = has.endings in
      let split = endings-append c d in
      let had : HasToTell a c = record { told = has.told; answered = each.0; endings = omega arith } in
      let told : IsSome b = first.tells had in
      let more = told_more a c b first.by told in
      second.tells (record { told = told; answered = each.1; endings = omega arith });
}

-- no call at all
pub Heard_none : (a : Option (List Call)) → Heard a [] a
Heard_none None = record { by = tt; tells = λ has. has.told }
Heard_none (Some x) = record { by = sym (append-nil x); tells = λ has. has.told }
