-- What is told, one after another.
use Rattle.std.proofs.Common.{◌≡◌, ℕ, suc, ◌+◌, ◌<◌, List, [], ◌∷◌, ◌++◌, length, Option, None, Some, take, drop, get_or, refl, sym, ap, ◌∙◌, subst, arith}
use Rattle.std.proofs.lemmas.List.{append-nil, append_assoc, length-take-le, take-append-drop, take_more}
use Rattle.cip_cert.specs.declared.pricing.BlockPoint.{BlockPoint}
use Rattle.cip_master.specs.MasterTasks.{Task}
use Rattle.cip_price.specs.Asks.{Asked, Told, Tells, MayTell, MayTellTo}
use Rattle.cip_price.specs.OfferedPoints.{drop_of, drops_from}
use Rattle.cip_price.specs.BlockAsks.{told_of}
use Rattle.cip_price.specs.PriceRounds.{told_in}

-- ---- lists that are told

pub tells_none : (told : Option (List Told)) → Tells told [] told
tells_none None = refl
tells_none (Some before) = ap Some (sym (append-nil before))

pub tells_from : (told middle last : Option (List Told)) (these more : List Told) → Tells told these middle
    → Tells middle more last → Tells told (these ++ more) last
tells_from None middle last these more h k =
    subst (λ (m : Option (List Told)). Tells m more last) h k
tells_from (Some before) middle last these more h k =
    let e : last ≡ Some ((before ++ these) ++ more) =
    subst (λ (m : Option (List Told)). Tells m more last) h k in
    e ∙ ap Some (append_assoc before these more)

pub may_none : (told : Option (List Told)) → MayTell told [] told
may_none None = tt
may_none (Some before) = sym (append-nil before)

pub may_tells : (told telling : Option (List Told)) (these : List Told) → Tells told these telling
    → MayTell told these telling
may_tells None telling these h = subst (λ (t : Option (List Told)). MayTell None these t) (sym h) tt
may_tells (Some before) telling these h =
    subst (λ (t : Option (List Told)). MayTell (Some before) these t) (sym h) refl

pub may_from : (told middle last : Option (List Told)) (these more : List Told) → Tells told these middle
    → MayTell middle more last → MayTell told (these ++ more) last
may_from told middle None these more h k = tt
may_from None middle (Some last) these more h k =
    subst (λ (m : Option (List Told)). MayTell m more (Some last)) h k
may_from (Some before) middle (Some last) these more h k =
    subst (λ (m : Option (List Told)). MayTell m more (Some last)) h k ∙ append_assoc before these more

-- ---- a front part

-- some are told, and then a front part of some more
pub front_from : (told middle last : Option (List Told)) (these more : List Told) → Tells told these middle
    → MayTellTo [] more middle last → MayTellTo [] (these ++ more) told last
front_from told middle last these more h k = record {
  front = these ++ k.front;
  rest = k.rest;
  more_is = ap (λ ts. these ++ ts) k.more_is ∙ sym (append_assoc these k.front k.rest);
  tells = may_from told middle last these k.front h k.tells;
}

-- so it is behind those that are told anyway
pub front_behind : (told middle last : Option (List Told)) (these more : List Told) → Tells told these middle
    → MayTellTo [] more middle last → MayTellTo these more told last
front_behind told middle last these more h k = record {
  front = k.front;
  rest = k.rest;
  more_is = k.more_is;
  tells = may_from told middle last these k.front h k.tells;
}

-- none of them
pub front_none : (told last : Option (List Told)) (more : List Told) → MayTell told [] last → MayTellTo [] more told last
front_none told last more h = record { front = []; rest = more; more_is = refl; tells = h }

-- all of them
pub front_all : (told last : Option (List Told)) (more : List Told) → Tells told more last → MayTellTo [] more told last
front_all told last more h =
    record { front = more; rest = []; more_is = sym (append-nil more); tells = may_tells told last more h }

-- those at the front alone
pub front_part : (told middle last : Option (List Told)) (these more all : List Told) → all ≡ these ++ more
    → Tells told these middle → MayTell middle [] last → MayTellTo [] all told last
front_part told middle last these more all e h k =
    subst (λ (ts : List Told). MayTellTo [] ts told last) (sym e)
    (front_from told middle last these more h (front_none middle last more k))

-- ---- points that are dropped

pub drops_both : (task : Task) (block first : ℕ) (xs ys : List BlockPoint)
    → drops_from task block first (xs ++ ys) ≡ drops_from task block first xs ++ drops_from task block (first + length xs) ys
drops_both task block first [] ys =
    let none : first ≡ first + 0 = omega arith in
    ap (λ n. drops_from task block n ys) none
drops_both task block first (x ∷ xs) ys =
    let next : suc first + length xs ≡ first + suc (length xs) = omega arith in
    ap (λ ts. drop_of task block first x ++ ts) (drops_both task block (suc first) xs ys)
    ∙ ap (λ n. drop_of task block first x ++ (drops_from task block (suc first) xs ++ drops_from task block n ys)) next
    ∙ sym (append_assoc (drop_of task block first x) (drops_from task block (suc first) xs)
    (drops_from task block (first + suc (length xs)) ys))

-- one point more
pub drops_more : (task : Task) (block : ℕ) (points : List BlockPoint) (at : ℕ) (p : BlockPoint) → at < length points
    → p ≡ get_or points at p
    → drops_from task block 0 (take (at + 1) points) ≡ drops_from task block 0 (take at points) ++ drop_of task block at p
drops_more task block points at p l e =
    let long : length (take at points) ≡ at = length-take-le at points (omega (arith, l)) in
    let place : 0 + length (take at points) ≡ at = omega (arith, long) in
    ap (drops_from task block 0) (take_more points at p l ∙ ap (λ (q : BlockPoint). take at points ++ q ∷ []) (sym e))
    ∙ drops_both task block 0 (take at points) (p ∷ [])
    ∙ ap (λ n. drops_from task block 0 (take at points) ++ drops_from task block n (p ∷ [])) place
    ∙ ap (λ ts. drops_from task block 0 (take at points) ++ ts) (append-nil (drop_of task block at p))

-- those of the first points stand at the front
pub drops_front : (task : Task) (block : ℕ) (points : List BlockPoint) (n : ℕ)
    → drops_from task block 0 points
    ≡ drops_from task block 0 (take n points) ++ drops_from task block (0 + length (take n points)) (drop n points)
drops_front task block points n =
    ap (drops_from task block 0) (sym (take-append-drop n points))
    ∙ drops_both task block 0 (take n points) (drop n points)

-- ---- asks

pub told_both : (task : Task) (xs ys : List Asked) → told_in task (xs ++ ys) ≡ told_in task xs ++ told_in task ys
told_both task [] ys = refl
told_both task (a ∷ xs) ys =
    ap (λ ts. told_of task a ++ ts) (told_both task xs ys)
    ∙ sym (append_assoc (told_of task a) (told_in task xs) (told_in task ys))

-- one ask more
pub told_more : (task : Task) (asks : List Asked) (a : Asked)
    → told_in task (asks ++ a ∷ []) ≡ told_in task asks ++ told_of task a
told_more task asks a =
    told_both task asks (a ∷ []) ∙ ap (λ ts. told_in task asks ++ ts) (append-nil (told_of task a))
