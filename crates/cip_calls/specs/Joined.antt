-- How the uses of plugins in the parts of the work on a node are one.
use Rattle.std.specs.Prelude.{◌≡◌, ℕ, List, [], ◌++◌, All, true}
use Rattle.cip_plugin.specs.Calls.{Ask}
use Rattle.cip_plugin.specs.Seats.{State, is_settled}
use Rattle.cip_calls.specs.declared.judged.Judged.{Judged}
use Rattle.cip_calls.specs.Served.{Used}

-- one part after the other asks what both ask; what asks more asks each of its parts; and no step asks nothing
pub record UsesJoin : Type 0 where
  pub further : (xs ys : List Ask) (a b c : State) (h m e : List (ℕ × Judged))
      → All (λ seat. is_settled seat ≡ true) b.seats → Used xs a h b m → Used ys b m c e → Used (xs ++ ys) a h c e
  pub parts : (xs ys : List Ask) (a b : State) (h m : List (ℕ × Judged)) → Used (xs ++ ys) a h b m
      → Used xs a h b m × Used ys a h b m
  pub none : (a : State) (h : List (ℕ × Judged)) → Used [] a h a h
