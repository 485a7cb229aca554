use Rattle.std.proofs.Common.{refl}
use Rattle.cip_plugin.proofs.boxed.AnyPlugin.call.Goals as goal

pub call-requires : goal.call-requires
call-requires g c = rw c.in-Separator.is at c.requires

pub returns-in-Separator : goal.returns-in-Separator
returns-in-Separator g c =
    rw c.in-Separator.is (record {
      heard = c.call.ensures.heard;
      given = c.call.ensures.given;
      kind = refl;
    })

pub call-requires-in-Propagator : goal.call-requires-in-Propagator
call-requires-in-Propagator g c = rw c.in-Propagator.is at c.requires

pub returns-in-Propagator : goal.returns-in-Propagator
returns-in-Propagator g c =
    rw c.in-Propagator.is (record {
      heard = c.call-in-Propagator.ensures.heard;
      given = c.call-in-Propagator.ensures.given;
      kind = refl;
    })

pub call-requires-in-Pricer : goal.call-requires-in-Pricer
call-requires-in-Pricer g c = rw c.in-Pricer.is at c.requires

pub returns-in-Pricer : goal.returns-in-Pricer
returns-in-Pricer g c =
    rw c.in-Pricer.is (record {
      heard = c.call-in-Pricer.ensures.heard;
      given = c.call-in-Pricer.ensures.given;
      kind = refl;
    })

pub call-requires-in-Heuristic : goal.call-requires-in-Heuristic
call-requires-in-Heuristic g c = rw c.in-Heuristic.is at c.requires

pub returns-in-Heuristic : goal.returns-in-Heuristic
returns-in-Heuristic g c =
    rw c.in-Heuristic.is (record {
      heard = c.call-in-Heuristic.ensures.heard;
      given = c.call-in-Heuristic.ensures.given;
      kind = refl;
    })

pub call-requires-in-BranchRule : goal.call-requires-in-BranchRule
call-requires-in-BranchRule g c = rw c.in-BranchRule.is at c.requires

pub returns-in-BranchRule : goal.returns-in-BranchRule
returns-in-BranchRule g c =
    rw c.in-BranchRule.is (record {
      heard = c.call-in-BranchRule.ensures.heard;
      given = c.call-in-BranchRule.ensures.given;
      kind = refl;
    })

pub call-requires-in-ConsHandler : goal.call-requires-in-ConsHandler
call-requires-in-ConsHandler g c = rw c.in-ConsHandler.is at c.requires

pub returns-in-ConsHandler : goal.returns-in-ConsHandler
returns-in-ConsHandler g c =
    rw c.in-ConsHandler.is (record {
      heard = c.call-in-ConsHandler.ensures.heard;
      given = c.call-in-ConsHandler.ensures.given;
      kind = refl;
    })

pub call-requires-in-EventHandler : goal.call-requires-in-EventHandler
call-requires-in-EventHandler g c = rw c.in-EventHandler.is at c.requires

pub returns-in-EventHandler : goal.returns-in-EventHandler
returns-in-EventHandler g c =
    rw c.in-EventHandler.is (record {
      heard = c.call-in-EventHandler.ensures.heard;
      given = c.call-in-EventHandler.ensures.given;
      kind = refl;
    })
