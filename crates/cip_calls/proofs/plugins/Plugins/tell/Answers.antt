use Rattle.std.proofs.Common.{[], map, refl}
use Rattle.cip_plugin.specs.Calls.{OnEvent}
use Rattle.cip_calls.specs.Asked.{HasTold}
use Rattle.cip_calls.specs.Served.{Used}
use Rattle.cip_calls.proofs.Serving.{used_nobody, told_used, on_ok}
use Rattle.cip_calls.proofs.plugins.Plugins.tell.Goals as goal

pub returns-then-has_none-clause-used : goal.returns-then-has_none-clause-used
returns-then-has_none-clause-used g c =
    used_nobody (map (λ event. OnEvent event) c.args.self.now.queue) (g.R.Seated.state c.args.self.now.roster) c.args.self.now.judged.items (c.has_none.ensures c.if-has_none.true)

pub returns-then-has_none-clause-run : goal.returns-then-has_none-clause-run
returns-then-has_none-clause-run g c = record { steps = []; run = refl }

pub returns-clause-used : goal.returns-clause-used
returns-clause-used g c =
    let a = g.R.Seated.state c.args.self.now.roster in
    let b = g.R.Seated.state c.tell.new.self in
    let had = c.args.self.now.judged.items in
    on_ok c.tell.result (HasTold c.args.self.now.queue a b) (Used (map (λ event. OnEvent event) c.args.self.now.queue) a had b had)
    (told_used c.args.self.now.queue a b had) c.tell.ensures.told

pub returns-clause-frame : goal.returns-clause-frame
returns-clause-frame g c = (refl, refl)

pub returns-then-has_none-clause-frame : goal.returns-then-has_none-clause-frame
returns-then-has_none-clause-frame g c = (refl, refl)

pub returns-clause-sound : goal.returns-clause-sound
returns-clause-sound g c = c.tell.ensures.sound

pub returns-then-has_none-clause-sound : goal.returns-then-has_none-clause-sound
returns-then-has_none-clause-sound g c = c.requires.sound

pub returns-clause-run : goal.returns-clause-run
returns-clause-run g c = c.tell.ensures.run

pub tell-requires : goal.tell-requires
tell-requires g c = record { sound = c.requires.sound }
