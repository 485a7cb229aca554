use Rattle.std.proofs.Common.{refl}
use Rattle.cip_text_rules.specs.LpTokens.{Number, Infinite}
use Rattle.cip_lp.specs.declared.places.Stage.TheVariants.{BoundDue, BoundSign, LimitSign}
use Rattle.cip_lp.proofs.ReadLaws.{taken_as, bound_by, bound_front_by, misplaced}
use Rattle.cip_lp.specs.LpStages.{where_of}
use Rattle.cip_lp.proofs.StrayLaws.{bound_number_stray, bound_infinite_stray}
use Rattle.cip_lp.proofs.statements.Statements.bound_limit.Goals as goal

pub returns-in-Start : goal.returns-in-Start
returns-in-Start c = record {
  number = taken_as c.args.self.now c.front_limit.new.self c.front_limit.result _ _
      (bound_front_by c.args.self.now (Number c.args.text.now) refl c.in-Start.is) c.front_limit.ensures;
  infinite = taken_as c.args.self.now c.front_limit.new.self c.front_limit.result _ _
      (bound_front_by c.args.self.now (Infinite c.args.text.now) refl c.in-Start.is) c.front_limit.ensures;
}

pub returns-in-LimitSign : goal.returns-in-LimitSign
returns-in-LimitSign c = record {
  number = taken_as c.args.self.now c.front_limit-in-LimitSign.new.self c.front_limit-in-LimitSign.result _ _
      (bound_by c.args.self.now (Number c.args.text.now) LimitSign c.in-LimitSign.is)
      c.front_limit-in-LimitSign.ensures;
  infinite = taken_as c.args.self.now c.front_limit-in-LimitSign.new.self c.front_limit-in-LimitSign.result _ _
      (bound_by c.args.self.now (Infinite c.args.text.now) LimitSign c.in-LimitSign.is)
      c.front_limit-in-LimitSign.ensures;
}

pub returns-in-BoundDue : goal.returns-in-BoundDue
returns-in-BoundDue c = record {
  number = taken_as c.args.self.now c.last_limit.new.self c.last_limit.result _ _
      (bound_by c.args.self.now (Number c.args.text.now) BoundDue c.in-BoundDue.is) c.last_limit.ensures;
  infinite = taken_as c.args.self.now c.last_limit.new.self c.last_limit.result _ _
      (bound_by c.args.self.now (Infinite c.args.text.now) BoundDue c.in-BoundDue.is) c.last_limit.ensures;
}

pub returns-in-BoundSign : goal.returns-in-BoundSign
returns-in-BoundSign c = record {
  number = taken_as c.args.self.now c.last_limit-in-BoundSign.new.self c.last_limit-in-BoundSign.result _ _
      (bound_by c.args.self.now (Number c.args.text.now) BoundSign c.in-BoundSign.is) c.last_limit-in-BoundSign.ensures;
  infinite = taken_as c.args.self.now c.last_limit-in-BoundSign.new.self c.last_limit-in-BoundSign.result _ _
      (bound_by c.args.self.now (Infinite c.args.text.now) BoundSign c.in-BoundSign.is)
      c.last_limit-in-BoundSign.ensures;
}

pub returns-in_default : goal.returns-in_default
returns-in_default c = record {
  number = misplaced c.args.self.now _ _ (where_of c.args.self.now)
      (bound_number_stray (where_of c.args.self.now) c.args.self.now.place.stage c.args.self.now.place c.args.text.now
      c.in_default.not-Start c.in_default.not-BoundDue c.in_default.not-BoundSign c.in_default.not-LimitSign
      c.in_default.not-BoundedName);
  infinite = misplaced c.args.self.now _ _ (where_of c.args.self.now)
      (bound_infinite_stray (where_of c.args.self.now) c.args.self.now.place.stage c.args.self.now.place c.args.text.now
      c.in_default.not-Start c.in_default.not-BoundDue c.in_default.not-BoundSign c.in_default.not-LimitSign
      c.in_default.not-BoundedName);
}
