use Rattle.silo_loops.proofs.Kept.{kept-refused, kept-told, line-called, of-called}
use Rattle.silo_loops.proofs.line.Line.ask.Goals as goal

pub invariant_of-self : goal.invariant_of-self
invariant_of-self g c = (
  of-called c.self.inside.handle c.call_by-answer.new.handle c.args.op c.call_by-answer.result c.call_by-answer.ensures.calls c.self.invariant.0,
  kept-refused c.self.inside.handle c.call_by-answer.new.handle c.self.inside.mark c.args.op c.call_by-answer.result c.in_default.field-0 c.self.inside.looked c.self.inside.pulled c.call_by-answer.ensures.calls c.in_default.is c.requires c.self.invariant.1,
)

pub invariant_of-self-2 : goal.invariant_of-self-2
invariant_of-self-2 g c = (
  of-called c.self.inside.handle c.call_by-answer.new.handle c.args.op c.call_by-answer.result c.call_by-answer.ensures.calls c.self.invariant.0,
  kept-told c.self.inside.handle c.call_by-answer.new.handle c.self.inside.mark c.args.op c.call_by-answer.result _ c.self.inside.looked c.self.inside.pulled c.is_ready-looks.result c.is_pull-pulls.result c.call_by-answer.ensures.calls c.in-Ok.is
      c.is_ready-looks.ensures c.is_pull-pulls.ensures c.requires c.self.invariant.1,
)

pub returns-in_default-clause-calls : goal.returns-in_default-clause-calls
returns-in_default-clause-calls g c = line-called _ _ _ _ _ _ c.self.view_is c.call_by-answer.ensures.calls c.call_by-answer.ensures.headline c.call_by-answer.ensures.stands

pub returns-clause-calls : goal.returns-clause-calls
returns-clause-calls g c = line-called _ _ _ _ _ _ c.self.view_is c.call_by-answer.ensures.calls c.call_by-answer.ensures.headline c.call_by-answer.ensures.stands
