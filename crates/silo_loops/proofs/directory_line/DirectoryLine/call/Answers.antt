use Rattle.silo_loops.proofs.Kept.{directory-called}
use Rattle.silo_loops.proofs.directory_line.DirectoryLine.call.Goals as goal

pub returns-in-Ok : goal.returns-in-Ok
returns-in-Ok g c = directory-called _ _ _ _ _ c.self.view_is c.call_by-answer.ensures.calls c.call_by-answer.ensures.permit c.call_by-answer.ensures.stands

pub returns-in_default : goal.returns-in_default
returns-in_default g c = directory-called _ _ _ _ _ c.self.view_is c.call_by-answer.ensures.calls c.call_by-answer.ensures.permit c.call_by-answer.ensures.stands
