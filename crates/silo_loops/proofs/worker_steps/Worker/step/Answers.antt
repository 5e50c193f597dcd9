use Rattle.silo_loops.proofs.Prelude.{inr, refl}
use Rattle.silo_loops.proofs.Advancing.{steps-asked, steps-called}
use Rattle.silo_loops.proofs.worker_steps.Worker.step.Goals as goal

pub returns-in-Rest : goal.returns-in-Rest
returns-in-Rest g c = λ rounds counted. steps-called g.G.Gate.follows c.look.result (c.look.ensures rounds counted).0 refl

pub returns-in-Enter : goal.returns-in-Enter
returns-in-Enter g c = λ rounds counted. steps-asked g.G.Gate.follows c.enter.result (c.enter.ensures rounds counted) refl

pub returns-in-Begin : goal.returns-in-Begin
returns-in-Begin g c = λ rounds counted. steps-called g.G.Gate.follows c.begin.result (c.begin.ensures rounds counted) refl

pub returns-then-turn-len : goal.returns-then-turn-len
returns-then-turn-len g c = λ rounds counted. (refl, inr (inr (c.handle.ensures rounds counted)))

pub returns-else-turn-len : goal.returns-else-turn-len
returns-else-turn-len g c = λ rounds counted. steps-called g.G.Gate.follows c.commit.result (c.commit.ensures rounds counted) refl

pub returns-in-Tell : goal.returns-in-Tell
returns-in-Tell g c = λ rounds counted. (refl, inr (inr (c.tell.ensures rounds counted)))

pub returns-in-Again : goal.returns-in-Again
returns-in-Again g c = λ rounds counted. steps-called g.G.Gate.follows c.again.result (c.again.ensures rounds counted) refl

pub returns-in-Leave : goal.returns-in-Leave
returns-in-Leave g c = λ rounds counted. steps-asked g.G.Gate.follows c.leave.result (c.leave.ensures rounds counted) refl
