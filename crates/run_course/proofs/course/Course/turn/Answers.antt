use Rattle.run_course.proofs.course.Course.turn.Goals as goal

pub returns : goal.returns
returns g c = λ some. c.state.ensures.kept.next_child c.requires.deals some
