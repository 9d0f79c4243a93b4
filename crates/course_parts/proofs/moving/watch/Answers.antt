use Rattle.std.proofs.Common.{◌∙◌, ◌++◌, ◌∷◌, [], List, ap}
use Rattle.nd_base.specs.declared.frame.FrameName.{FrameName}
use Rattle.course_parts.proofs.Windows.{watched-let_go, watched-now}
use Rattle.course_parts.proofs.moving.watch.Goals as goal

pub returns-in-LetGo-clause-watched : goal.returns-in-LetGo-clause-watched
returns-in-LetGo-clause-watched c =
    λ flags names stands. watched-let_go flags names c.args.fired c.args.name c.in-LetGo.unwanted c.args.window.now c.push.new.self _ stands
    c.in-LetGo.ensures.rule (c.in-LetGo.ensures.push flags stands.after)
    (c.push_back_reserved-in-LetGo.ensures.items ∙ ap (λ (ts : List FrameName). ts ++ c.in-LetGo.unwanted ∷ []) c.requires.still)

pub returns-in-Now-clause-watched : goal.returns-in-Now-clause-watched
returns-in-Now-clause-watched c =
    λ flags names stands. watched-now flags names c.args.fired c.args.name c.in-Now.newest c.args.window.now c.push.new.self c.drain.new.window _ stands
    c.in-Now.ensures.rule (c.in-Now.ensures.push flags stands.after) c.drain.ensures.window
    (c.push_back_reserved-in-Now.ensures.items
    ∙ (ap (λ (ts : List FrameName). ts ++ c.in-Now.newest ∷ []) c.drain.ensures.items
    ∙ ap (λ (ts : List FrameName). (ts ++ c.push.new.self.pending) ++ c.in-Now.newest ∷ []) c.requires.still))
