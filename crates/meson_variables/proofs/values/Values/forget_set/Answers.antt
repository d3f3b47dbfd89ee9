use Rattle.meson_variables.proofs.Words.{◌∙◌, sym, ap, if◌then◌else◌, None, on_ok_weaker, what_view, value_in, note_sets}
use Rattle.meson_variables.proofs.values.Values.forget_set.Goals as goal

pub returns-in-Call : goal.returns-in-Call
returns-in-Call c =
    on_ok_weaker c.forget_called.result (λ so x. so x
    ∙ ap (λ w. if note_sets x (what_view c.args.note.now.source.now w) then None else value_in c.args.self.now x) (sym c.in-Call.is)) c.forget_called.ensures

pub returns-in-Assign : goal.returns-in-Assign
returns-in-Assign c = λ x. ap (λ w. if note_sets x (what_view c.args.note.now.source.now w) then None else value_in c.args.self.now x) (sym c.in-Assign.is)

pub returns-in-Loop : goal.returns-in-Loop
returns-in-Loop c = λ x. c.forget_each.ensures x
    ∙ ap (λ w. if note_sets x (what_view c.args.note.now.source.now w) then None else value_in c.args.self.now x) (sym c.in-Loop.is)
