-- The steps that a request means leave of its call what its tasks leave.
use Rattle.meson_keywords.proofs.Words.{◌≡◌, [], sym, ap, ◌∙◌, Ok, then_ok, keyword, project, kwargs_key, not_hidden, plain_trees, then_was, RequestsLeave}
use Rattle.meson_keywords.proofs.Words.{call_changed, tasks_steps, trees_of, asked_tasks}
use Rattle.meson_calls.specs.Finding.{the_call}
use Rattle.meson_keywords.proofs.AskedTasks.{asked_may}
use Rattle.meson_keywords.proofs.CallKnown.{known_stand}
use Rattle.meson_keywords.proofs.CallRoom.{call_has_room, trees_are}
use Rattle.meson_keywords.proofs.StepsLeave.{steps-leave}
use Rattle.meson_steps.proofs.WorkKnown.{known_first}

pub requests-leave : RequestsLeave
requests-leave old is r id asked utf8 steps made =
    let c = then_was (the_call (project old) r id) (call_changed (project old) (asked_tasks r asked)) steps made in
    let ts = then_was (asked_tasks r asked) (λ us. then_ok (not_hidden (keyword kwargs_key c.0.it)) (λ _. tasks_steps c.0.place us (trees_of (project old)))) steps c.2 in
    let shown = then_was (not_hidden (keyword kwargs_key c.0.it)) (λ _. tasks_steps c.0.place ts.0 (trees_of (project old))) steps ts.2 in
    let here : tasks_steps c.0.place ts.0 (plain_trees old) ≡ Ok steps = ap (tasks_steps c.0.place ts.0) (sym (trees_are old)) ∙ shown.2 in
    record {
      call = c.0;
      is_call = c.1;
      tasks = ts.0;
      are_tasks = ts.1;
      leave = steps-leave ts.0 (asked_may r asked utf8 ts.0 ts.1) c.0.place (plain_trees old) (known_stand [] old.files old.parsed (known_first old.files old.parsed is.parsed)) (call_has_room old is r id c.0 c.1) steps here;
    }
