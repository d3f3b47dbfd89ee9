-- What a request means is done on its call, task by task, or it is refused as is meant.
use Rattle.meson_keywords.proofs.Words.{◌<◌, ◌≡◌, length, sym, ap, ◌∙◌, subst, arith, OnOk, err_from_is_err_and, bytes_at, value_with_name, IsProject}
use Rattle.meson_keywords.proofs.Words.{project, not_hidden, kept_args, kwargs_key, IfRefused, as_many, IsDone, MayNotBeDone}
use Rattle.meson_keywords.proofs.Words.{unmeant, plain_trees, so_far, CallStands, request_steps, tasks_steps, asked}
use Rattle.meson_calls.proofs.CallLists.{inside}
use Rattle.meson_calls.proofs.NotedCalls.{place_of_name}
use Rattle.meson_calls.specs.Searching.{name_at}
use Rattle.meson_keywords.proofs.Requests.{none_named, in_trees, stands, no_words, hides, task_by_task, parsed_as, of_trees}
use Rattle.meson_keywords.proofs.changing.changed.Goals as goal

pub place_named-requires : goal.place_named-requires
place_named-requires c = parsed_as c.args.work.now.files c.as_slice-trees.ensures.value c.requires.project

pub returns-in_err-call-clause-refused : goal.returns-in_err-call-clause-refused
returns-in_err-call-clause-refused c =
    let error = err_from_is_err_and c.from_residual.result c.from_residual.ensures.1 in
    rw (error.1, error.2) (λ other.
    let files = c.args.work.now.files in
    let trees = c.as_slice-trees.result.now in
    let r = c.args.request.role in
    let id = name_at c.args.request.name in
    let words = asked c.args.request.words in
    let e = c.in_err-call.field-0.0 in
    let why = sym (place_of_name r id files trees (parsed_as files c.as_slice-trees.ensures.value c.requires.project)) ∙ c.in_err-call.ensures.refused other in
    of_trees (λ l. MayNotBeDone l (request_steps (project l) (r, id, words)) e) files c.as_slice-trees.ensures.value (unmeant e (none_named files trees r id words e why)))

pub returns-in_err-tasks-clause-refused : goal.returns-in_err-tasks-clause-refused
returns-in_err-tasks-clause-refused c =
    let error = err_from_is_err_and c.from_residual-in_err-tasks.result c.from_residual-in_err-tasks.ensures.1 in
    rw (error.1, error.2) (λ other.
    let files = c.args.work.now.files in
    let trees = c.as_slice-trees.result.now in
    let r = c.args.request.role in
    let id = name_at c.args.request.name in
    let words = asked c.args.request.words in
    let e = c.in_err-tasks.field-0.0 in
    let found = sym (place_of_name r id files trees (parsed_as files c.as_slice-trees.ensures.value c.requires.project)) ∙ c.in_ok-call.ensures.found in
    of_trees (λ l. MayNotBeDone l (request_steps (project l) (r, id, words)) e) files c.as_slice-trees.ensures.value
    (unmeant e (no_words files trees r id words c.in_ok-call.call found e (c.in_err-tasks.ensures.refused other))))

pub list_of_call-requires : goal.list_of_call-requires
list_of_call-requires c =
    let files = c.args.work.now.files in
    let trees = c.as_slice-trees.result.now in
    let r = c.args.request.role in
    let id = name_at c.args.request.name in
    let found = sym (place_of_name r id files trees (parsed_as files c.as_slice-trees.ensures.value c.requires.project)) ∙ c.in_ok-call.ensures.found in
    in_trees files trees r id (asked c.args.request.words) c.in_ok-call.call found (parsed_as files c.as_slice-trees.ensures.value c.requires.project)

pub bytes-requires : goal.bytes-requires
bytes-requires c =
    let files = c.args.work.now.files in
    let trees = c.as_slice-trees.result.now in
    let r = c.args.request.role in
    let id = name_at c.args.request.name in
    let are = parsed_as files c.as_slice-trees.ensures.value c.requires.project in
    let found = sym (place_of_name r id files trees (parsed_as files c.as_slice-trees.ensures.value c.requires.project)) ∙ c.in_ok-call.ensures.found in
    let within : c.in_ok-call.call.file < length trees = inside trees c.in_ok-call.call (in_trees files trees r id (asked c.args.request.words) c.in_ok-call.call found are) in
    let many = as_many files trees are in
    omega (arith, within, many)

pub returns-in_err-not_hidden-clause-refused : goal.returns-in_err-not_hidden-clause-refused
returns-in_err-not_hidden-clause-refused c =
    let error = err_from_is_err_and c.from_residual-in_err-not_hidden.result c.from_residual-in_err-not_hidden.ensures.1 in
    rw (error.1, error.2) (λ other.
    let files = c.args.work.now.files in
    let trees = c.as_slice-trees.result.now in
    let r = c.args.request.role in
    let id = name_at c.args.request.name in
    let words = asked c.args.request.words in
    let place = c.in_ok-call.call in
    let found = sym (place_of_name r id files trees (parsed_as files c.as_slice-trees.ensures.value c.requires.project)) ∙ c.in_ok-call.ensures.found in
    let t = c.in_ok-tasks.ensures.made in
    let bytes = bytes_at place.file files in
    let list = c.list_of_call.result.now in
    let arguments = c.list_of_call.ensures (in_trees files trees r id words place found (parsed_as files c.as_slice-trees.ensures.value c.requires.project)) in
    let hidden = sym (c.not_hidden.ensures ∙ ap (λ s. not_hidden (kept_args s (value_with_name kwargs_key) 0 c.get-args.result.now)) c.bytes.ensures
    ∙ ap (λ xs. not_hidden (kept_args bytes (value_with_name kwargs_key) 0 xs)) c.get-args.ensures) ∙ c.in_err-not_hidden.was in
    let e = c.in_err-not_hidden.field-0.0 in
    of_trees (λ l. MayNotBeDone l (request_steps (project l) (r, id, words)) e) files c.as_slice-trees.ensures.value
    (unmeant e (hides files trees r id words place found t.tasks t.is bytes list arguments e hidden)))

pub tasks_done-requires-clause-stands : goal.tasks_done-requires-clause-stands
tasks_done-requires-clause-stands c =
    let files = c.args.work.now.files in
    let trees = c.as_slice-trees.result.now in
    let r = c.args.request.role in
    let id = name_at c.args.request.name in
    let place = c.in_ok-call.call in
    let found = sym (place_of_name r id files trees (parsed_as files c.as_slice-trees.ensures.value c.requires.project)) ∙ c.in_ok-call.ensures.found in
    let is = c.as_slice-trees.ensures.value in
    of_trees (λ l. CallStands place (plain_trees l)) files is (stands files trees r id (asked c.args.request.words) place found (subst (λ ts. IsProject (record { files = files; parsed = ts })) (sym is) c.requires.project))

pub returns-clause-done : goal.returns-clause-done
returns-clause-done c =
    let files = c.args.work.now.files in
    let trees = c.as_slice-trees.result.now in
    let r = c.args.request.role in
    let id = name_at c.args.request.name in
    let words = asked c.args.request.words in
    let place = c.in_ok-call.call in
    let found = sym (place_of_name r id files trees (parsed_as files c.as_slice-trees.ensures.value c.requires.project)) ∙ c.in_ok-call.ensures.found in
    let t = c.in_ok-tasks.ensures.made in
    let bytes = bytes_at place.file files in
    let list = c.list_of_call.result.now in
    let arguments = c.list_of_call.ensures (in_trees files trees r id words place found (parsed_as files c.as_slice-trees.ensures.value c.requires.project)) in
    let hidden = sym (c.not_hidden.ensures ∙ ap (λ s. not_hidden (kept_args s (value_with_name kwargs_key) 0 c.get-args.result.now)) c.bytes.ensures
    ∙ ap (λ xs. not_hidden (kept_args bytes (value_with_name kwargs_key) 0 xs)) c.get-args.ensures) ∙ c.in_ok-not_hidden.was in
    let same = of_trees (λ l. tasks_steps place t.tasks (plain_trees l) ≡ request_steps (project l) (r, id, words)) files c.as_slice-trees.ensures.value
    (task_by_task files trees r id words place found t.tasks t.is bytes list arguments hidden) in
    let old = so_far c.args.work.now in
    subst (λ m. OnOk c.tasks_done.result (IsDone old m c.tasks_done.new.work)) same (c.tasks_done.ensures.done t.tasks t.are)

pub returns-clause-refused : goal.returns-clause-refused
returns-clause-refused c =
    let files = c.args.work.now.files in
    let trees = c.as_slice-trees.result.now in
    let r = c.args.request.role in
    let id = name_at c.args.request.name in
    let words = asked c.args.request.words in
    let place = c.in_ok-call.call in
    let found = sym (place_of_name r id files trees (parsed_as files c.as_slice-trees.ensures.value c.requires.project)) ∙ c.in_ok-call.ensures.found in
    let t = c.in_ok-tasks.ensures.made in
    let bytes = bytes_at place.file files in
    let list = c.list_of_call.result.now in
    let arguments = c.list_of_call.ensures (in_trees files trees r id words place found (parsed_as files c.as_slice-trees.ensures.value c.requires.project)) in
    let hidden = sym (c.not_hidden.ensures ∙ ap (λ s. not_hidden (kept_args s (value_with_name kwargs_key) 0 c.get-args.result.now)) c.bytes.ensures
    ∙ ap (λ xs. not_hidden (kept_args bytes (value_with_name kwargs_key) 0 xs)) c.get-args.ensures) ∙ c.in_ok-not_hidden.was in
    let same = of_trees (λ l. tasks_steps place t.tasks (plain_trees l) ≡ request_steps (project l) (r, id, words)) files c.as_slice-trees.ensures.value
    (task_by_task files trees r id words place found t.tasks t.is bytes list arguments hidden) in
    let old = so_far c.args.work.now in
    subst (λ m. IfRefused c.tasks_done.result (MayNotBeDone old m)) same (c.tasks_done.ensures.refused t.tasks t.are)
