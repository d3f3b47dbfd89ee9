use Rattle.meson_variables.proofs.Words.{◌≡◌, ◌∙◌, length, ap, arith, not, project_in, note_views, notes, sought_words, has_unknown, by_notes}
use Rattle.meson_calls.proofs.NotedCalls.{noted_good}
use Rattle.meson_variables.proofs.SoughtValues.{all_single, one_whole, some_views}
use Rattle.meson_variables.proofs.variables.noted_values.Goals as goal

pub known_values-requires-clause-good : goal.known_values-requires-clause-good
known_values-requires-clause-good c = noted_good c.args.noted.now c.requires.2

pub returns : goal.returns
returns c = λ x.
    let n = c.args.noted.now in
    let fs = n.files.now in
    let is = c.requires.2 in
    let one : length fs ≡ 1 = omega arith in
    let all : note_views n.notes.now ≡ notes (project_in n) =
    one_whole (sought_words c.requires.0 c.requires.1) fs n.trees.now (note_views n.notes.now) is.whole.parsed one is.taken (some_views n.notes.now c.if-is_empty.ensures) in
    c.in_ok-values.ensures x ∙ ap (λ ns. by_notes x (not (has_unknown fs ns)) ns) all ∙ all_single fs n.trees.now is.whole.parsed x
