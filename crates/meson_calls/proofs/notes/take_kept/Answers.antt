use Rattle.meson_calls.proofs.Words.{cons_option, option_map, OnOk, ◌≡◌, ℕ, ◌≤◌, List, [], ◌∷◌, ◌++◌, true, length, Some, sym, ap, ◌∙◌, subst, append-nil, Span}
use Rattle.meson_calls.proofs.Words.{expression_on_path, expr_view, text_at, view, Note, an_assignment, taken_view, Placed, place, placed, is_among}
use Rattle.meson_calls.proofs.Words.{without_last}
use Rattle.meson_calls.proofs.AssignmentsKept.{has_steps, note_kept}
use Rattle.meson_calls.proofs.notes.take_kept.Goals as goal

pub slice_bounds-take-count : goal.slice_bounds-take-count
slice_bounds-take-count c =
    let source = c.args.source.now in
    let steps = c.args.assignment.now.value.steps in
    let there : expression_on_path (view source c.args.parsed.now) steps ≡ Some (expr_view source c.in-Some.value.now) =
    sym (c.expr_at.ensures source) ∙ ap (option_map (λ e. expr_view source e.now)) c.in-Some.is in
    let long = has_steps (view source c.args.parsed.now) steps _ there in
    subst (λ path. 1 ≤ length path) (sym c.get-path.ensures) long

pub returns-in-Some : goal.returns-in-Some
returns-in-Some c =
    let source = c.args.source.now in
    let names = c.args.names.now in
    let k = c.args.assignment.now in
    let note : List ℕ → Placed (Note Span) = λ path. placed (place c.args.file (without_last path)) (an_assignment (text_at source k.name) k.sets (expr_view source c.in-Some.value.now)) in
    let among : is_among names (text_at source k.name) ≡ true = sym (ap (is_among names) c.text_of.ensures) ∙ sym c.is_among.ensures ∙ c.if-not-is_among.false in
    let there = sym (ap (option_map (λ e. expr_view source e.now)) c.in-Some.is) ∙ c.expr_at.ensures source in
    let is = note_kept names c.args.file source c.args.parsed.now k among _ there in
    subst (λ ns. OnOk c.take.result (taken_view c.take.new.self ≡ taken_view c.args.taken.now ++ ns)) (ap (λ path. note path ∷ []) c.get-path.ensures ∙ ap (λ o. cons_option o []) (sym is)) c.take.ensures

pub returns-in-None : goal.returns-in-None
returns-in-None c =
    let source = c.args.source.now in
    let names = c.args.names.now in
    let k = c.args.assignment.now in
    let among : is_among names (text_at source k.name) ≡ true = sym (ap (is_among names) c.text_of.ensures) ∙ sym c.is_among.ensures ∙ c.if-not-is_among.false in
    let there = sym (ap (option_map (λ e. expr_view source e.now)) c.in-None.is) ∙ c.expr_at.ensures source in
    let is = note_kept names c.args.file source c.args.parsed.now k among _ there in
    sym (ap (λ o. taken_view c.args.taken.now ++ cons_option o []) is ∙ append-nil (taken_view c.args.taken.now))
