use Rattle.std.proofs.Common.{◌≡◌, true, [], ◌∷◌, ◌++◌, sym, ap, ap₂, ◌∙◌}
use Rattle.std.specs.Prelude.{bytes_eq, if◌then◌else◌, not}
use Rattle.std.proofs.lemmas.Bool.{not-false}
use Rattle.meson_syntax.specs.View.{expr_view, text_at}
use Rattle.meson_calls.specs.Notes.{what_view}
use Rattle.meson_warnings.specs.LeftVariables.{left_by, left_note}
use Rattle.meson_warnings.proofs.left_variables.add_left_by.Goals as goal

pub returns-in_ok-push-in-Assign : goal.returns-in_ok-push-in-Assign
returns-in_ok-push-in-Assign c =
    let source = c.args.part.now.source.now in
    let file = c.args.part.now.place.file in
    let name = c.args.name.now in
    let old = c.args.notes.now.items in
    let note = left_note name file (expr_view source c.in-Assign.value.now) in
    let is : bytes_eq (text_at source c.in-Assign.variable) name ≡ true = let plain : c.ne.result ≡ not (bytes_eq (text_at source c.in-Assign.variable) name) = cc in
    not-false (bytes_eq (text_at source c.in-Assign.variable) name) (sym plain ∙ c.if-ne.false) in
    c.in_ok-push-in-Assign.ensures.items ∙ ap (λ n. old ++ n ∷ []) (c.in_ok-left_note-in-Assign.ensures source)
    ∙ ap (λ l. old ++ l) (sym (ap (λ w. left_by name file (what_view source w)) c.in-Assign.is ∙ ap (λ b. if b then note ∷ [] else []) is))
