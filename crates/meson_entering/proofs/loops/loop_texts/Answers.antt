use Rattle.std.proofs.Common.{ap, sym, subst, ◌∙◌}
use Rattle.std.specs.Prelude.{option_map}
use Rattle.std.proofs.lemmas.Result.{IfOk-weaker}
use Rattle.meson_syntax.specs.View.{expr_view, view}
use Rattle.meson_calls.specs.Notes.{note_views}
use Rattle.meson_calls.specs.Strings.{NotesGood}
use Rattle.meson_calls.proofs.GoodNotes.{tree_good}
use Rattle.meson_entering.specs.Loops.{file_notes, innermost_list, list_texts, texts_if_found}
use Rattle.meson_entering.proofs.Around.{innermost_good}
use Rattle.meson_entering.proofs.loops.loop_texts.Goals as goal

pub texts_of-requires-clause-notes : goal.texts_of-requires-clause-notes
texts_of-requires-clause-notes c =
    subst NotesGood (sym (ap note_views c.as_slice.ensures.value ∙ c.in_ok-notes.ensures ∙ c.in_ok-taken.ensures)) (tree_good c.args.source.now c.args.tree.now c.requires)

pub texts_of-requires-clause-good : goal.texts_of-requires-clause-good
texts_of-requires-clause-good c =
    let source = c.args.source.now in
    innermost_good source c.args.tree.now c.requires c.args.name.now c.args.path.now (note_views c.as_slice.result.now) (expr_view source c.in-Some.list.now)
    (sym c.in_ok-list.ensures ∙ ap (option_map (λ e. expr_view source e.now)) c.in-Some.is)

pub returns-in-Some : goal.returns-in-Some
returns-in-Some c =
    let source = c.args.source.now in
    let tree = view source c.args.tree.now in
    let x = c.args.name.now in
    let path = c.args.path.now in
    let notes = ap note_views c.as_slice.ensures.value ∙ c.in_ok-notes.ensures ∙ c.in_ok-taken.ensures in
    let list = expr_view source c.in-Some.list.now in
    let found = sym (ap (innermost_list tree x path) notes) ∙ sym c.in_ok-list.ensures ∙ ap (option_map (λ e. expr_view source e.now)) c.in-Some.is in
    IfOk-weaker c.texts_of.result _ _ (λ texts is. is ∙ ap (λ ns. list_texts ns list) notes ∙ sym (ap (texts_if_found (file_notes tree)) found)) c.texts_of.ensures
