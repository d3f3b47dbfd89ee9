use Rattle.std.proofs.Common.{◌++◌, sym, ap, ◌∙◌}
use Rattle.std.proofs.lemmas.Result.{on_ok_weaker}
use Rattle.meson_syntax.specs.View.{args_view}
use Rattle.meson_edit.proofs.lists.CodeElements.{list_elements}
use Rattle.meson_calls.specs.Notes.{what_view}
use Rattle.meson_places.specs.Colons.{key_ends, keyword_ends}
use Rattle.meson_places.proofs.colon.push_keyword_ends.Goals as goal

pub returns-in-Call : goal.returns-in-Call
returns-in-Call c =
    let source = c.args.note.now.source.now in
    let old = c.args.ends.now.items in
    on_ok_weaker c.push_key_ends.result (λ is.
    is ∙ ap (λ xs. old ++ key_ends xs) (ap (args_view source) c.get.ensures ∙ sym (list_elements source c.in-Call.arguments.now))
    ∙ ap (λ w. old ++ keyword_ends (what_view source w)) (sym c.in-Call.is)) (c.push_key_ends.ensures source)
