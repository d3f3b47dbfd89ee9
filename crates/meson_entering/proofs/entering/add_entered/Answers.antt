use Rattle.std.proofs.Common.{rules, ◌≡◌, ◌++◌, true, ap, sym, ◌∙◌, map, string_bytes}
use Rattle.std.specs.Prelude.{bytes_eq, codes}
use Rattle.std.proofs.lemmas.List.{map-append}
use Rattle.meson_syntax.specs.View.{list_view, text_at}
use Rattle.meson_calls.specs.ChosenNotes.{call_with}
use Rattle.meson_calls.specs.Notes.{what_view}
use Rattle.meson_calls.specs.Project.{place_at, placed}
use Rattle.meson_entering.specs.Code.{file_view}
use Rattle.meson_entering.specs.Entering.{call_enters}
use Rattle.meson_entering.proofs.Entered.{enters_call}
use Rattle.meson_entering.proofs.entering.add_entered.Goals as goal

pub returns-in_ok-append : goal.returns-in_ok-append
returns-in_ok-append c =
    let f = file_view c.args.file in
    let note = c.args.note.now in
    let source = note.source.now in
    let function = text_at source c.in-Call.function in
    let call = call_with function (list_view source c.in-Call.arguments.now) in
    let before = map string_bytes c.args.names.now.items in
    let items : c.append.new.self.items ≡ c.args.names.now.items ++ c.in_ok-meant.meant.items = search rules in
    let is : bytes_eq function (codes "subdir") ≡ true = sym (ap (λ f. bytes_eq f (codes "subdir")) c.text_of.ensures) ∙ sym (ap (bytes_eq c.text_of.result.now) c.as_slice.ensures) ∙ sym c.eq.ensures ∙ c.if-eq.true in
    ap (map string_bytes) items ∙ map-append string_bytes c.args.names.now.items c.in_ok-meant.meant.items
    ∙ ap (λ ts. before ++ ts) (c.in_ok-meant.ensures function ∙ enters_call c.args.reading f (placed (place_at note.place) call) is)
    ∙ sym (ap (λ w. before ++ call_enters c.args.reading f (place_at note.place) (what_view source w)) c.in-Call.is)
