use Rattle.std.proofs.Common.{sym, ap, ◌∙◌, map, string_bytes}
use Rattle.std.specs.Prelude.{option_and_then}
use Rattle.std.specs.List.{list_any}
use Rattle.meson_syntax.specs.View.{list_view, text_at}
use Rattle.meson_calls.specs.Calls.{call_of}
use Rattle.meson_calls.specs.ChosenNotes.{call_with}
use Rattle.meson_calls.specs.FileNames.{is_file}
use Rattle.meson_calls.specs.Project.{placed}
use Rattle.meson_entering.specs.Code.{file_view}
use Rattle.meson_entering.specs.Entering.{files_meant}
use Rattle.meson_inventory.specs.Holdings.{files_meant_in}
use Rattle.meson_inventory.specs.inside.Holdings.{call_enters}
use Rattle.meson_inventory.proofs.CallSpans.{call_read}
use Rattle.meson_inventory.proofs.holdings.enters_one.Goals as goal

pub returns : goal.returns
returns c =
    let l = c.args.project.now in
    let reading = c.args.reading in
    let place = c.args.place.now in
    let called = c.call_at-called.result in
    let function = text_at called.source.now called.name in
    let call = call_with function (list_view called.source.now called.arguments.now) in
    let test = list_any (is_file l.files) in
    let at = call_read l c.files.result.now c.trees.result.now place called c.files.ensures c.trees.ensures c.call_at-called.ensures.at in
    let means = c.in_ok-meant.ensures function ∙ ap (λ path. files_meant reading (file_view c.in-Some.file) path call) c.get.ensures in
    c.is_any.ensures l.files c.requires.names
    ∙ ap (λ names. test (map string_bytes names)) c.as_slice.ensures.value
    ∙ ap test means
    ∙ sym (ap (λ o. call_enters reading l place (option_and_then call_of o)) at ∙ ap (λ f. test (files_meant_in reading f (placed place call))) c.in-Some.ensures.is)
