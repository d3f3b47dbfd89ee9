-- The values of a key in the call that an id names, as the code has that call.
use Rattle.std.proofs.Common.{◌≡◌, ℕ, List, Some, sym, ap, ap₂, ◌∙◌}
use Rattle.std.specs.Prelude.{Ok}
use Rattle.std.specs.List.{filter_map}
use Rattle.meson_splice.specs.Files.{bytes_at}
use Rattle.meson_syntax.specs.declared.tree.Arg.{Arg}
use Rattle.meson_syntax.specs.declared.tree.List as rust
use Rattle.meson_syntax.specs.View.{args_view, list_view, name_at}
use Rattle.meson_edit.specs.Edits.{elements}
use Rattle.meson_edit.proofs.lists.CodeElements.{list_elements}
use Rattle.meson_calls.specs.declared.call.CallRef.{CallRef}
use Rattle.meson_calls.specs.declared.call.Role.{Role}
use Rattle.meson_calls.specs.Calls.{Call, call_of}
use Rattle.meson_calls.specs.Finding.{the_call}
use Rattle.meson_calls.specs.Loading.{Loaded, project}
use Rattle.meson_calls.specs.Project.{expression_at}
use Rattle.meson_calls.proofs.CallsFound.{role_found}
use Rattle.meson_lex.specs.declared.kinds.Span.{Span}
use Rattle.meson_details.specs.Called.{called_view}
use Rattle.meson_details.specs.declared.called.Called.{Called}
use Rattle.meson_plan.specs.Details.{place_found}
use Rattle.meson_plan.proofs.PlacesFound.{at_place}
use Rattle.meson_explaining.specs.Values.{argument_note, call_notes, value_notes}
use Rattle.meson_calls.specs.declared.call.CallName.{CallName}

pub called_notes : (l : Loaded) (r : Role) (id : CallName) (key : List ℕ) (place : CallRef) (called : Called) (args : List Arg) → place_found (the_call (project l) r id) ≡ Ok place
    → expression_at (project l) place ≡ Some (called_view called) → called.source.now ≡ bytes_at place.file l.files → args ≡ (rust.out-List called.arguments.now).items
    → filter_map (argument_note place.file called.source.now key) (args_view called.source.now args) ≡ value_notes l r id key
called_notes l r id key place called args is at source got =
    let a = at_place (the_call (project l) r id) place is in
    let found = (role_found (project l) r id a.one a.is_one).at in
    let there = sym found.is_at ∙ ap (expression_at (project l)) a.is_place ∙ at in
    let same : found.value ≡ called_view called = cc in
    let its_call = ap call_of (sym same) ∙ found.is_call in
    let is_it : record { function = (name_at called.source.now called.name).text; arguments = list_view called.source.now called.arguments.now } ≡ a.one.it = cc in
    let listed = ap (λ (c : Call Span). elements c.arguments) (sym is_it) ∙ list_elements called.source.now called.arguments.now ∙ ap (args_view called.source.now) (sym got) in
    let file = ap (λ (p : CallRef). p.file) a.is_place in
    sym (ap (call_notes l key) a.is_one
    ∙ ap₂ (λ n xs. filter_map (argument_note n (bytes_at n l.files) key) xs) file listed
    ∙ ap (λ s. filter_map (argument_note place.file s key) (args_view called.source.now args)) (sym source))
