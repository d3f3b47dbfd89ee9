-- The unknown arguments of the target that an id names, as the code has its call.
use Rattle.std.proofs.Common.{◌≡◌, ℕ, List, [], ◌∷◌, Some, drop, take, refl, sym, ap, ap₂, ◌∙◌}
use Rattle.std.specs.Prelude.{Ok}
use Rattle.std.specs.List.{filter_map}
use Rattle.meson_lex.specs.declared.kinds.Span.{Span}
use Rattle.meson_syntax.specs.declared.tree.Arg.{Arg}
use Rattle.meson_syntax.specs.declared.tree.List as rust
use Rattle.meson_syntax.specs.View.{args_view, list_view, name_at}
use Rattle.meson_edit.specs.Edits.{elements}
use Rattle.meson_edit.proofs.lists.CodeElements.{list_elements}
use Rattle.meson_calls.specs.declared.call.CallRef.{CallRef}
use Rattle.meson_calls.specs.declared.call.Role.TheVariants as role
use Rattle.meson_calls.specs.Calls.{Call, call_of}
use Rattle.meson_calls.specs.Finding.{the_call}
use Rattle.meson_calls.specs.Loading.{Loaded, project}
use Rattle.meson_calls.specs.Project.{expression_at}
use Rattle.meson_calls.proofs.CallsFound.{role_found}
use Rattle.meson_details.specs.Called.{called_view}
use Rattle.meson_details.specs.declared.called.Called.{Called}
use Rattle.meson_plan.specs.Details.{place_found}
use Rattle.meson_plan.proofs.PlacesFound.{at_place}
use Rattle.meson_explaining.specs.Unknown.{argument_unknown, unknown_arguments, unknown_of_call}
use Rattle.meson_calls.specs.declared.call.CallName.{CallName}

after_first : (source : List ℕ) (args : List Arg) → args_view source (drop 1 args) ≡ drop 1 (args_view source args)
after_first source [] = refl
after_first source (a ∷ args) = refl

pub unknown_found : (l : Loaded) (id : CallName) (key : List ℕ) (place : CallRef) (called : Called) (args : List Arg) → place_found (the_call (project l) role.Target id) ≡ Ok place
    → expression_at (project l) place ≡ Some (called_view called) → args ≡ (rust.out-List called.arguments.now).items
    → take 3 (filter_map (argument_unknown (project l) place.file key) (args_view called.source.now (drop 1 args))) ≡ unknown_arguments l id key
unknown_found l id key place called args is at got =
    let a = at_place (the_call (project l) role.Target id) place is in
    let found = (role_found (project l) role.Target id a.one a.is_one).at in
    let there = sym found.is_at ∙ ap (expression_at (project l)) a.is_place ∙ at in
    let same : found.value ≡ called_view called = cc in
    let its_call = ap call_of (sym same) ∙ found.is_call in
    let is_it : record { function = (name_at called.source.now called.name).text; arguments = list_view called.source.now called.arguments.now } ≡ a.one.it = cc in
    let listed = ap (λ (c : Call Span). elements c.arguments) (sym is_it) ∙ list_elements called.source.now called.arguments.now ∙ ap (args_view called.source.now) (sym got) in
    let file = ap (λ (p : CallRef). p.file) a.is_place in
    ap (λ xs. take 3 (filter_map (argument_unknown (project l) place.file key) xs)) (after_first called.source.now args)
    ∙ sym (ap (unknown_of_call (project l) key) a.is_one ∙ ap₂ (λ n xs. take 3 (filter_map (argument_unknown (project l) n key) (drop 1 xs))) file listed)
