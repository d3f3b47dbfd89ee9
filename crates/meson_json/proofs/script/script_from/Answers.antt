use Rattle.std.proofs.Common.{◌≡◌, ◌∙◌, Some, refl, sym, ap}
use Rattle.std.proofs.lemmas.Result.{err_from_is_err_and}
use Rattle.serde_json.specs.Find.{as_array}
use Rattle.serde_json.specs.View.{view, items_view}
use Rattle.meson_json.specs.Scripts.{script_of}
use Rattle.meson_json.proofs.ScriptFacts.{too_many, few}
use Rattle.meson_json.proofs.script.script_from.Goals as goal

pub returns-then-entries-gt-MAX_COMMANDS-clause-refused : goal.returns-then-entries-gt-MAX_COMMANDS-clause-refused
unfolding script_of
returns-then-entries-gt-MAX_COMMANDS-clause-refused c = λ _.
    let there : as_array (view c.args.value.now) ≡ Some (items_view c.as_slice-entries.result.now) = sym c.in-Some.ensures ∙ ap (λ vs. Some (items_view vs)) (sym c.as_slice-entries.ensures.value) in
    rw (there, too_many c.as_slice-entries.result.now c.if-entries-gt-MAX_COMMANDS.true) refl

pub returns-clause-ok : goal.returns-clause-ok
unfolding script_of
returns-clause-ok c =
    let there : as_array (view c.args.value.now) ≡ Some (items_view c.as_slice-entries.result.now) = sym c.in-Some.ensures ∙ ap (λ vs. Some (items_view vs)) (sym c.as_slice-entries.ensures.value) in
    rw (there, few c.as_slice-entries.result.now c.if-entries-gt-MAX_COMMANDS.false) c.in_ok-commands.ensures.ok

pub returns-in_err-commands-clause-refused : goal.returns-in_err-commands-clause-refused
unfolding script_of
returns-in_err-commands-clause-refused c =
    let there : as_array (view c.args.value.now) ≡ Some (items_view c.as_slice-entries.result.now) = sym c.in-Some.ensures ∙ ap (λ vs. Some (items_view vs)) (sym c.as_slice-entries.ensures.value) in
    let p = err_from_is_err_and c.from_residual.result c.from_residual.ensures.1 in
    rw (p.1, p.2) (λ n. rw (there, few c.as_slice-entries.result.now c.if-entries-gt-MAX_COMMANDS.false) (c.in_err-commands.ensures.refused n))
