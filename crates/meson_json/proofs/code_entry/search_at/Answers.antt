use Rattle.std.proofs.Common.{◌≡◌, Ok, codes, refl, sym, ap₂, ◌∙◌}
use Rattle.std.specs.Prelude.{ok_or}
use Rattle.std.proofs.lemmas.Result.{err_from_is_err_and}
use Rattle.meson_json.specs.Arguments.{place_named}
use Rattle.meson_json.specs.Scripts.{search_at}
use Rattle.meson_json.specs.declared.fault.ScriptFault.TheVariants.{BadField}
use Rattle.meson_json.proofs.code_entry.search_at.Goals as goal

pub returns-in_err-folder-clause-refused : goal.returns-in_err-folder-clause-refused
unfolding search_at
returns-in_err-folder-clause-refused c =
    let p = err_from_is_err_and c.from_residual-in_err-folder.result c.from_residual-in_err-folder.ensures.1 in
    let placed : ok_or (place_named c.in_ok-function.function c.in_ok-id.id) (BadField c.args.index (codes "id")) ≡ Ok c.in_ok-name.name =
    ap₂ (λ f j. ok_or (place_named f j) (BadField c.args.index (codes "id"))) (sym c.get.ensures) (sym c.get-2.ensures) ∙ c.in_ok-name.ensures.ok in
    rw (p.1, p.2) (λ n. rw (c.in_ok-function.ensures.ok, c.in_ok-id.ensures.ok, placed, c.in_err-folder.ensures.refused n) refl)
