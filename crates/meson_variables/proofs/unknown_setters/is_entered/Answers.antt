use Rattle.meson_variables.proofs.Words.{◌≡◌, ◌∙◌, sym, ap, subst, Some, IfOk, option_map, string_bytes, is_entered, meant_in}
use Rattle.meson_calls.proofs.SubdirNames.{no_folder}
use Rattle.meson_variables.proofs.unknown_setters.is_entered.Goals as goal

pub returns-in-Some : goal.returns-in-Some
returns-in-Some c = λ function.
    let files = c.args.files.now in
    let folder = sym (c.in_ok-folder.ensures function) ∙ ap (option_map string_bytes) c.in-Some.is in
    subst (λ o. IfOk c.enters.result (λ there. there ≡ is_entered files (meant_in files c.args.file o))) (ap Some c.as_str.ensures.value ∙ sym folder) c.enters.ensures

pub returns-in-None : goal.returns-in-None
returns-in-None c = λ function.
    let files = c.args.files.now in
    let none = sym (c.in_ok-folder.ensures function) ∙ ap (option_map string_bytes) c.in-None.is in
    sym (ap (λ o. is_entered files (meant_in files c.args.file o)) none ∙ ap (is_entered files) (no_folder files c.args.file))
