use Rattle.meson_calls.proofs.Words.{bytes_eq, ◌++◌, sym, ap, ◌∙◌, Some, Decides-eqb, strip_suffix_is}
use Rattle.meson_calls.proofs.FileNames.{file_name-folder}
use Rattle.meson_calls.proofs.folders.is_file_name.Goals as goal

pub returns-in-Some : goal.returns-in-Some
returns-in-Some c =
    let is = strip_suffix_is Decides-eqb c.args.name.now c.as_slice-2.result.now (Some c.in-Some.folder) c.in-Some.ensures.cases in
    let other = sym (ap (bytes_eq c.args.name.now) c.as_slice.ensures) ∙ sym c.if-eq.ensures in
    file_name-folder c.args.name.now c.in-Some.folder.now c.is_plain_folder.result (is ∙ ap (λ t. c.in-Some.folder.now ++ t) c.as_slice-2.ensures) c.is_plain_folder.ensures other
