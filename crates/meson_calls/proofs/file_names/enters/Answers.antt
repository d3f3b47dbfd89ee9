use Rattle.meson_calls.proofs.Words.{option_map, string_bytes, ◌<◌, [], ◌∙◌, refl, sym, ap, length, arith, subst, Some, All-get_or, File, is_file, is_entered}
use Rattle.meson_calls.proofs.Words.{IsFileName, file_in, HasFileName}
use Rattle.meson_calls.proofs.SubdirNames.{meant_at}
use Rattle.meson_calls.proofs.file_names.enters.Goals as goal

nobody : File
nobody = record { name = []; bytes = [] }

pub file_in-requires : goal.file_in-requires
file_in-requires c =
    let files = c.args.files.now in
    let within : c.args.file < length files = omega arith in
    subst IsFileName (sym (c.name.ensures nobody)) (All-get_or HasFileName files c.args.file nobody within c.requires.named)

pub returns-in-Some : goal.returns-in-Some
returns-in-Some c =
    let files = c.args.files.now in
    let folder = c.args.folder.now in
    let within : c.args.file < length files = omega arith in
    let means = meant_at files c.args.file nobody within (Some folder) folder refl in
    c.contains.ensures ∙ c.requires.names.same c.as_str.result.now
    ∙ ap (is_file files) c.as_str.ensures.value
    ∙ ap (λ o. is_entered files (option_map string_bytes o)) (sym c.in-Some.is)
    ∙ ap (is_entered files) (c.in_ok-name.ensures ∙ ap (λ n. file_in n folder) (c.name.ensures nobody) ∙ sym means)

pub returns-in-None : goal.returns-in-None
returns-in-None c =
    let files = c.args.files.now in
    let folder = c.args.folder.now in
    let within : c.args.file < length files = omega arith in
    let means = meant_at files c.args.file nobody within (Some folder) folder refl in
    ap (λ o. is_entered files (option_map string_bytes o)) (sym c.in-None.is)
    ∙ ap (is_entered files) (c.in_ok-name.ensures ∙ ap (λ n. file_in n folder) (c.name.ensures nobody) ∙ sym means)
