use Rattle.meson_calls.proofs.Words.{codes, ◌++◌, ◌∙◌, sym, ap, Some, append_assoc, folder_of, is_plain_folder}
use Rattle.meson_calls.proofs.Entered.{plain_file}
use Rattle.meson_calls.proofs.entering.file_in.Goals as goal

pub returns : goal.returns
returns c =
    let name = c.args.name.now in
    let folder = c.args.folder.now in
    let tail = codes "/meson.build" in
    let plain = sym (ap is_plain_folder c.as_bytes.ensures.value) ∙ sym c.is_plain_folder.ensures ∙ c.if-not-is_plain_folder.false in
    let text =
    c.in_ok-push_str-2.ensures.bytes
    ∙ ap (λ t. t ++ tail) (c.in_ok-push_str.ensures.bytes ∙ ap (λ t. t ++ folder) (c.in_ok-file.ensures.ok ∙ c.folder_of.ensures))
    ∙ append_assoc (folder_of name) folder tail
    in
    ap Some text ∙ sym (plain_file name folder plain)
