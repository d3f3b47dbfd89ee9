use Rattle.std.proofs.Common.{◌<◌, ◌≤◌, length, get_or, sym, ap, ◌∙◌, subst}
use Rattle.meson_splice.specs.Files.{bytes_at}
use Rattle.meson_calls.proofs.Standing.{nth_past}
use Rattle.meson_listing.proofs.Names.{name_there}
use Rattle.meson_inventory.proofs.FilesAt.{below, file_good, file_there, nobody}
use Rattle.meson_inventory.proofs.holdings.file_at.Goals as goal

pub returns-then-file-trees-clause-is : goal.returns-then-file-trees-clause-is
returns-then-file-trees-clause-is c =
    let l = c.args.project.now in
    nth_past l.files l.parsed c.args.file (subst (λ ts. length ts ≤ c.args.file) c.trees.ensures c.if-file-trees.true)

pub name-requires : goal.name-requires
name-requires c =
    let within = subst (λ ts. c.args.file < length ts) c.trees.ensures c.if-file-trees.false in
    subst (λ fs. c.args.file < length fs) (sym c.files.ensures) (below c.args.project.now c.reads.ensures c.args.file within)

pub bytes-requires : goal.bytes-requires
bytes-requires c =
    let within = subst (λ ts. c.args.file < length ts) c.trees.ensures c.if-file-trees.false in
    subst (λ fs. c.args.file < length fs) (sym c.files-2.ensures) (below c.args.project.now c.reads.ensures c.args.file within)

pub returns-clause-is : goal.returns-clause-is
returns-clause-is c =
    let l = c.args.project.now in
    let i = c.args.file in
    let within = subst (λ ts. i < length ts) c.trees.ensures c.if-file-trees.false in
    let named = c.name.ensures nobody ∙ ap (λ fs. (get_or fs i nobody).name) c.files.ensures ∙ name_there l.files i nobody (below l c.reads.ensures i within) in
    let held = c.bytes.ensures ∙ ap (bytes_at i) c.files-2.ensures in
    let stands = c.index-trees-file.is ∙ ap (λ ts. get_or ts i c.index-trees-file.result) c.trees-2.ensures in
    file_there l c.reads.ensures i within c.name.result.now c.bytes.result.now c.index-trees-file.result named held stands

pub returns-clause-good : goal.returns-clause-good
returns-clause-good c =
    let l = c.args.project.now in
    let i = c.args.file in
    let within = subst (λ ts. i < length ts) c.trees.ensures c.if-file-trees.false in
    let named = c.name.ensures nobody ∙ ap (λ fs. (get_or fs i nobody).name) c.files.ensures ∙ name_there l.files i nobody (below l c.reads.ensures i within) in
    let held = c.bytes.ensures ∙ ap (bytes_at i) c.files-2.ensures in
    let stands = c.index-trees-file.is ∙ ap (λ ts. get_or ts i c.index-trees-file.result) c.trees-2.ensures in
    file_good l c.reads.ensures i within c.name.result.now c.bytes.result.now c.index-trees-file.result named held stands
