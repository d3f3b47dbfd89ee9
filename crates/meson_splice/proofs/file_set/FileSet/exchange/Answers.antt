use Rattle.std.proofs.Common.{◌∙◌, ap}
use Rattle.std.specs.Prelude.{slice_set}
use Rattle.meson_splice.specs.Files.{bytes_at, with_bytes}
use Rattle.meson_splice.specs.declared.file_set.File.{File}
use Rattle.meson_splice.proofs.Sets.{bytes_at-get_or, slice_set-bytes}
use Rattle.meson_splice.proofs.file_set.FileSet.exchange.Goals as goal

pub returns-clause-files : goal.returns-clause-files
returns-clause-files c =
    let within = rw (← c.self.view_is) at c.requires in
    let files = c.self.inside.files.items in
    ap (λ b. slice_set files c.args.i (record c.index_mut.result.now { bytes = b })) c.replace.ensures.after
    ∙ ap (λ (f : File). slice_set files c.args.i (record f { bytes = c.args.bytes })) c.index_mut.ensures.value
    ∙ slice_set-bytes files c.args.i c.args.bytes c.index_mut.result.now within
    ∙ ap (with_bytes c.args.i c.args.bytes) c.self.view_is

pub returns-clause-old : goal.returns-clause-old
returns-clause-old c =
    let within = rw (← c.self.view_is) at c.requires in
    c.replace.ensures.value
    ∙ ap (λ f. f.bytes) c.index_mut.ensures.value
    ∙ bytes_at-get_or c.self.inside.files.items c.args.i c.index_mut.result.now within
    ∙ ap (bytes_at c.args.i) c.self.view_is
