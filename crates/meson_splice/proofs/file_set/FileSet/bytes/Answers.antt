use Rattle.std.proofs.Common.{◌∙◌, ap}
use Rattle.meson_splice.proofs.Sets.{bytes_at-get_or}
use Rattle.meson_splice.specs.Files.{bytes_at}
use Rattle.meson_splice.proofs.file_set.FileSet.bytes.Goals as goal

pub returns : goal.returns
returns c =
    let within = rw (← c.self.view_is) at c.requires in
    c.get.ensures
    ∙ ap (λ f. f.bytes) c.index.ensures
    ∙ bytes_at-get_or c.self.inside.files.items c.args.i c.index.result.now within
    ∙ ap (bytes_at c.args.i) c.self.view_is
