use Rattle.std.proofs.Common.{◌<◌, ◌≤◌, [], length, sym, ◌∙◌, arith}
use Rattle.meson_splice.specs.declared.file_set.File.{File}
use Rattle.meson_listing.proofs.Names.{name_there, name_past}
use Rattle.meson_listing.proofs.entries.file_name.Goals as goal

nobody : File
nobody = record { name = []; bytes = [] }

pub returns-then-file-len : goal.returns-then-file-len
returns-then-file-len c =
    let within : c.args.file < length c.args.files.now = omega arith in
    c.name.ensures nobody ∙ name_there c.args.files.now c.args.file nobody within

pub returns-else-file-len : goal.returns-else-file-len
returns-else-file-len c =
    let past : length c.args.files.now ≤ c.args.file = omega arith in
    sym (name_past c.args.files.now c.args.file past)
