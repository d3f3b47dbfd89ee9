use Rattle.std.proofs.Common.{◌<◌, length, arith}
use Rattle.meson_calls.specs.Loading.{max_files}
use Rattle.meson_gathering.specs.Gathering.{file_of}
use Rattle.meson_gathering.proofs.EnteredFiles.{grows_one}
use Rattle.meson_gathering.proofs.gathering.add.Goals as goal

pub returns-clause-grows : goal.returns-clause-grows
returns-clause-grows c =
    let few : length c.args.files.now < max_files = omega arith in
    grows_one c.args.files.now c.push.new.self (file_of c.args.name.now c.args.bytes.items) few c.requires.named c.in_ok-push.ensures.ok
