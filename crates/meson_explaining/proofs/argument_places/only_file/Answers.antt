use Rattle.std.proofs.Common.{sym, ap, ◌∙◌}
use Rattle.meson_splice.specs.Files.{position_of_file}
use Rattle.meson_places.specs.Names.{file_of_folder}
use Rattle.meson_explaining.specs.ArgumentPlaces.{only_file}
use Rattle.meson_explaining.proofs.argument_places.only_file.Goals as goal

pub returns-in_ok-name-in-Some : goal.returns-in_ok-name-in-Some
returns-in_ok-name-in-Some c =
    let files = c.args.files.now in
    let name = c.as_str.ensures.value ∙ c.in_ok-name-in-Some.ensures ∙ ap file_of_folder c.get.ensures in
    c.find.ensures ∙ ap (λ n. position_of_file n files) name ∙ sym (ap (only_file files) c.in-Some.is)
