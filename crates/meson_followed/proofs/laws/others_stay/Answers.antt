use Rattle.meson_followed.proofs.EditLaws.{added_go_to_one, removed_are_of_one}
use Rattle.meson_followed.proofs.RenameLaws.{renamed_are_of_one}
use Rattle.meson_followed.proofs.laws.others_stay.Goals as goal

pub returns-clause-added_go_to_one : goal.returns-clause-added_go_to_one
returns-clause-added_go_to_one c = added_go_to_one

pub returns-clause-removed_are_of_one : goal.returns-clause-removed_are_of_one
returns-clause-removed_are_of_one c = removed_are_of_one

pub returns-clause-renamed_are_of_one : goal.returns-clause-renamed_are_of_one
returns-clause-renamed_are_of_one c = renamed_are_of_one
