use Rattle.meson_edit.proofs.paths.PutBack.{lists-put-back}
use Rattle.meson_edit.proofs.laws.put_back.Goals as goal

pub returns : goal.returns
returns c = record { lists = lists-put-back }
