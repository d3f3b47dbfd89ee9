use Rattle.std.proofs.Common.{◌≡◌, map, take}
use Rattle.meson_command.proofs.words.all_owned.Given as goal

abbrev pub invariant-loop-word : goal.invariant-loop-word
invariant-loop-word l = l.all.items ≡ map (λ w. w.now) (take l.word-index l.words)
