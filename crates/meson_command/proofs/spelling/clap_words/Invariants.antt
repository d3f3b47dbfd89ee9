use Rattle.std.proofs.Common.{◌≡◌, ◌++◌, drop, map, string_bytes}
use Rattle.meson_command.specs.Spelling.{clap_words, passed_from}
use Rattle.meson_command.proofs.spelling.clap_words.Given as goal

abbrev pub invariant-loop-word : goal.invariant-loop-word
invariant-loop-word l =
    map (λ w. w.now) l.given.items ++ passed_from l.kind (map string_bytes (drop l.word-index l.words)) ≡ clap_words (map string_bytes l.words)
