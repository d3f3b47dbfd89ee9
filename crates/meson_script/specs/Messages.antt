-- What is reported of a script that is refused.
use Rattle.std.specs.Prelude.{ℕ, List, ◌++◌, codes, decimal}
use Rattle.meson_calls.specs.Messages.{refusal_text}
use Rattle.meson_calls.specs.declared.refusal.Refusal.{Refusal}
use Rattle.meson_calls.specs.declared.refusal.Refusal.TheVariants.{OutOfMemory}

-- the command that is refused, by its number, and why; no command when out of memory
abbrev pub refused_text : ℕ → Refusal → List ℕ
refused_text index OutOfMemory = refusal_text OutOfMemory
refused_text index refusal = codes "command " ++ (decimal index ++ (codes ": " ++ refusal_text refusal))
