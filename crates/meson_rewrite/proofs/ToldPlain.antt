-- What is said of a refused command without an explanation.
use Rattle.std.proofs.Common.{ℕ, List, Option, refl}
use Rattle.meson_calls.specs.Loading.{Loaded}
use Rattle.meson_command.specs.declared.asked.Flags.{Flags}
use Rattle.meson_script.specs.declared.fault.RunFault.{RunFault}
use Rattle.meson_steps.specs.declared.command.Command.{Command}
use Rattle.meson_rewrite.specs.Advising.{IsTold, no_command, no_memory, not_asked, told}
use Rattle.meson_rewrite.specs.AdviceLaws.{plain_flags}
use Rattle.meson_rewrite.specs.declared.advice.Advice.{Advice}
use Rattle.meson_rewrite.specs.declared.advice.Advice.TheVariants.{Nothing}

pub told-plain : (flags : Flags) (old : Loaded) (commands : List Command) (fault : RunFault) (subject : Option (List ℕ)) (advice_ : Advice)
    → IsTold flags old commands fault subject advice_ → IsTold (plain_flags flags) old commands fault subject Nothing
told-plain flags old commands fault subject advice_ (not_asked json explain) = not_asked json refl
told-plain flags old commands fault subject advice_ (no_memory is) = no_memory is
told-plain flags old commands fault subject advice_ (no_command none) = no_command none
told-plain flags old commands fault subject advice_ (told command there found leaves) = told command there found leaves
