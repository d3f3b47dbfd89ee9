use Rattle.std.proofs.Common.{◌≡◌, ◌≢◌, ◌⊎◌, List, Result, Err, inl, inr, refl}
use Rattle.meson_command.specs.declared.asked.Flags.{Flags}
use Rattle.meson_json.specs.declared.fault.ScriptFault.{ScriptFault}
use Rattle.meson_json.specs.declared.fault.ScriptFault.TheVariants.{OutOfMemory}
use Rattle.meson_steps.specs.declared.command.Command.{Command}
use Rattle.meson_rewrite.proofs.Wants.{script-or-memory}
use Rattle.meson_rewrite.specs.Remarks.{IsScriptAdvice, no_memory_of_it, not_asked_of_it, ran_out_of_it, told_of_it}
use Rattle.meson_rewrite.specs.Requests.{IsBad}
use Rattle.meson_rewrite.specs.Stops.{WantsMemory}
use Rattle.meson_rewrite.specs.declared.advice.Advice.{Advice}
use Rattle.meson_rewrite.specs.declared.advice.Advice.TheVariants as advice
use Rattle.meson_rewrite.specs.declared.advice.Advice.TheVariants.{Nothing}
use Rattle.meson_rewrite.specs.declared.stop.Stop.TheVariants.{Script}
use Rattle.meson_rewrite.proofs.request.script_from.Goals as goal

of-fault : (flags : Flags) (script : Result (List Command) ScriptFault) (fault : ScriptFault) (advice : Advice) → IsScriptAdvice flags fault advice
    → (fault ≢ OutOfMemory → script ≡ Err fault) → WantsMemory (Script fault advice) ⊎ IsBad flags script (Script fault advice)
of-fault flags script fault _ (not_asked_of_it plain) is =
    script-or-memory (λ f. IsBad flags script (Script f Nothing)) fault (λ known. (fault, (Nothing, (is known, (refl, not_asked_of_it plain)))))
of-fault flags script fault _ (no_memory_of_it none) is = inl (none, refl)
of-fault flags script fault _ (ran_out_of_it asks known) is = inr (fault, (advice.OutOfMemory, (is known, (refl, ran_out_of_it asks known))))
of-fault flags script fault _ (told_of_it advice asks known tells) is = inr (fault, (advice, (is known, (refl, told_of_it advice asks known tells))))

pub returns-in-Err-clause-none : goal.returns-in-Err-clause-none
returns-in-Err-clause-none c = of-fault c.args.flags _ c.in-Err.fault c.script_advice-advice.result c.script_advice-advice.ensures c.in-Err.ensures.refused
