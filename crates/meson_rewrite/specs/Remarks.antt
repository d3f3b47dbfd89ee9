-- What explains words that are not a request, and a script that is not valid, where the words ask for it.
use Rattle.std.specs.Prelude.{◌≡◌, ◌≢◌, ⊤, ℕ, Bool, true, false, bytes_eq, codes, List, [], map, Result, Err, IfErr}
use Rattle.std.specs.List.{list_any}
use Rattle.meson_command.specs.declared.asked.Asked.{Asked}
use Rattle.meson_command.specs.declared.asked.Flags.{Flags}
use Rattle.meson_command.specs.declared.fault.UsageFault.{UsageFault}
use Rattle.meson_command.specs.declared.fault.UsageFault.TheVariants as usage
use Rattle.meson_explaining.specs.Notes.{plain_note}
use Rattle.meson_json.specs.declared.fault.ScriptFault.{ScriptFault}
use Rattle.meson_json.specs.declared.fault.ScriptFault.TheVariants as script
use Rattle.meson_rewrite.specs.Advising.{advice_of}
use Rattle.meson_rewrite.specs.declared.advice.Advice.{Advice}
use Rattle.meson_rewrite.specs.declared.advice.Advice.TheVariants.{Nothing, OutOfMemory}
use Rattle.meson_rewrite.specs.declared.said.Said.{Said}
use Rattle.meson_rewrite.specs.declared.stop.Stop.{Stop}
use Rattle.meson_rewrite.specs.declared.stop.Stop.TheVariants.{Usage}

-- these notes, which are about no file, and this help
abbrev pub TellsOfNoFile : Bool → Advice → Type 0
TellsOfNoFile json advice =
    (notes : List (List ℕ)) × ((help : List (List ℕ)) × (advice ≡ advice_of json [] (record { notes = map plain_note notes; help = help })))

-- ---- words

-- one of the words is `--explain`
abbrev pub asks_to_explain : List (List ℕ) → Bool
asks_to_explain words = list_any (λ word. bytes_eq word (codes "--explain")) words

-- Nothing is said of memory that ran out, nor where the words do not ask for it. If memory runs out in explaining, that is known, and no more is said.
pub data IsMisuseAdvice (explains json : Bool) (fault : UsageFault) : Advice → Type 0 where
  not_asked : explains ≡ false → IsMisuseAdvice explains json fault Nothing
  no_memory : fault ≡ usage.OutOfMemory → IsMisuseAdvice explains json fault Nothing
  ran_out : explains ≡ true → fault ≢ usage.OutOfMemory → IsMisuseAdvice explains json fault OutOfMemory
  told_more : (advice : Advice) → explains ≡ true → fault ≢ usage.OutOfMemory → TellsOfNoFile json advice → IsMisuseAdvice explains json fault advice

-- what is said of words that stop a run
abbrev pub TellsMisuse : Bool → Bool → Stop → Type 0
TellsMisuse explains json (Usage fault advice) = IsMisuseAdvice explains json fault advice
TellsMisuse explains json _ = ⊤

-- so it is in a run for words that are not a request
abbrev pub Advises : Bool → Bool → Result Asked UsageFault → Result Said Stop → Type 0
Advises explains json asked end = (fault : UsageFault) → asked ≡ Err fault → IfErr end (TellsMisuse explains json)

-- for private clauses: how a run ends for words that are refused for this fault, or for which memory ran out
pub data IsMisused (explains json : Bool) (fault : UsageFault) : Result Said Stop → Type 0 where
  words_refused : (advice : Advice) → IsMisuseAdvice explains json fault advice → IsMisused explains json fault (Err (Usage fault advice))
  no_memory_left : IsMisused explains json fault (Err (Usage usage.OutOfMemory Nothing))

-- ---- a script

-- Nothing is said of memory that ran out, nor where the words do not ask for it. If memory runs out in explaining, that is known, and no more is said.
pub data IsScriptAdvice (flags : Flags) (fault : ScriptFault) : Advice → Type 0 where
  not_asked_of_it : flags.explain ≡ false → IsScriptAdvice flags fault Nothing
  no_memory_of_it : fault ≡ script.OutOfMemory → IsScriptAdvice flags fault Nothing
  ran_out_of_it : flags.explain ≡ true → fault ≢ script.OutOfMemory → IsScriptAdvice flags fault OutOfMemory
  told_of_it : (advice : Advice) → flags.explain ≡ true → fault ≢ script.OutOfMemory → TellsOfNoFile flags.json advice → IsScriptAdvice flags fault advice
