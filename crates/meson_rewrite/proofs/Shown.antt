-- What is reported of an ending is that ending, but for what explains it.
use Rattle.std.proofs.Common.{◌≡◌, ◌∙◌, Bool, Result, Ok, Err, refl, sym, ap, subst}
use Rattle.std.specs.Prelude.{OnOk}
use Rattle.meson_command.specs.declared.asked.Asked.{Asked}
use Rattle.meson_command.specs.declared.asked.Flags.{Flags}
use Rattle.meson_command.specs.declared.fault.UsageFault.{UsageFault}
use Rattle.meson_json.specs.declared.fault.ScriptFault.TheVariants as script
use Rattle.meson_rewrite.specs.AdviceLaws.{IsPlainEnd, unexplained}
use Rattle.meson_rewrite.specs.Faults.{IsExplained, has_none, is_told, not_asked, ran_out}
use Rattle.meson_rewrite.specs.Lines.{status}
use Rattle.meson_rewrite.specs.Runs.{Reports}
use Rattle.meson_rewrite.specs.StoreReads.{unread_in}
use Rattle.meson_rewrite.specs.Stops.{advised}
use Rattle.meson_rewrite.specs.declared.advice.Advice.{Advice}
use Rattle.meson_rewrite.specs.declared.advice.Advice.TheVariants.{OutOfMemory}
use Rattle.meson_rewrite.specs.declared.said.Said.{Said}
use Rattle.meson_rewrite.specs.declared.stop.Stop.{Stop}
use Rattle.meson_rewrite.specs.declared.stop.Stop.TheVariants.{BadTexts, OtherFiles, Parse, Refused, Script, Splice, Store, TooManyFiles, Usage}

advised-plain : (advice : Advice) (stop : Stop) → unexplained (advised advice stop) ≡ unexplained stop
advised-plain advice (Parse name text fault old) = refl
advised-plain advice (TooManyFiles old) = refl
advised-plain advice (Splice fault run old) = refl
advised-plain advice (OtherFiles name old) = refl
advised-plain advice (BadTexts old) = refl
advised-plain advice (Script script.BadLog old) = refl
advised-plain advice (Store fault old) = refl
advised-plain advice _ = refl

explained-plain : (flags : Flags) (stop shown : Stop) → IsExplained flags stop shown → unexplained shown ≡ unexplained stop
explained-plain flags stop _ (not_asked plain) = refl
explained-plain flags stop _ (has_none none) = refl
explained-plain flags stop _ (is_told advice asks is) = advised-plain advice stop
explained-plain flags stop _ (ran_out asks) = advised-plain OutOfMemory stop

-- the ending without what explains it
abbrev end_unexplained : Result Said Stop → Result Said Stop
end_unexplained (Ok said) = Ok said
end_unexplained (Err stop) = Err (unexplained stop)

reported-plain : (asked : Result Asked UsageFault) (end shown : Result Said Stop) → Reports asked end shown → end_unexplained shown ≡ end_unexplained end
reported-plain (Err fault) end shown is = ap end_unexplained is
reported-plain (Ok a) (Ok said) shown is = ap end_unexplained is
reported-plain (Ok a) (Err stop) shown (s, told, is) = ap end_unexplained is ∙ ap (λ (e : Stop). Err e) (explained-plain a.flags stop s told)

-- what is a plain end of an ending is one of what is reported of it
pub reported-is-plain : (json : Bool) (asked : Result Asked UsageFault) (end shown : Result Said Stop) → Reports asked end shown
    → (plain : Result Said Stop) → IsPlainEnd json end plain → IsPlainEnd json shown plain
reported-is-plain json (Err fault) end shown is plain it = subst (λ e. IsPlainEnd json e plain) (sym is) it
reported-is-plain json (Ok a) (Ok said) shown is plain it = subst (λ e. IsPlainEnd json e plain) (sym is) it
reported-is-plain json (Ok a) (Err stop) shown (s, told, is) plain it =
    subst (λ e. IsPlainEnd json e plain) (sym is) (it ∙ ap (λ (s : Stop). Err s) (sym (explained-plain a.flags stop s told)))

-- ---- the status

pub status-unexplained : (exit_code : Bool) (stop : Stop) → status exit_code (Err stop) ≡ status exit_code (Err (unexplained stop))
status-unexplained exit_code (Usage fault advice_) = refl
status-unexplained exit_code (Script fault advice_) = refl
status-unexplained exit_code (Parse name text fault advice_) = refl
status-unexplained exit_code (TooManyFiles advice_) = refl
status-unexplained exit_code (Refused fault subject advice_) = refl
status-unexplained exit_code (Splice fault run advice_) = refl
status-unexplained exit_code (OtherFiles name advice_) = refl
status-unexplained exit_code (BadTexts advice_) = refl
status-unexplained exit_code (Store fault advice_) = refl
status-unexplained exit_code _ = refl

status-plain : (exit_code : Bool) (end : Result Said Stop) → status exit_code end ≡ status exit_code (end_unexplained end)
status-plain exit_code (Ok said) = refl
status-plain exit_code (Err stop) = status-unexplained exit_code stop

pub status-shown : (exit_code : Bool) (asked : Result Asked UsageFault) (end shown : Result Said Stop) → Reports asked end shown → status exit_code shown ≡ status exit_code end
status-shown exit_code asked end shown reports =
    status-plain exit_code shown ∙ ap (status exit_code) (reported-plain asked end shown reports) ∙ sym (status-plain exit_code end)

-- ---- the file that is not read

unread-plain : (end : Result Said Stop) → unread_in end ≡ unread_in (end_unexplained end)
unread-plain (Ok said) = refl
unread-plain (Err (Usage fault advice_)) = refl
unread-plain (Err (Script fault advice_)) = refl
unread-plain (Err (Parse name text fault advice_)) = refl
unread-plain (Err (TooManyFiles advice_)) = refl
unread-plain (Err (Refused fault subject advice_)) = refl
unread-plain (Err (Splice fault run advice_)) = refl
unread-plain (Err (OtherFiles name advice_)) = refl
unread-plain (Err (BadTexts advice_)) = refl
unread-plain (Err (Store fault advice_)) = refl
unread-plain (Err _) = refl

pub unread-shown : (asked : Result Asked UsageFault) (end shown : Result Said Stop) → Reports asked end shown → unread_in shown ≡ unread_in end
unread-shown asked end shown reports = unread-plain shown ∙ ap unread_in (reported-plain asked end shown reports) ∙ sym (unread-plain end)

-- ---- what holds where it was done

pub on-ok-shown : (P : Type 0) (asked : Result Asked UsageFault) (end shown : Result Said Stop) → Reports asked end shown → OnOk end P → OnOk shown P
on-ok-shown P (Err fault) end shown is p = subst (λ e. OnOk e P) (sym is) p
on-ok-shown P (Ok a) (Ok said) shown is p = subst (λ e. OnOk e P) (sym is) p
on-ok-shown P (Ok a) (Err stop) shown (s, told, is) p = subst (λ e. OnOk e P) (sym is) tt
