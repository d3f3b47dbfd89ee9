use Rattle.std.proofs.Common.{◌≡◌, ◌∙◌, ℕ, List, Bool, true, false, None, refl, sym}
use Rattle.std.specs.Prelude.{if◌then◌else◌, option_and_then}
use Rattle.std.specs.Str.{IsUtf8, is_utf8}
use Rattle.std.proofs.lemmas.Str.{IsUtf8-from_is_utf8, is_utf8-from_IsUtf8}
use Rattle.serde_json.specs.Read.{read}
use Rattle.meson_json.specs.Log.{logged, history_of}
use Rattle.meson_json.specs.declared.fault.ScriptFault.TheVariants.{NotJson, OutOfMemory}
use Rattle.meson_json.proofs.log.read_log.Goals as goal

no_log_by : (b : Bool) (bs : List ℕ) → is_utf8 bs ≡ b → (IsUtf8 bs → read bs ≡ None) → (if b then option_and_then history_of (read bs) else None) ≡ None
no_log_by true bs is unread = rw (unread (IsUtf8-from_is_utf8 bs is)) refl
no_log_by false bs is unread = refl

no_log : (bs : List ℕ) → (IsUtf8 bs → read bs ≡ None) → logged bs ≡ None
unfolding logged
no_log bs unread = no_log_by (is_utf8 bs) bs refl unread

pub returns-in-Ok-clause-ok : goal.returns-in-Ok-clause-ok
unfolding logged
returns-in-Ok-clause-ok c =
    rw (is_utf8-from_IsUtf8 c.args.bytes.now c.in-Ok.ensures.ok.0, c.in-Ok.ensures.ok.1) c.history_from.ensures.ok

pub returns-in-NotJson-clause-refused : goal.returns-in-NotJson-clause-refused
returns-in-NotJson-clause-refused c = λ _.
    let why = c.from.ensures.1 (λ same. let both : NotJson ≡ OutOfMemory = sym c.in-NotJson.is ∙ same in cc) in
    (refl, no_log c.args.bytes.now (c.in-Err.ensures.err why.0))
