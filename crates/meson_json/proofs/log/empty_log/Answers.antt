use Rattle.std.proofs.Common.{◌≡◌, ◌≢◌, ◌∙◌, [], Ok, codes, refl, sym, ap}
use Rattle.std.specs.Fmt.{digits}
use Rattle.std.proofs.lemmas.Result.{IfErr-weaker, IfOk-weaker}
use Rattle.serde_json.proofs.OnLiterals.{serde_json_on_literals}
use Rattle.meson_json.specs.Log.{log_of, log_data}
use Rattle.meson_json.specs.declared.fault.ScriptFault.{ScriptFault}
use Rattle.meson_json.specs.declared.fault.ScriptFault.TheVariants.{NotJson, NotArray, TooMany, NotObject, UnknownType, BadField, UnknownOperation, Unsupported, UnknownMember, BadLog, OutOfMemory}
use Rattle.meson_json.proofs.log.empty_log.Goals as goal

nothing_logged : log_of (record { past = []; future = [] }) ≡ Ok (codes "{\"future\":[],\"past\":[],\"version\":2}\n")
unfolding serde_json_on_literals digits log_of log_data
nothing_logged = refl

-- a fault that is not any but the last is the last
only_memory : (e : ScriptFault) → (e ≢ OutOfMemory → ⊥) → e ≡ OutOfMemory
only_memory OutOfMemory h = refl
only_memory NotJson h = absurd (h (λ q. cc))
only_memory NotArray h = absurd (h (λ q. cc))
only_memory TooMany h = absurd (h (λ q. cc))
only_memory (NotObject i) h = absurd (h (λ q. cc))
only_memory (UnknownType i) h = absurd (h (λ q. cc))
only_memory (BadField i m) h = absurd (h (λ q. cc))
only_memory (UnknownOperation i) h = absurd (h (λ q. cc))
only_memory (Unsupported i) h = absurd (h (λ q. cc))
only_memory (UnknownMember i m) h = absurd (h (λ q. cc))
only_memory BadLog h = absurd (h (λ q. cc))

pub returns-clause-text : goal.returns-clause-text
returns-clause-text c =
    IfOk-weaker c.history_text.result _ _ (λ b text.
    let all = sym nothing_logged ∙ (sym (ap log_of c.new.ensures) ∙ text) in
    cc)
    c.history_text.ensures.text

pub returns-clause-refused : goal.returns-clause-refused
returns-clause-refused c =
    IfErr-weaker c.history_text.result _ _ (λ e refused. only_memory e (λ n.
    let all = sym nothing_logged ∙ (sym (ap log_of c.new.ensures) ∙ refused n) in
    let bad : ⊥ = cc in
    bad))
    c.history_text.ensures.refused
