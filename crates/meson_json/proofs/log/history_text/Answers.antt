use Rattle.std.proofs.Common.{◌≡◌, ◌≤◌, true, false, ◌++◌, ◌∷◌, [], sym, ap, ◌∙◌, Some, Ok, refl}
use Rattle.std.specs.Str.{is_utf8}
use Rattle.std.proofs.lemmas.Str.{IsUtf8-append, is_utf8-from_IsUtf8}
use Rattle.std.proofs.lemmas.Result.{err_from_is_err_and}
use Rattle.json.proofs.Printed.Utf8.{IsUtf8-are_ascii}
use Rattle.serde_json.specs.Data.{depth}
use Rattle.serde_json.specs.Read.{read}
use Rattle.serde_json.specs.View.{view}
use Rattle.serde_json.specs.Written.{has_float, compact_text}
use Rattle.meson_json.specs.Log.{log_of, log_data, logged}
use Rattle.meson_json.proofs.LogFacts.{log-no_float, log-depth, log-back}
use Rattle.meson_json.proofs.LogLines.{plain-log, read-line}
use Rattle.meson_json.proofs.log.history_text.Goals as goal

pub returns-in_err-value-clause-refused : goal.returns-in_err-value-clause-refused
unfolding log_of
returns-in_err-value-clause-refused c =
    let p = err_from_is_err_and c.from_residual.result c.from_residual.ensures.1 in
    rw (p.1, p.2) (λ n. let r = c.in_err-value.ensures.refused n in rw (r.1, r.0) refl)

pub returns-clause-text : goal.returns-clause-text
unfolding log_of
returns-clause-text c =
    let is = c.in_ok-value.ensures.ok in
    let plain : has_float (view c.in_ok-value.value) ≡ false = rw is (log-no_float c.args.history.now) in
    rw c.in_ok-value.ensures.text (ap Ok (sym (c.in_ok-push.ensures.items ∙ ap (λ t. t ++ 10 ∷ []) (c.in_ok-text.ensures.text plain ∙ ap compact_text is))))

pub returns-clause-reads_back : goal.returns-clause-reads_back
unfolding logged
returns-clause-reads_back c =
    let h = c.args.history.now in
    let is = c.in_ok-value.ensures.ok in
    let text = c.in_ok-text.text.items in
    let plain : has_float (view c.in_ok-value.value) ≡ false = rw is (log-no_float h) in
    let shallow : depth (view c.in_ok-value.value) ≤ 127 = rw is (log-depth h) in
    let compact : text ≡ compact_text (log_data h) = c.in_ok-text.ensures.text plain ∙ ap compact_text is in
    let whole : c.push.new.self.items ≡ text ++ 10 ∷ [] = c.in_ok-push.ensures.items in
    let utf8 : is_utf8 c.push.new.self.items ≡ true = ap is_utf8 whole ∙ is_utf8-from_IsUtf8 (text ++ 10 ∷ []) (IsUtf8-append text (10 ∷ []) c.in_ok-text.ensures.utf8 (IsUtf8-are_ascii (10 ∷ []) refl)) in
    let back : read c.push.new.self.items ≡ Some (log_data h) =
    ap read whole ∙ ap (λ t. read (t ++ 10 ∷ [])) compact ∙ read-line (log_data h) (plain-log h c.in_ok-value.ensures.placed.0 c.in_ok-value.ensures.placed.1)
    ∙ ap read (sym compact) ∙ c.in_ok-text.ensures.reads_back shallow ∙ ap (λ d. Some d) is in
    rw (utf8, back) (log-back h c.in_ok-value.ensures.text)
