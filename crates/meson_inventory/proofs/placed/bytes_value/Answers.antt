use Rattle.std.proofs.Common.{◌≡◌, ℕ, List, Bool, true, false, if◌then◌else◌, refl, ap, rules, ◌∙◌}
use Rattle.std.specs.Str.{IsUtf8, is_utf8}
use Rattle.std.proofs.lemmas.Result.{IfOk-weaker}
use Rattle.std.proofs.lemmas.Str.{IsUtf8-from_is_utf8, is_utf8-from_IsUtf8}
use Rattle.serde_json.specs.Data.{null, string}
use Rattle.serde_json.specs.View.{view}
use Rattle.serde_json.specs.declared.value.Value.{Null, the_lemmas}
use Rattle.meson_inventory.specs.Placed.{bytes_data}
use Rattle.meson_inventory.proofs.placed.bytes_value.Goals as goal

view-null : view Null ≡ null
view-null = search (rules, the_lemmas)

as_text : (bytes : List ℕ) → IsUtf8 bytes → string bytes ≡ bytes_data bytes
as_text bytes u = rw (is_utf8-from_IsUtf8 bytes u) refl

as_null : (bytes : List ℕ) → ¬ (IsUtf8 bytes) → null ≡ bytes_data bytes
as_null bytes not_text = go (is_utf8 bytes) refl
  where
    go : (b : Bool) → is_utf8 bytes ≡ b → null ≡ (if b then string bytes else null)
    go true e = absurd (not_text (IsUtf8-from_is_utf8 bytes e))
    go false e = refl

pub returns-in-Ok : goal.returns-in-Ok
returns-in-Ok c =
    let cases = c.in-Ok.ensures.cases in
    IfOk-weaker c.try_from_str.result _ _ (λ v is. is ∙ ap string cases.0 ∙ as_text c.args.bytes.now cases.1) c.try_from_str.ensures

pub returns-in-Err : goal.returns-in-Err
returns-in-Err c = view-null ∙ as_null c.args.bytes.now c.in-Err.ensures.cases.0
