use Rattle.std.proofs.Common.{◌≡◌, ℕ, List, Bool, true, false, refl, sym, ap, ◌∙◌}
use Rattle.std.specs.Prelude.{◌&&◌}
use Rattle.std.specs.Str.{IsUtf8, is_utf8}
use Rattle.std.proofs.lemmas.Str.{IsUtf8-from_is_utf8, is_utf8-from_IsUtf8}
use Rattle.meson_json.proofs.log.splice_value.Goals as goal

not_text : (b : Bool) (bs : List ℕ) → is_utf8 bs ≡ b → (IsUtf8 bs → ⊥) → b ≡ false
not_text true bs is other = absurd (other (IsUtf8-from_is_utf8 bs is))
not_text false bs is other = refl

no_text : (bs cs : List ℕ) → bs ≡ cs → (IsUtf8 bs → ⊥) → is_utf8 cs ≡ false
no_text bs cs same other = ap is_utf8 (sym same) ∙ not_text (is_utf8 bs) bs refl other

some_text : (bs cs : List ℕ) → bs ≡ cs → IsUtf8 bs → is_utf8 cs ≡ true
some_text bs cs same is = ap is_utf8 (sym same) ∙ is_utf8-from_IsUtf8 bs is

second_fails : (a b : Bool) → b ≡ false → (a && b) ≡ false
second_fails true b h = h
second_fails false b h = refl

pub returns-in_default-clause-refused : goal.returns-in_default-clause-refused
returns-in_default-clause-refused c = λ _. (refl, rw (no_text _ _ c.get.ensures c.in_default.ensures.cases.0) refl)

pub returns-in_default-from_utf8-clause-refused : goal.returns-in_default-from_utf8-clause-refused
returns-in_default-from_utf8-clause-refused c = λ _. (refl, second_fails _ _ (no_text _ _ c.get-2.ensures c.in_default-from_utf8.ensures.cases.0))

pub returns-clause-text : goal.returns-clause-text
returns-clause-text c = rw (some_text _ _ c.get.ensures c.in-Ok.ensures.cases.1, some_text _ _ c.get-2.ensures c.in-Ok-from_utf8.ensures.cases.1) refl
