-- A text for a terminal has no control characters.
use Rattle.std.proofs.Common.{◌≡◌, ℕ, ◌/◌, ◌%◌, ◌+◌, ◌<◌, List, [], ◌∷◌, ◌++◌, refl, sym, ap, ap₂, ◌∙◌, append-nil, arith}
use Rattle.std.specs.Prelude.{Bool, true, false, cond, ◌||◌, ◌&&◌, nat_le, if◌then◌else◌, flat_map, chars, encode_utf8, encode_utf8_all, nat_lt}
use Rattle.std.specs.List.{list_any}
use Rattle.std.specs.Char.{digit_char, is_control}
use Rattle.std.specs.Char.Escape.{escape_unicode}
use Rattle.std.proofs.lemmas.Bool.{lt-leb, ltb-true}
use Rattle.std.proofs.lemmas.List.Folds.{list_any-append}
use Rattle.std.proofs.lemmas.Str.{encodes-append}
use Rattle.meson_explaining.specs.Laws.{HasNoControl, PrintableHasNoControl}
use Rattle.meson_explaining.specs.Lines.{shown_char}

both_false : (a : Bool) → ((a && false) || false) ≡ false
both_false true = refl
both_false false = refl

plain : (x : ℕ) → 31 < x → x < 127 → is_control x ≡ false
plain x low high = go (nat_le x 31) (nat_le 127 x) (lt-leb x 31 low) (lt-leb 127 x high)
  where
    go : (a b : Bool) → a ≡ false → b ≡ false → ((nat_le 0 x && a) || (b && nat_le x 159)) ≡ false
    go true b f g = absurd (let never : ⊥ = cc in never)
    go false true f g = absurd (let never : ⊥ = cc in never)
    go false false f g = both_false (nat_le 0 x)

digit : (n : ℕ) → is_control (digit_char (n % 16)) ≡ false
digit n = go (nat_lt (n % 16) 10) refl
  where
    go : (b : Bool) → nat_lt (n % 16) 10 ≡ b → is_control (cond b (48 + n % 16) (87 + n % 16)) ≡ false
    go true is = let small = ltb-true (n % 16) 10 is in plain (48 + n % 16) (omega arith) (omega (arith, small))
    go false is = let below : n % 16 < 16 = omega arith in plain (87 + n % 16) (omega arith) (omega (arith, below))

or_false : (a b : Bool) → a ≡ false → b ≡ false → (a || b) ≡ false
or_false a b first second = ap₂ (λ x y. x || y) first second

either : (b : Bool) (x y : List ℕ) → list_any is_control x ≡ false → list_any is_control y ≡ false → list_any is_control (cond b x y) ≡ false
either true x y one other = one
either false x y one other = other

no_escape : (c : ℕ) → list_any is_control (escape_unicode c) ≡ false
no_escape c =
    let d1 = or_false _ _ (digit (c / 1)) refl in
    let d2 = or_false _ _ (digit (c / 0x10)) d1 in
    let d3 = or_false _ _ (digit (c / 0x100)) d2 in
    let d4 = or_false _ _ (digit (c / 0x1000)) d3 in
    let d5 = or_false _ _ (digit (c / 0x1_0000)) d4 in
    let d6 = or_false _ _ (digit (c / 0x10_0000)) d5 in
    either (nat_lt c 0x10) _ _ d1 (either (nat_lt c 0x100) _ _ d2 (either (nat_lt c 0x1000) _ _ d3 (either (nat_lt c 0x1_0000) _ _ d4 (either (nat_lt c 0x10_0000) _ _ d5 d6))))

shown : (c : ℕ) (b : Bool) → is_control c ≡ b → HasNoControl (if b then encode_utf8_all (escape_unicode c) else encode_utf8 c)
shown c true is = record { characters = escape_unicode c; are_characters = refl; none = no_escape c }
shown c false is = record { characters = c ∷ []; are_characters = sym (append-nil (encode_utf8 c)); none = ap (λ b. b || false) is }

both : (x y : List ℕ) → HasNoControl x → HasNoControl y → HasNoControl (x ++ y)
both x y a b = record {
  characters = a.characters ++ b.characters;
  are_characters = ap₂ (λ u v. u ++ v) a.are_characters b.are_characters ∙ sym (encodes-append a.characters b.characters);
  none = list_any-append is_control a.characters b.characters ∙ ap₂ (λ u v. u || v) a.none b.none;
}

each : (cs : List ℕ) → HasNoControl (flat_map shown_char cs)
each [] = record { characters = []; are_characters = refl; none = refl }
each (c ∷ cs) = both (shown_char c) (flat_map shown_char cs) (shown c (is_control c) refl) (each cs)

pub printable_has_no_control : PrintableHasNoControl
printable_has_no_control text = each (chars text)
