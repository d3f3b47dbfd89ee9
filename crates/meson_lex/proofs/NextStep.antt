-- One step over the items, as `next` makes it.
use Rattle.std.proofs.Common.{◌≡◌, ℕ, ◌+◌, ◌<◌, ◌≤◌, List, [], ◌∷◌, length, drop, Ok, sym, ap, ◌∙◌, subst, arith}
use Rattle.std.proofs.Common.{Some}
use Rattle.std.specs.Iterator.{MakesProgress, item_count}
use Rattle.meson_lex.specs.declared.kinds.Kind.{Kind}
use Rattle.meson_lex.specs.Scan.{front, scan_after, scan}
use Rattle.meson_lex.proofs.FoundLines.{Sound}
use Rattle.meson_lex.proofs.FrontSound.{front_sound}
use Rattle.meson_lex.proofs.ScanItems.{item_at, found_within, scan_next}

-- what is found lies within the text
pub front_within : (at : ℕ) (bytes : List ℕ) (p : Kind × ℕ) → 0 < length bytes → Ok p ≡ front at bytes → p.1 ≤ length bytes
front_within at [] p some e = absurd (omega arith)
front_within at (b ∷ bs) p some e =
    let s : Sound at (b ∷ bs) (Ok p) = subst (Sound at (b ∷ bs)) (sym e) (front_sound at b bs) in
    found_within (b ∷ bs) p.0 p.1 s

-- an item, and then the items behind it
pub scan_step : (at : ℕ) (bytes : List ℕ) (p : Kind × ℕ) → 0 < length bytes → Ok p ≡ front at bytes → scan at bytes ≡ item_at at p.0 p.1 ∷ scan (at + p.1) (drop p.1 bytes)
scan_step at [] p some e = absurd (omega arith)
scan_step at (b ∷ bs) p some e = scan_next at b bs ∙ ap (scan_after scan at (b ∷ bs)) (sym e)

-- an item fewer is left
pub progress : {A : Type 0} (s t : List A) (x : A) → s ≡ x ∷ t → MakesProgress (λ _. Unit {0}) (item_count (λ (left : List A). left)) s (Some x) t
progress s t x e = record { on = λ _. (tt, tt, omega (arith, ap length e)); keeps = tt; rests = λ _. tt }
