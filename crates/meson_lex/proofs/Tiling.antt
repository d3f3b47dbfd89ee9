-- The items lie one after another.
use Rattle.std.proofs.Common.{◌≡◌, ℕ, zero, suc, ◌+◌, ◌≤◌, List, [], ◌∷◌, length, drop, Result, Ok, Err, sym, refl, subst, arith, add-zero, length-drop}
use Rattle.meson_lex.specs.declared.kinds.Item.{Item}
use Rattle.meson_lex.specs.declared.fault.LexFault.{LexFault}
use Rattle.meson_lex.specs.declared.kinds.Kind.{Kind}
use Rattle.meson_lex.specs.Lexed.{Tiles}
use Rattle.meson_lex.specs.Scan.{Front, front, scan_after, scan}
use Rattle.meson_lex.proofs.FoundLines.{Sound, IsFound}
use Rattle.meson_lex.proofs.FrontSound.{front_sound}
use Rattle.meson_lex.proofs.ScanItems.{positive, found_within, scan_next}

tiles_after : (at : ℕ) (bytes : List ℕ) (r : Front) → Sound at bytes r → ((k : Kind) (n : ℕ) → IsFound bytes k n → Tiles (at + n) (at + n + length (drop n bytes)) (scan (at + n) (drop n bytes))) → Tiles at (at + length bytes) (scan_after scan at bytes r)
tiles_after at bytes (Ok p) s later =
    let more = positive bytes p.0 p.1 s in
    let within = found_within bytes p.0 p.1 s in
    let place : at + p.1 + length (drop p.1 bytes) ≡ at + length bytes = omega (arith, length-drop p.1 bytes) in
    (refl, omega arith, omega arith, subst (λ e. Tiles (at + p.1) e (scan (at + p.1) (drop p.1 bytes))) place (later p.0 p.1 s))
tiles_after at bytes (Err fault) s later = refl

tiles_within : (fuel at : ℕ) (bytes : List ℕ) → length bytes ≤ fuel → Tiles at (at + length bytes) (scan at bytes)
tiles_within fuel at [] h = sym (add-zero at)
tiles_within zero at (b ∷ bs) h = absurd (omega arith)
tiles_within (suc fuel) at (b ∷ bs) h =
    subst (Tiles at (at + length (b ∷ bs))) (sym (scan_next at b bs))
    (tiles_after at (b ∷ bs) (front at (b ∷ bs)) (front_sound at b bs)
    (λ k n s.
    let p = positive (b ∷ bs) k n s in
    let len = length-drop n (b ∷ bs) in
    tiles_within fuel (at + n) (drop n (b ∷ bs)) (omega arith)))

pub scan_tiles : (bytes : List ℕ) → Tiles 0 (length bytes) (scan 0 bytes)
scan_tiles bytes =
    let place : 0 + length bytes ≡ length bytes = omega arith in
    subst (λ e. Tiles 0 e (scan 0 bytes)) place (tiles_within (length bytes) 0 bytes (omega arith))

-- what is left behind an item lies within the text too
pub tiles_rest : (end : ℕ) (x : Result Item LexFault) (rs all : List (Result Item LexFault)) → all ≡ x ∷ rs → ((a : ℕ) × Tiles a end all) → (a : ℕ) × Tiles a end rs
tiles_rest end (Ok item) rs all e h = let t : Tiles h.0 end (Ok item ∷ rs) = subst (Tiles h.0 end) e h.1 in (item.span.to, t.3)
tiles_rest end (Err fault) rs all e h = let t : rs ≡ [] = subst (Tiles h.0 end) e h.1 in (end, subst (Tiles end end) (sym t) refl)
