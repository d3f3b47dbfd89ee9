-- Offsets of an edit fit.
use Rattle.std.proofs.Common.{◌+◌, ◌<◌, ◌^◌, List, ◌∷◌, length, ap, arith}
use Rattle.std.proofs.lemmas.List.{length-append}
use Rattle.meson_lex.specs.Items.{Lexeme, joined}
use Rattle.meson_lex.proofs.Seams.{joined-append}
use Rattle.meson_layout.specs.declared.primitive.Primitive.{Primitive}
use Rattle.meson_layout.specs.declared.primitive.Primitive.TheVariants.{First, After, Remove, Replace, Wrap, RemoveStatement, Append, Lines}
use Rattle.meson_layout.specs.Layout.{IsPlaced}
use Rattle.meson_layout.specs.inside.Layout.{FirstFits}

pub first_fits : (p : Primitive) (items : List Lexeme) → IsPlaced p items → length (joined items) + 1 < 2 ^ 64 → FirstFits p
first_fits (First at new) items placed fits =
    let size = ap (λ xs. length (joined xs)) placed.joins in
    let split = ap length (joined-append placed.left (placed.bracket ∷ placed.right)) in
    let sum = length-append (joined placed.left) (joined (placed.bracket ∷ placed.right)) in
    let place = placed.place in
    omega arith
first_fits (After s new) items placed fits = tt
first_fits (Remove s) items placed fits = tt
first_fits (Replace s new) items placed fits = tt
first_fits (Wrap s) items placed fits = tt
first_fits (RemoveStatement s blank) items placed fits = tt
first_fits (Append new) items placed fits = tt
first_fits (Lines spot new) items placed fits = tt
