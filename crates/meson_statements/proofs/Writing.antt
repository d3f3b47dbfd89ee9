-- What is left to be written of lines, in each turn of the loop that writes them.
use Rattle.std.proofs.Common.{◌≡◌, ℕ, List, [], ◌∷◌, ◌++◌, Result, Err, length, refl, sym, ap, ◌∙◌, subst}
use Rattle.std.proofs.lemmas.List.{append-nil}
use Rattle.meson_lex.specs.declared.fault.LexFault.{LexFault}
use Rattle.meson_lex.specs.declared.kinds.Item.{Item}
use Rattle.meson_lex.specs.Lexed.{Tiles}
use Rattle.meson_layout.proofs.ReadItems.{read}
use Rattle.meson_statements.specs.declared.indenting.Lines.{Lines}
use Rattle.meson_statements.specs.declared.indenting.Spot.{Spot}
use Rattle.meson_statements.specs.declared.indenting.Spot.TheVariants as spot
use Rattle.meson_statements.specs.inside.Lines.{left_of}

-- what is written after the last item
pub over : (lines : Lines) (s : Spot) → left_of lines s [] ≡ lines.end.now
over lines spot.Start = append-nil lines.end.now
over lines (spot.Blanks b) = append-nil lines.end.now
over lines spot.Inside = append-nil lines.end.now

-- ---- a turn of the loop

-- What was written so far and what is left are all that is written.
pub record IsWriting (source : List ℕ) (lines : Lines) (whole : List ℕ) (s : Spot) (now : List ℕ) (results : List (Result Item LexFault)) : Type 0 where
  pub at : ℕ
  pub tiles : Tiles at (length source) results
  pub writes : now ++ left_of lines s (read source results) ≡ whole

pub writing-fault : (source : List ℕ) (lines : Lines) (whole : List ℕ) (s : Spot) (now : List ℕ) (f : LexFault) (results more : List (Result Item LexFault))
    → IsWriting source lines whole s now results → results ≡ Err f ∷ more → IsWriting source lines whole s now more
writing-fault source lines whole s now f results more w are =
    let tiles : Tiles w.at (length source) (Err f ∷ more) = subst (Tiles w.at (length source)) are w.tiles in
    record {
      at = length source;
      tiles = subst (Tiles (length source) (length source)) (sym tiles) refl;
      writes = ap (λ rs. now ++ left_of lines s (read source rs)) (sym are) ∙ w.writes;
    }

pub writing-over : (source : List ℕ) (lines : Lines) (whole : List ℕ) (s : Spot) (now : List ℕ) (results : List (Result Item LexFault))
    → IsWriting source lines whole s now results → results ≡ [] → now ++ lines.end.now ≡ whole
writing-over source lines whole s now results w none =
    ap (λ l. now ++ l) (sym (over lines s)) ∙ ap (λ rs. now ++ left_of lines s (read source rs)) (sym none) ∙ w.writes
