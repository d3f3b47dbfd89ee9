-- What is left to be read of a file's items, in each turn of the loops that look for its line end and for its blank lines at the end.
use Rattle.std.proofs.Common.{◌≡◌, ℕ, ◌+◌, ◌<◌, ◌≤◌, ◌^◌, true, false, List, [], ◌∷◌, length, Result, Ok, Err, refl, sym, ap, ◌∙◌, subst, arith}
use Rattle.std.specs.Prelude.{slice_range, if◌then◌else◌}
use Rattle.meson_lex.specs.declared.fault.LexFault.{LexFault}
use Rattle.meson_lex.specs.declared.kinds.Item.{Item}
use Rattle.meson_lex.specs.declared.kinds.Kind.{Kind}
use Rattle.meson_lex.specs.declared.kinds.Kind.TheVariants.{Blank, LineEnd}
use Rattle.meson_lex.specs.Lexed.{Tiles}
use Rattle.meson_layout.proofs.ReadItems.{read, read_one}
use Rattle.meson_layout.specs.Looks.{is_line_end}
use Rattle.meson_layout.specs.Statements.{line_end_of}
use Rattle.meson_statements.specs.declared.endings.Ending.{Ending}
use Rattle.meson_statements.specs.declared.endings.Ending.TheVariants as ending
use Rattle.meson_statements.specs.Gaps.{blank_lines, ending_after, ending_by}

-- nothing is after a fault
tiles-fault : (source : List ℕ) (at : ℕ) (f : LexFault) (results more : List (Result Item LexFault)) → Tiles at (length source) results → results ≡ Err f ∷ more
    → Tiles (length source) (length source) more
tiles-fault source at f results more t are =
    let none : more ≡ [] = subst (Tiles at (length source)) are t in
    subst (Tiles (length source) (length source)) (sym none) refl

-- where an item is, and what is after it
record Next (source : List ℕ) (at : ℕ) (x : Item) (more : List (Result Item LexFault)) : Type 0 where
  pub from : x.span.from ≡ at
  pub some : at < x.span.to
  pub within : x.span.to ≤ length source
  pub tiles : Tiles x.span.to (length source) more

next-of : (source : List ℕ) (at : ℕ) (x : Item) (results more : List (Result Item LexFault)) → Tiles at (length source) results → results ≡ Ok x ∷ more
    → Next source at x more
next-of source at x results more t are =
    let parts : Tiles at (length source) (Ok x ∷ more) = subst (Tiles at (length source)) are t in
    record { from = parts.0; some = parts.1; within = parts.2; tiles = parts.3 }

-- ---- the line end

pub record IsSeeking (source whole : List ℕ) (results : List (Result Item LexFault)) : Type 0 where
  pub at : ℕ
  pub tiles : Tiles at (length source) results
  pub first : (line_end_of (read source results)).text ≡ whole

pub seeking-fault : (source whole : List ℕ) (f : LexFault) (results more : List (Result Item LexFault)) → IsSeeking source whole results → results ≡ Err f ∷ more
    → IsSeeking source whole more
seeking-fault source whole f results more w are = record {
  at = length source;
  tiles = tiles-fault source w.at f results more w.tiles are;
  first = ap (λ rs. (line_end_of (read source rs)).text) (sym are) ∙ w.first;
}

pub seeking-item : (source whole : List ℕ) (x : Item) (results more : List (Result Item LexFault)) → IsSeeking source whole results → results ≡ Ok x ∷ more
    → is_line_end x.kind ≡ false → IsSeeking source whole more
seeking-item source whole x results more w are other =
    let n = next-of source w.at x results more w.tiles are in
    record {
      at = x.span.to;
      tiles = n.tiles;
      first =
          ap (λ b. (if b then read_one source x else line_end_of (read source more)).text) (sym other)
          ∙ ap (λ rs. (line_end_of (read source rs)).text) (sym are) ∙ w.first;
    }

pub seeking-found : (source whole : List ℕ) (x : Item) (results more : List (Result Item LexFault)) → IsSeeking source whole results → results ≡ Ok x ∷ more
    → is_line_end x.kind ≡ true → slice_range source x.span.from x.span.to ≡ whole
seeking-found source whole x results more w are is =
    ap (λ b. (if b then read_one source x else line_end_of (read source more)).text) (sym is)
    ∙ ap (λ rs. (line_end_of (read source rs)).text) (sym are) ∙ w.first

pub seeking-inside : (source whole : List ℕ) (x : Item) (results more : List (Result Item LexFault)) → IsSeeking source whole results → results ≡ Ok x ∷ more
    → (x.span.to ≤ length source) × (x.span.from ≤ x.span.to)
seeking-inside source whole x results more w are =
    let n = next-of source w.at x results more w.tiles are in
    let from = n.from in
    let some = n.some in
    (n.within, omega arith)

pub seeking-over : (source whole : List ℕ) (results : List (Result Item LexFault)) → IsSeeking source whole results → results ≡ [] → 10 ∷ [] ≡ whole
seeking-over source whole results w none = ap (λ rs. (line_end_of (read source rs)).text) (sym none) ∙ w.first

-- ---- the blank lines

few-by : (k : Kind) (e : Ending) → blank_lines (ending_by k e) ≤ blank_lines e + 1
few-by LineEnd ending.Text = omega arith
few-by LineEnd (ending.Lines n) = omega arith
few-by LineEnd (ending.Blanks n) = omega arith
few-by Blank ending.Text = omega arith
few-by Blank (ending.Lines n) = omega arith
few-by Blank (ending.Blanks n) = omega arith
few-by _ e = omega arith

pub record IsEnding (source : List ℕ) (whole e : Ending) (results : List (Result Item LexFault)) : Type 0 where
  pub at : ℕ
  pub inside : at ≤ length source
  pub tiles : Tiles at (length source) results
  pub few : blank_lines e ≤ at
  pub ends : ending_after e (read source results) ≡ whole

pub ending-fault : (source : List ℕ) (whole e : Ending) (f : LexFault) (results more : List (Result Item LexFault)) → IsEnding source whole e results
    → results ≡ Err f ∷ more → IsEnding source whole e more
ending-fault source whole e f results more w are =
    let few = w.few in
    let inside = w.inside in
    record {
      at = length source;
      inside = omega arith;
      tiles = tiles-fault source w.at f results more w.tiles are;
      few = omega arith;
      ends = ap (λ rs. ending_after e (read source rs)) (sym are) ∙ w.ends;
    }

pub ending-item : (source : List ℕ) (whole e : Ending) (x : Item) (results more : List (Result Item LexFault)) → IsEnding source whole e results
    → results ≡ Ok x ∷ more → IsEnding source whole (ending_by x.kind e) more
ending-item source whole e x results more w are =
    let n = next-of source w.at x results more w.tiles are in
    let few = w.few in
    let some = n.some in
    let by = few-by x.kind e in
    record {
      at = x.span.to;
      inside = n.within;
      tiles = n.tiles;
      few = omega arith;
      ends = ap (λ rs. ending_after e (read source rs)) (sym are) ∙ w.ends;
    }

pub ending-small : (source : List ℕ) (whole e : Ending) (x : Item) (results more : List (Result Item LexFault)) → IsEnding source whole e results
    → results ≡ Ok x ∷ more → length source < 2 ^ 64 → blank_lines e + 1 < 2 ^ 64
ending-small source whole e x results more w are small =
    let n = next-of source w.at x results more w.tiles are in
    let few = w.few in
    let some = n.some in
    let within = n.within in
    omega arith

pub ending-over : (source : List ℕ) (whole e : Ending) (results : List (Result Item LexFault)) → IsEnding source whole e results → results ≡ [] → e ≡ whole
ending-over source whole e results w none = ap (λ rs. ending_after e (read source rs)) (sym none) ∙ w.ends
