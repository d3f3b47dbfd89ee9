-- The blank lines that end a file are counted.
use Rattle.std.proofs.Common.{◌≡◌, ℕ, ◌+◌, false, List, [], ◌∷◌, ◌++◌, length, refl, ap, ◌∙◌, inl, inr, arith}
use Rattle.std.specs.List.{AllByRecursion}
use Rattle.meson_lex.specs.declared.kinds.Kind.{Kind}
use Rattle.meson_lex.specs.declared.kinds.Kind.TheVariants.{Blank, LineEnd}
use Rattle.meson_lex.specs.Items.{Lexeme}
use Rattle.meson_layout.specs.Looks.{is_white}
use Rattle.meson_statements.specs.declared.endings.Ending.{Ending}
use Rattle.meson_statements.specs.declared.endings.Ending.TheVariants as ending
use Rattle.meson_statements.specs.Gaps.{BlankLinesCounted, EndsWithText, IsBlankLine, all_of, blank_lines, ending_after, ending_by}

after-both : (e : Ending) (xs ys : List Lexeme) → ending_after e (xs ++ ys) ≡ ending_after (ending_after e xs) ys
after-both e [] ys = refl
after-both e (x ∷ xs) ys = after-both (ending_by x.kind e) xs ys

text-by : (k : Kind) (e : Ending) → is_white k ≡ false → ending_by k e ≡ ending.Text
text-by Blank e h = absurd cc
text-by LineEnd e h = absurd cc
text-by _ e h = refl

after-text : (row : List Lexeme) → IsBlankLine row → ending_after ending.Text row ≡ ending.Lines 0
after-text [] h = absurd h
after-text (x ∷ []) h = ap (λ k. ending_by k ending.Text) h
after-text (x ∷ y ∷ []) h = ap (λ k. ending_by y.kind (ending_by k ending.Text)) h.0 ∙ ap (λ k. ending_by k ending.Text) h.1
after-text (x ∷ y ∷ z ∷ xs) h = absurd h

after-row : (row : List Lexeme) (n : ℕ) → IsBlankLine row → ending_after (ending.Lines n) row ≡ ending.Lines (n + 1)
after-row [] n h = absurd h
after-row (x ∷ []) n h = ap (λ k. ending_by k (ending.Lines n)) h
after-row (x ∷ y ∷ []) n h = ap (λ k. ending_by y.kind (ending_by k (ending.Lines n))) h.0 ∙ ap (λ k. ending_by k (ending.Blanks (n + 1))) h.1
after-row (x ∷ y ∷ z ∷ xs) n h = absurd h

after-rows : (rows : List (List Lexeme)) (n : ℕ) → AllByRecursion IsBlankLine rows → ending_after (ending.Lines n) (all_of rows) ≡ ending.Lines (n + length rows)
after-rows [] n h = ap ending.Lines (omega arith)
after-rows (row ∷ rows) n h =
    after-both (ending.Lines n) row (all_of rows)
    ∙ ap (λ e. ending_after e (all_of rows)) (after-row row n h.0)
    ∙ after-rows rows (n + 1) h.1
    ∙ ap ending.Lines (omega arith)

at-text : (xs : List Lexeme) → EndsWithText xs → ending_after (ending.Lines 0) xs ≡ ending.Lines 0
at-text xs (inl e) = ap (ending_after (ending.Lines 0)) e
at-text xs (inr h) =
    let before = ending_after (ending.Lines 0) h.0 in
    let x : Lexeme = h.1 in
    ap (ending_after (ending.Lines 0)) h.3
    ∙ after-both (ending.Lines 0) h.0 (x ∷ h.2)
    ∙ ap (λ e. ending_after e h.2) (text-by x.kind before h.4)
    ∙ after-text h.2 h.5

pub counted : BlankLinesCounted
counted xs h rows all =
    ap blank_lines
    (after-both (ending.Lines 0) xs (all_of rows) ∙ ap (λ e. ending_after e (all_of rows)) (at-text xs h) ∙ after-rows rows 0 all ∙ ap ending.Lines (omega arith))
