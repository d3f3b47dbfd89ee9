-- The statements of a file in whose text nothing matters to a variable.
use Rattle.std.proofs.Common.{◌≡◌, ℕ, zero, suc, ◌<◌, List, [], ◌∷◌, ◌++◌, length, get_or, refl, sym, ap, ◌∙◌, arith}
use Rattle.std.specs.Prelude.{Option, Some, None, option_and_then, option_map}
use Rattle.meson_lex.specs.Significant.{Word, new_line}
use Rattle.meson_lex.specs.declared.kinds.Span.{Span}
use Rattle.meson_syntax.specs.declared.tree.Parsed.{Parsed}
use Rattle.meson_syntax.specs.declared.tree.Stmt.{Stmt}
use Rattle.meson_syntax.specs.Grammar.{statement_words}
use Rattle.meson_syntax.specs.Paths.{Hole, all_around, around, block_children, nth, of_statement, reach, statements_children}
use Rattle.meson_syntax.specs.Reads.{IsSpanned, of_files}
use Rattle.meson_syntax.specs.Tree.{Statement, block, statement, statements_of}
use Rattle.meson_syntax.specs.View.{block_view, stmt_view, stmts_view, text_at, view}
use Rattle.meson_edit.specs.Standing.{statement_span}
use Rattle.meson_edit.proofs.places.Standing.{nodes-stand}
use Rattle.meson_following.proofs.MuteWords.{AreMute, IsMute, standing_mute}
use Rattle.meson_following.proofs.ReadParts.{block_is}

-- the hole is that of a statement
record IsHole {T : Type 0} (o : Option (Hole Span T)) (s : Statement Span) : Type 0 where
  before : List Word
  behind : List Word
  back : Statement Span → T
  is : o ≡ Some (record { sort = of_statement; inside = s; before = before; behind = behind; back = back })

-- around what is inside something else
hole_around : {T U : Type 0} (before behind : List Word) (make : T → U) (holes : List (Hole Span T)) (n : ℕ) (s : Statement Span) → IsHole (nth holes n) s
    → IsHole (nth (all_around before behind make holes) n) s
hole_around before behind make [] n s h = absurd (let no : ⊥ = none h.is in no)
  where
    none : {A : Type 0} {x : A} → None ≡ Some x → ⊥
    none e = cc
hole_around before behind make (x ∷ holes) zero s h =
    record { before = _; behind = _; back = _; is = ap (option_map (around before behind make)) h.is }
hole_around before behind make (x ∷ holes) (suc n) s h = hole_around before behind make holes n s h

module _ (source : List ℕ) where
  nth_hole : (ss : List Stmt) (i : ℕ) (d : Stmt) → i < length ss
      → IsHole (nth (statements_children (statements_of (stmts_view source ss))) i) (stmt_view source (get_or ss i d))
  nth_hole [] i d lt = absurd (omega arith)
  nth_hole (s ∷ ss) zero d lt = record { before = _; behind = _; back = _; is = refl }
  nth_hole (s ∷ ss) (suc i) d lt =
      let below : i < length ss = omega arith in
      hole_around (statement_words (stmt_view source s) ++ new_line ∷ []) [] (statement (stmt_view source s)) (statements_children (statements_of (stmts_view source ss))) i (stmt_view source (get_or ss i d))
      (nth_hole ss i d below)

  -- the words of a statement of the file, in whose text nothing matters
  pub stmt_mute : (x : List ℕ) (t : Parsed) (ss : List Stmt) (i : ℕ) (d : Stmt) → IsSpanned source (view source t) → ss ≡ t.block.statements → i < length ss
      → IsMute x (text_at source (statement_span (stmt_view source (get_or ss i d)))) → AreMute x (statement_words (stmt_view source (get_or ss i d)))
  stmt_mute x t ss i d spanned same lt mute =
      let s = stmt_view source (get_or ss i d) in
      let h = hole_around [] [] (block t.block.span) (statements_children (statements_of (stmts_view source ss))) i s (nth_hole ss i d lt) in
      let there : nth (block_children (block_view source t.block)) i ≡ Some (record { sort = of_statement; inside = s; before = h.before; behind = h.behind; back = h.back }) =
      ap (λ b. nth (block_children b) i) (block_is source t.block ∙ ap (λ ss. block t.block.span (statements_of (stmts_view source ss))) (sym same)) ∙ h.is in
      let reached = ap (option_and_then (λ h. option_map (around h.before h.behind h.back) (reach Span h.sort h.inside []))) there in
      standing_mute x source spanned.reads.spells.items (statement_span s) _ (statement_words s) _ spanned.reads.spells.are_items.joins
      (nodes-stand of_files source (view source t) spanned (i ∷ []) _ reached) mute
