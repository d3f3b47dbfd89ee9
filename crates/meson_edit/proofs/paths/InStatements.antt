-- The children of a statement and of a block stay where they are when another node is put in the place of one.
use Rattle.meson_edit.proofs.Words.{ℕ, List, [], ◌∷◌, ◌++◌, length, refl, ap, sym, arith, append-nil, Word, new_line, Kind, mark, expression_words}
use Rattle.meson_edit.proofs.Words.{statement_words, branches_words, otherwise_words, statements_words, block_words, of_statement, Hole, all_around}
use Rattle.meson_edit.proofs.Words.{expression_in, block_in, branches_children, otherwise_children, statement_children, statements_children, block_children}
use Rattle.meson_edit.proofs.Words.{Statement, evaluate, assign, selection, iteration, breaks, continues, Branches, no_branches, branch, Otherwise}
use Rattle.meson_edit.proofs.Words.{nothing_else, otherwise, Statements, no_statements, statement, Block, block}
use Rattle.meson_lex.specs.declared.kinds.Kind.TheVariants as k
use Rattle.meson_edit.proofs.paths.Positions.{EveryAt, every-at-append, length-around, part-stays}
use Rattle.meson_edit.proofs.paths.InExpressions.{AnyLike, StaysIn}

module _ (S : Type 0) where
  abbrev StaysInBranches : Kind → ℕ → Hole S (Branches S) → Type 0
  StaysInBranches word = StaysIn S (Branches S) (λ z. branches_children z word)

  branches-stay : (bs : Branches S) (word : Kind) → EveryAt (StaysInBranches word) 0 (branches_children bs word)
  branches-stay no_branches word = tt
  branches-stay (branch e b more) word =
      let Children : Type 0 = List (Hole S (Branches S)) in
      let around : List Word = mark word ++ (expression_words e ++ (new_line ∷ block_words b)) in
      let own : Branches S → Children = λ z.
      expression_in (mark word) e ((new_line ∷ block_words b) ++ branches_words z k.WordElif) (λ x. branch x b z)
      ∷ block_in (mark word ++ (expression_words e ++ new_line ∷ [])) b (branches_words z k.WordElif) (λ x. branch e x z) ∷ [] in (
        record { found = λ y. refl; like = λ y. tt },
        (
          record { found = λ y. refl; like = λ y. tt },
          part-stays S (Branches S) (Branches S) (λ z. branches_children z k.WordElif) (λ z. branches_children z word) (AnyLike S) (AnyLike S) around [] (branch e b) 2 own (λ z. [])
              (λ z like. ap (λ hs. own z ++ hs) (sym (append-nil _))) (λ z. refl) (λ z like. tt)
              0 2 (omega arith) (branches_children more k.WordElif) (branches-stay more k.WordElif),
        ),
      )

  otherwise-stays : (o : Otherwise S) → EveryAt (StaysIn S (Otherwise S) otherwise_children) 0 (otherwise_children o)
  otherwise-stays nothing_else = tt
  otherwise-stays (otherwise b) = (record { found = λ y. refl; like = λ y. tt }, tt)

  pub statement-stays : (s : Statement S) → EveryAt (StaysIn S (Statement S) statement_children) 0 (statement_children s)
  statement-stays (evaluate e) = (record { found = λ y. refl; like = λ y. tt }, tt)
  statement-stays (assign s x a e) = (record { found = λ y. refl; like = λ y. tt }, tt)
  statement-stays (selection s bs o) =
      let Children : Type 0 = List (Hole S (Statement S)) in
      let ahead : Otherwise S → Children = λ z. all_around [] (otherwise_words z ++ mark k.WordEndif) (λ x. selection s x z) (branches_children bs k.WordIf) in
      let others : Branches S → Children = λ z. all_around (branches_words z k.WordIf) (mark k.WordEndif) (selection s z) (otherwise_children o) in
      let count = length (branches_children bs k.WordIf) in
      every-at-append (StaysIn S (Statement S) statement_children) 0 count (ahead o) (others bs)
      (omega (arith, length-around [] (otherwise_words o ++ mark k.WordEndif) (λ x. selection s x o) (branches_children bs k.WordIf)))
      (part-stays S (Branches S) (Statement S) (λ z. branches_children z k.WordIf) statement_children (AnyLike S) (AnyLike S)
      [] (otherwise_words o ++ mark k.WordEndif) (λ x. selection s x o) 0 (λ z. []) others (λ z like. refl) (λ z. refl) (λ z like. tt)
      0 0 (omega arith) (branches_children bs k.WordIf) (branches-stay bs k.WordIf))
      (part-stays S (Otherwise S) (Statement S) otherwise_children statement_children (AnyLike S) (AnyLike S)
      (branches_words bs k.WordIf) (mark k.WordEndif) (selection s bs) count ahead (λ z. [])
      (λ z like. ap (λ hs. ahead z ++ hs) (sym (append-nil _))) (λ z. length-around [] (otherwise_words z ++ mark k.WordEndif) (λ x. selection s x z) (branches_children bs k.WordIf)) (λ z like. tt)
      0 count (omega arith) (otherwise_children o) (otherwise-stays o))
  statement-stays (iteration s xs e b) = (record { found = λ y. refl; like = λ y. tt }, (record { found = λ y. refl; like = λ y. tt }, tt))
  statement-stays (breaks s) = tt
  statement-stays (continues s) = tt

  statements-stay : (list : Statements S) → EveryAt (StaysIn S (Statements S) statements_children) 0 (statements_children list)
  statements-stay no_statements = tt
  statements-stay (statement s more) =
      let Children : Type 0 = List (Hole S (Statements S)) in
      let own : Statements S → Children = λ z.
      record { sort = of_statement; inside = s; before = []; behind = new_line ∷ statements_words z; back = λ x. statement x z } ∷ [] in (
        record { found = λ y. refl; like = λ y. tt },
        part-stays S (Statements S) (Statements S) statements_children statements_children (AnyLike S) (AnyLike S) (statement_words s ++ new_line ∷ []) [] (statement s) 1 own (λ z. [])
            (λ z like. ap (λ hs. own z ++ hs) (sym (append-nil _))) (λ z. refl) (λ z like. tt)
            0 1 (omega arith) (statements_children more) (statements-stay more),
      )

  pub block-stays : (b : Block S) → EveryAt (StaysIn S (Block S) block_children) 0 (block_children b)
  block-stays (block s list) =
      part-stays S (Statements S) (Block S) statements_children block_children (AnyLike S) (AnyLike S) [] [] (block s) 0 (λ z. []) (λ z. []) (λ z like. sym (append-nil _)) (λ z. refl) (λ z like. tt)
      0 0 (omega arith) (statements_children list) (statements-stay list)
