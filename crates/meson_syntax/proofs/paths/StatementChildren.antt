-- The children of statements and blocks fit into them.
use Rattle.std.specs.Prelude.{⊤}
use Rattle.std.proofs.Common.{◌≡◌, ℕ, List, [], ◌∷◌, ◌++◌, Some, refl, ap, sym, ◌∙◌, append_assoc}
use Rattle.std.proofs.lemmas.List.{append-nil}
use Rattle.meson_lex.specs.declared.kinds.Kind.{Kind}
use Rattle.meson_lex.specs.declared.kinds.Kind.TheVariants as k
use Rattle.meson_lex.specs.Significant.{new_line}
use Rattle.meson_syntax.specs.Operators.{assignment_kind}
use Rattle.meson_syntax.specs.Tree.{Statement, evaluate, assign, selection, iteration, breaks, continues, Branches, no_branches, branch, Otherwise, nothing_else, otherwise, Statements, no_statements, statement, Block, block}
use Rattle.meson_syntax.specs.Grammar.{mark, names_words, expression_words, statement_words, branches_words, otherwise_words, statements_words, block_words, HasBranch, LevelStatement, LevelBranches, LevelOtherwise, LevelStatements, LevelBlock}
use Rattle.meson_syntax.specs.Paths.{Sort, of_expression, of_statement, of_block, Node, node_words, Hole, branches_children, otherwise_children, statement_children, statements_children, block_children, children, nth_hole}
use Rattle.meson_syntax.proofs.paths.Every.{Every, every-append, every-around, every-nth}
use Rattle.meson_syntax.proofs.paths.Fits.{Fits, LevelNode, around-fits}
use Rattle.meson_syntax.proofs.paths.Children.{regroup, LikeExpression, expression-fits}

three : {A : Type 0} (a b c d : List A) → a ++ (b ++ (c ++ d)) ≡ (a ++ (b ++ c)) ++ d
three a b c d = simp append_assoc

body_group : {A : Type 0} (a b : List A) (n : A) (x c : List A) → a ++ (b ++ ((n ∷ x) ++ c)) ≡ (a ++ (b ++ n ∷ [])) ++ (x ++ c)
body_group a b n x c = simp append_assoc

loop_group : {A : Type 0} (a b m e : List A) (n : A) (x c : List A) → a ++ (b ++ (m ++ (e ++ ((n ∷ x) ++ c)))) ≡ (a ++ (b ++ (m ++ (e ++ n ∷ [])))) ++ (x ++ c)
loop_group a b m e n x c = simp append_assoc

module _ (S : Type 0) where
  abbrev LikeBranches : Branches S → Branches S → Type 0
  LikeBranches bs x = HasBranch bs → HasBranch x

  abbrev LikeAny : {T : Type 0} → T → T → Type 0
  LikeAny t x = ⊤

  abbrev FitsBranches : Branches S → Kind → Hole S (Branches S) → Type 0
  FitsBranches bs word h = Fits S (Branches S) (λ x. branches_words x word) LevelBranches LikeBranches bs h

  abbrev FitsOtherwise : Otherwise S → Hole S (Otherwise S) → Type 0
  FitsOtherwise o h = Fits S (Otherwise S) otherwise_words LevelOtherwise LikeAny o h

  abbrev FitsStatement : Statement S → Hole S (Statement S) → Type 0
  FitsStatement s h = Fits S (Statement S) statement_words LevelStatement LikeAny s h

  abbrev FitsStatements : Statements S → Hole S (Statements S) → Type 0
  FitsStatements list h = Fits S (Statements S) statements_words LevelStatements LikeAny list h

  abbrev FitsBlock : Block S → Hole S (Block S) → Type 0
  FitsBlock b h = Fits S (Block S) block_words LevelBlock LikeAny b h

  branches-fit : (bs : Branches S) (word : Kind) → Every (FitsBranches bs word) (branches_children bs word)
  branches-fit no_branches word = tt
  branches-fit (branch e b more) word = (
    record {
      same = refl;
      put = λ y. refl;
      like = λ y h. tt;
      inside = λ l. l.0;
      outside = λ l y t ly. (ly, l.1, l.2);
    },
    (
      record {
        same = refl;
        put = λ y. body_group (mark word) (expression_words e) new_line (block_words y) (branches_words more k.WordElif);
        like = λ y h. tt;
        inside = λ l. l.1;
        outside = λ l y t ly. (l.0, ly, l.2);
      },
      every-around (FitsBranches more k.WordElif) (FitsBranches (branch e b more) word) (mark word ++ (expression_words e ++ (new_line ∷ block_words b))) [] (branch e b)
          (λ h f. around-fits S (Branches S) (Branches S) (λ x. branches_words x k.WordElif) (λ x. branches_words x word) LevelBranches LevelBranches LikeBranches LikeBranches
          (mark word ++ (expression_words e ++ (new_line ∷ block_words b))) [] (branch e b) more
          (λ z like. three (mark word) (expression_words e) (new_line ∷ block_words b) (branches_words z k.WordElif)
          ∙ ap (λ w. (mark word ++ (expression_words e ++ (new_line ∷ block_words b))) ++ w) (sym (append-nil (branches_words z k.WordElif))))
          (λ z like h. tt) (λ l. l.2) (λ l z like lz. (l.0, l.1, lz)) h f)
          (branches_children more k.WordElif) (branches-fit more k.WordElif),
    ),
  )

  otherwise-fits : (o : Otherwise S) → Every (FitsOtherwise o) (otherwise_children o)
  otherwise-fits nothing_else = tt
  otherwise-fits (otherwise b) = (
    record {
      same = refl;
      put = λ y. ap (λ w. mark k.WordElse ++ (new_line ∷ w)) (sym (append-nil (block_words y)));
      like = λ y. tt;
      inside = λ l. l;
      outside = λ l y t ly. ly;
    },
    tt,
  )

  statement-fits : (s : Statement S) → Every (FitsStatement s) (statement_children s)
  statement-fits (evaluate e) = (
    record {
      same = refl;
      put = λ y. sym (append-nil (expression_words y));
      like = λ y. tt;
      inside = λ l. l;
      outside = λ l y t ly. ly;
    },
    tt,
  )
  statement-fits (assign s x a e) = (
    record {
      same = refl;
      put = λ y. ap (λ w. (k.Identifier, x.text) ∷ (mark (assignment_kind a) ++ w)) (sym (append-nil (expression_words y)));
      like = λ y. tt;
      inside = λ l. l;
      outside = λ l y t ly. ly;
    },
    tt,
  )
  statement-fits (selection s bs o) =
      every-append (FitsStatement (selection s bs o)) _ _
      (every-around (FitsBranches bs k.WordIf) (FitsStatement (selection s bs o)) [] (otherwise_words o ++ mark k.WordEndif) (λ x. selection s x o)
      (λ h f. around-fits S (Branches S) (Statement S) (λ x. branches_words x k.WordIf) statement_words LevelBranches LevelStatement LikeBranches LikeAny
      [] (otherwise_words o ++ mark k.WordEndif) (λ x. selection s x o) bs
      (λ z like. refl) (λ z like. tt) (λ l. l.1) (λ l z like lz. (like l.0, lz, l.2)) h f)
      (branches_children bs k.WordIf) (branches-fit bs k.WordIf))
      (every-around (FitsOtherwise o) (FitsStatement (selection s bs o)) (branches_words bs k.WordIf) (mark k.WordEndif) (selection s bs)
      (λ h f. around-fits S (Otherwise S) (Statement S) otherwise_words statement_words LevelOtherwise LevelStatement LikeAny LikeAny
      (branches_words bs k.WordIf) (mark k.WordEndif) (selection s bs) o
      (λ z like. refl) (λ z like. tt) (λ l. l.2) (λ l z like lz. (l.0, l.1, lz)) h f)
      (otherwise_children o) (otherwise-fits o))
  statement-fits (iteration s xs e b) = (
    record {
      same = refl;
      put = λ y. three (mark k.WordForeach) (names_words xs) (mark k.Colon) (expression_words y ++ ((new_line ∷ block_words b) ++ mark k.WordEndforeach));
      like = λ y. tt;
      inside = λ l. l.1;
      outside = λ l y t ly. (l.0, ly, l.2);
    },
    (
      record {
        same = refl;
        put = λ y. loop_group (mark k.WordForeach) (names_words xs) (mark k.Colon) (expression_words e) new_line (block_words y) (mark k.WordEndforeach);
        like = λ y. tt;
        inside = λ l. l.2;
        outside = λ l y t ly. (l.0, l.1, ly);
      },
      tt,
    ),
  )
  statement-fits (breaks s) = tt
  statement-fits (continues s) = tt

  statements-fit : (list : Statements S) → Every (FitsStatements list) (statements_children list)
  statements-fit no_statements = tt
  statements-fit (statement s more) = (
    record {
      same = refl;
      put = λ y. refl;
      like = λ y. tt;
      inside = λ l. l.0;
      outside = λ l y t ly. (ly, l.1);
    },
    every-around (FitsStatements more) (FitsStatements (statement s more)) (statement_words s ++ new_line ∷ []) [] (statement s)
        (λ h f. around-fits S (Statements S) (Statements S) statements_words statements_words LevelStatements LevelStatements LikeAny LikeAny
        (statement_words s ++ new_line ∷ []) [] (statement s) more
        (λ z like. regroup (statement_words s) (new_line ∷ []) (statements_words z)) (λ z like. tt) (λ l. l.1) (λ l z like lz. (l.0, lz)) h f)
        (statements_children more) (statements-fit more),
  )

  block-fits : (b : Block S) → Every (FitsBlock b) (block_children b)
  block-fits (block s list) =
      every-around (FitsStatements list) (FitsBlock (block s list)) [] [] (block s)
      (λ h f. around-fits S (Statements S) (Block S) statements_words block_words LevelStatements LevelBlock LikeAny LikeAny [] [] (block s) list
      (λ z like. sym (append-nil (statements_words z))) (λ z like. tt) (λ l. l) (λ l z like lz. lz) h f)
      (statements_children list) (statements-fit list)

  -- ---- nodes

  abbrev pub LikeNode : (sort : Sort) → Node sort S → Node sort S → Type 0
  LikeNode of_expression e x = LikeExpression S e x
  LikeNode of_statement s x = ⊤
  LikeNode of_block b x = ⊤

  abbrev pub FitsNode : (sort : Sort) → Node sort S → Hole S (Node sort S) → Type 0
  FitsNode sort x h = Fits S (Node sort S) (node_words S sort) (LevelNode S sort) (LikeNode sort) x h

  children-fit : (sort : Sort) (x : Node sort S) → Every (FitsNode sort x) (children S sort x)
  children-fit of_expression e = expression-fits S e
  children-fit of_statement s = statement-fits s
  children-fit of_block b = block-fits b

  pub child-fits : (sort : Sort) (x : Node sort S) (n : ℕ) (h : Hole S (Node sort S)) → nth_hole S sort x n ≡ Some h → FitsNode sort x h
  child-fits sort x n h is = every-nth (FitsNode sort x) (children S sort x) n h (children-fit sort x) is
