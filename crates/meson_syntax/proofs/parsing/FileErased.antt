-- A file without its spans has the same words, levels and depth.
use Rattle.std.proofs.Common.{◌≡◌, suc, max, ◌∷◌, ◌++◌, refl, ap, ap₂, List, [], ◌∙◌}
use Rattle.meson_lex.specs.declared.kinds.Kind.{Kind}
use Rattle.meson_lex.specs.declared.kinds.Kind.TheVariants as k
use Rattle.meson_lex.specs.Significant.{new_line}
use Rattle.meson_syntax.specs.Operators.{assignment_kind}
use Rattle.meson_syntax.specs.Tree.{Statement, evaluate, assign, selection, iteration, breaks, continues, Branches, no_branches, branch, Otherwise, nothing_else, otherwise, Statements, no_statements, statement, Block, block, File, file, erase, erase_statement, erase_branches, erase_otherwise, erase_statements, erase_block, Name, erase_names, erase_expression}
use Rattle.meson_syntax.specs.Grammar.{mark, names_words, statement_words, branches_words, otherwise_words, statements_words, block_words, file_words, HasBranch, LevelStatement, LevelBranches, LevelOtherwise, LevelStatements, LevelBlock, LevelFile, statement_depth, branches_depth, otherwise_depth, statements_depth, block_depth, file_depth, more_names_words, HasName, expression_words}
use Rattle.meson_syntax.proofs.parsing.Erased.{both, three, expression-words-erased, expression-level-erased, expression-depth-erased}

module _ {S : Type 0} where
  pub has-branch-erased : (bs : Branches S) → HasBranch (erase_branches bs) ≡ HasBranch bs
  has-branch-erased no_branches = refl
  has-branch-erased (branch e b more) = refl

  -- ---- words

  more-names-words-erased : (xs : List (Name S)) → more_names_words (erase_names xs) ≡ more_names_words xs
  more-names-words-erased [] = refl
  more-names-words-erased (x ∷ xs) = ap (λ w. mark k.Comma ++ ((k.Identifier, x.text) ∷ w)) (more-names-words-erased xs)

  pub names-words-erased : (xs : List (Name S)) → names_words (erase_names xs) ≡ names_words xs
  names-words-erased [] = refl
  names-words-erased (x ∷ xs) = ap (λ w. (k.Identifier, x.text) ∷ w) (more-names-words-erased xs)

  has-name-erased : (xs : List (Name S)) → HasName (erase_names xs) ≡ HasName xs
  has-name-erased [] = refl
  has-name-erased (x ∷ xs) = refl

  mutual
    pub statement-words-erased : (s : Statement S) → statement_words (erase_statement s) ≡ statement_words s
    statement-words-erased (evaluate e) = expression-words-erased e
    statement-words-erased (assign s x a e) = ap (λ w. (k.Identifier, x.text) ∷ (mark (assignment_kind a) ++ w)) (expression-words-erased e)
    statement-words-erased (selection s bs o) = ap₂ (λ u v. u ++ (v ++ mark k.WordEndif)) (branches-words-erased bs k.WordIf) (otherwise-words-erased o)
    statement-words-erased (iteration s xs e b) =
        ap (λ w. mark k.WordForeach ++ (w ++ (mark k.Colon ++ (expression_words (erase_expression e) ++ ((new_line ∷ block_words (erase_block b)) ++ mark k.WordEndforeach))))) (names-words-erased xs)
        ∙ ap₂ (λ u v. mark k.WordForeach ++ (names_words xs ++ (mark k.Colon ++ (u ++ ((new_line ∷ v) ++ mark k.WordEndforeach))))) (expression-words-erased e) (block-words-erased b)
    statement-words-erased (breaks s) = refl
    statement-words-erased (continues s) = refl

    pub branches-words-erased : (bs : Branches S) (word : Kind) → branches_words (erase_branches bs) word ≡ branches_words bs word
    branches-words-erased no_branches word = refl
    branches-words-erased (branch e b more) word =
        ap₂ (λ u v. mark word ++ (u ++ v)) (expression-words-erased e) (ap₂ (λ u v. (new_line ∷ u) ++ v) (block-words-erased b) (branches-words-erased more k.WordElif))

    pub otherwise-words-erased : (o : Otherwise S) → otherwise_words (erase_otherwise o) ≡ otherwise_words o
    otherwise-words-erased nothing_else = refl
    otherwise-words-erased (otherwise b) = ap (λ w. mark k.WordElse ++ (new_line ∷ w)) (block-words-erased b)

    pub statements-words-erased : (list : Statements S) → statements_words (erase_statements list) ≡ statements_words list
    statements-words-erased no_statements = refl
    statements-words-erased (statement s more) = ap₂ (λ u v. u ++ (new_line ∷ v)) (statement-words-erased s) (statements-words-erased more)

    pub block-words-erased : (b : Block S) → block_words (erase_block b) ≡ block_words b
    block-words-erased (block s list) = statements-words-erased list

  pub file-words-erased : (f : File S) → file_words (erase f) ≡ file_words f
  file-words-erased (file s b) = block-words-erased b

  -- ---- levels

  mutual
    pub statement-level-erased : (s : Statement S) → LevelStatement (erase_statement s) ≡ LevelStatement s
    statement-level-erased (evaluate e) = expression-level-erased e
    statement-level-erased (assign s x a e) = expression-level-erased e
    statement-level-erased (selection s bs o) = three _ _ _ _ _ _ (has-branch-erased bs) (branches-level-erased bs) (otherwise-level-erased o)
    statement-level-erased (iteration s xs e b) = three _ _ _ _ _ _ (has-name-erased xs) (expression-level-erased e) (block-level-erased b)
    statement-level-erased (breaks s) = refl
    statement-level-erased (continues s) = refl

    branches-level-erased : (bs : Branches S) → LevelBranches (erase_branches bs) ≡ LevelBranches bs
    branches-level-erased no_branches = refl
    branches-level-erased (branch e b more) = three _ _ _ _ _ _ (expression-level-erased e) (block-level-erased b) (branches-level-erased more)

    otherwise-level-erased : (o : Otherwise S) → LevelOtherwise (erase_otherwise o) ≡ LevelOtherwise o
    otherwise-level-erased nothing_else = refl
    otherwise-level-erased (otherwise b) = block-level-erased b

    statements-level-erased : (list : Statements S) → LevelStatements (erase_statements list) ≡ LevelStatements list
    statements-level-erased no_statements = refl
    statements-level-erased (statement s more) = both _ _ _ _ (statement-level-erased s) (statements-level-erased more)

    pub block-level-erased : (b : Block S) → LevelBlock (erase_block b) ≡ LevelBlock b
    block-level-erased (block s list) = statements-level-erased list

  pub file-level-erased : (f : File S) → LevelFile (erase f) ≡ LevelFile f
  file-level-erased (file s b) = block-level-erased b

  -- ---- depth

  mutual
    pub statement-depth-erased : (s : Statement S) → statement_depth (erase_statement s) ≡ statement_depth s
    statement-depth-erased (evaluate e) = expression-depth-erased e
    statement-depth-erased (assign s x a e) = expression-depth-erased e
    statement-depth-erased (selection s bs o) = ap suc (ap₂ max (branches-depth-erased bs) (otherwise-depth-erased o))
    statement-depth-erased (iteration s xs e b) = ap suc (ap₂ max (expression-depth-erased e) (block-depth-erased b))
    statement-depth-erased (breaks s) = refl
    statement-depth-erased (continues s) = refl

    branches-depth-erased : (bs : Branches S) → branches_depth (erase_branches bs) ≡ branches_depth bs
    branches-depth-erased no_branches = refl
    branches-depth-erased (branch e b more) = ap₂ max (ap₂ max (expression-depth-erased e) (block-depth-erased b)) (branches-depth-erased more)

    otherwise-depth-erased : (o : Otherwise S) → otherwise_depth (erase_otherwise o) ≡ otherwise_depth o
    otherwise-depth-erased nothing_else = refl
    otherwise-depth-erased (otherwise b) = block-depth-erased b

    statements-depth-erased : (list : Statements S) → statements_depth (erase_statements list) ≡ statements_depth list
    statements-depth-erased no_statements = refl
    statements-depth-erased (statement s more) = ap₂ max (statement-depth-erased s) (statements-depth-erased more)

    pub block-depth-erased : (b : Block S) → block_depth (erase_block b) ≡ block_depth b
    block-depth-erased (block s list) = statements-depth-erased list

  pub file-depth-erased : (f : File S) → file_depth (erase f) ≡ file_depth f
  file-depth-erased (file s b) = block-depth-erased b
