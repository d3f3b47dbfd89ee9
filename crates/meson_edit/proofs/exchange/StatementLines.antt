-- The words of a statement close what they open, and those of a block are whole lines.
use Rattle.meson_edit.proofs.Words.{◌≡◌, List, [], ◌∷◌, ◌++◌, refl, subst, append_assoc, Word, new_line, Other, role, Kind, mark, more_names_words, names_words}
use Rattle.meson_edit.proofs.Words.{expression_words, statement_words, branches_words, otherwise_words, statements_words, block_words, file_words}
use Rattle.meson_edit.proofs.Words.{assignment_kind, Name, Statement, evaluate, assign, selection, iteration, breaks, continues, Branches, no_branches, branch}
use Rattle.meson_edit.proofs.Words.{Otherwise, nothing_else, otherwise, Statements, no_statements, statement, Block, block, File, file, Assignment, Flat}
use Rattle.meson_edit.proofs.Words.{flat-append, flat-word, expression-flat}
use Rattle.meson_lex.specs.declared.kinds.Kind.TheVariants as k
use Rattle.meson_syntax.specs.declared.operator.Assignment.TheVariants as assigns
use Rattle.meson_edit.proofs.exchange.States.{Lines, no-lines, lines-append, line-more, line-flat}

pub assignment-other : (a : Assignment) → role (assignment_kind a) ≡ Other
assignment-other assigns.Set = refl
assignment-other assigns.Add = refl

more-names-flat : {S : Type 0} (xs : List (Name S)) → Flat (more_names_words xs)
more-names-flat [] = λ n b. refl
more-names-flat (x ∷ xs) =
    flat-append (mark k.Comma) ((k.Identifier, x.text) ∷ more_names_words xs) (flat-word k.Comma [] refl)
    (flat-append ((k.Identifier, x.text) ∷ []) (more_names_words xs) (flat-word k.Identifier x.text refl) (more-names-flat xs))

names-flat : {S : Type 0} (xs : List (Name S)) → Flat (names_words xs)
names-flat [] = λ n b. refl
names-flat (x ∷ xs) = flat-append ((k.Identifier, x.text) ∷ []) (more_names_words xs) (flat-word k.Identifier x.text refl) (more-names-flat xs)

-- a word and what is asked behind it, and then lines
pub asked-lines : (word : Kind) (a b : List Word) → role word ≡ Other → Flat a → Lines b → Lines (mark word ++ (a ++ (new_line ∷ b)))
asked-lines word a b other f l = subst Lines (append_assoc (mark word) a (new_line ∷ b)) (line-more (mark word ++ a) b (flat-append (mark word) a (flat-word word [] other) f) l)

loop_group : {A : Type 0} (a b m e x : List A) → (a ++ (b ++ (m ++ e))) ++ x ≡ a ++ (b ++ (m ++ (e ++ x)))
loop_group a b m e x = simp append_assoc

module _ (S : Type 0) where
  -- what stands before the body of an iteration, and lines
  pub loop-lines : (xs : List (Name S)) (a b : List Word) → Flat a → Lines b → Lines (mark k.WordForeach ++ (names_words xs ++ (mark k.Colon ++ (a ++ (new_line ∷ b)))))
  loop-lines xs a b f l =
      subst Lines (loop_group (mark k.WordForeach) (names_words xs) (mark k.Colon) a (new_line ∷ b))
      (line-more (mark k.WordForeach ++ (names_words xs ++ (mark k.Colon ++ a))) b
      (flat-append (mark k.WordForeach) (names_words xs ++ (mark k.Colon ++ a)) (flat-word k.WordForeach [] refl)
      (flat-append (names_words xs) (mark k.Colon ++ a) (names-flat xs) (flat-append (mark k.Colon) a (flat-word k.Colon [] refl) f))) l)

  mutual
    pub statement-flat : (s : Statement S) → Flat (statement_words s)
    statement-flat (evaluate e) = expression-flat S e
    statement-flat (assign s x a e) =
        flat-append ((k.Identifier, x.text) ∷ []) (mark (assignment_kind a) ++ expression_words e) (flat-word k.Identifier x.text refl)
        (flat-append (mark (assignment_kind a)) (expression_words e) (flat-word (assignment_kind a) [] (assignment-other a)) (expression-flat S e))
    statement-flat (selection s bs o) =
        flat-append (branches_words bs k.WordIf) (otherwise_words o ++ mark k.WordEndif) (branches-lines bs k.WordIf refl).flat
        (flat-append (otherwise_words o) (mark k.WordEndif) (otherwise-flat o) (flat-word k.WordEndif [] refl))
    statement-flat (iteration s xs e b) =
        flat-append (mark k.WordForeach) (names_words xs ++ (mark k.Colon ++ (expression_words e ++ ((new_line ∷ block_words b) ++ mark k.WordEndforeach)))) (flat-word k.WordForeach [] refl)
        (flat-append (names_words xs) (mark k.Colon ++ (expression_words e ++ ((new_line ∷ block_words b) ++ mark k.WordEndforeach))) (names-flat xs)
        (flat-append (mark k.Colon) (expression_words e ++ ((new_line ∷ block_words b) ++ mark k.WordEndforeach)) (flat-word k.Colon [] refl)
        (flat-append (expression_words e) ((new_line ∷ block_words b) ++ mark k.WordEndforeach) (expression-flat S e)
        (flat-append (new_line ∷ block_words b) (mark k.WordEndforeach) (line-flat (block_words b) (block-lines b).flat) (flat-word k.WordEndforeach [] refl)))))
    statement-flat (breaks s) = flat-word k.WordBreak [] refl
    statement-flat (continues s) = flat-word k.WordContinue [] refl

    pub branches-lines : (bs : Branches S) (word : Kind) → role word ≡ Other → Lines (branches_words bs word)
    branches-lines no_branches word other = no-lines
    branches-lines (branch e b more) word other =
        asked-lines word (expression_words e) (block_words b ++ branches_words more k.WordElif) other (expression-flat S e)
        (lines-append (block_words b) (branches_words more k.WordElif) (block-lines b) (branches-lines more k.WordElif refl))

    otherwise-flat : (o : Otherwise S) → Flat (otherwise_words o)
    otherwise-flat nothing_else = λ n b. refl
    otherwise-flat (otherwise b) = flat-append (mark k.WordElse) (new_line ∷ block_words b) (flat-word k.WordElse [] refl) (line-flat (block_words b) (block-lines b).flat)

    pub statements-lines : (list : Statements S) → Lines (statements_words list)
    statements-lines no_statements = no-lines
    statements-lines (statement s more) = line-more (statement_words s) (statements_words more) (statement-flat s) (statements-lines more)

    pub block-lines : (b : Block S) → Lines (block_words b)
    block-lines (block s list) = statements-lines list

  pub file-lines : (f : File S) → Lines (file_words f)
  file-lines (file s b) = block-lines b
