-- What spells a file are its words.
use Rattle.std.proofs.Common.{◌≡◌, ℕ, List, [], ◌∷◌, refl, ap, ap₂, ◌∙◌}
use Rattle.meson_lex.specs.declared.kinds.Kind.{Kind}
use Rattle.meson_lex.specs.declared.kinds.Kind.TheVariants as k
use Rattle.meson_lex.specs.declared.kinds.Span.{Span}
use Rattle.meson_lex.specs.Significant.{Word, kept, new_line}
use Rattle.meson_lex.specs.Located.{Token, word_of, words}
use Rattle.meson_syntax.specs.Operators.{assignment_kind}
use Rattle.meson_syntax.specs.Tree.{Statement, evaluate, assign, selection, iteration, breaks, continues, Branches, no_branches, branch, Otherwise, nothing_else, otherwise, Statements, no_statements, statement, Block, block, File, file, Name}
use Rattle.meson_syntax.specs.Spelling.{NewLine, SaysMoreNames, SaysNames, SpellsStatement, SpellsBranches, SpellsOtherwise, SpellsStatements, SpellsBlock, SpellsFile}
use Rattle.meson_syntax.specs.Grammar.{more_names_words, names_words, statement_words, branches_words, otherwise_words, statements_words, block_words, file_words}
use Rattle.meson_syntax.proofs.parsing.Marks.{assignment-drops}
use Rattle.meson_syntax.proofs.parsing.Words.{name-words, one-words, then-words, expression-words}

-- ---- steps

pub new-line-words : (P : ℕ → List Token → Type 0) (ts : List Token) (a : List Word) → (h : NewLine P ts) → words h.rest ≡ a → words ts ≡ new_line ∷ a
new-line-words P ts a h e =
    let t = h.token in
    let made : word_of t ≡ new_line = ap (λ (κ : Kind). (κ, kept κ t.text)) h.is in
    ap words h.joined ∙ ap₂ (λ w ws. w ∷ ws) made e

pub more-names-words : (xs : List (Name Span)) (ts : List Token) → SaysMoreNames xs ts → words ts ≡ more_names_words xs
more-names-words [] ts h = ap words h
more-names-words (x ∷ xs) ts h =
    let q = h.second in
    then-words _ _ ts _ _ h (one-words k.Comma h.front (λ x. refl) h.first)
    (then-words _ _ h.back _ _ q (name-words x q.front q.first) (more-names-words xs q.back q.second))

pub names-words : (xs : List (Name Span)) (ts : List Token) → SaysNames xs ts → words ts ≡ names_words xs
names-words [] ts h = absurd h
names-words (x ∷ xs) ts h = then-words _ _ ts _ _ h (name-words x h.front h.first) (more-names-words xs h.back h.second)

-- ---- statements

mutual
  pub statement-words : (s : Statement Span) (d : ℕ) (ts : List Token) → SpellsStatement s d ts → words ts ≡ statement_words s
  statement-words (evaluate e) d ts h = expression-words e d ts h
  statement-words (assign s x a e) d ts h =
      let p = h.1 in
      let q = p.second in
      then-words _ _ ts _ _ p (name-words x p.front p.first)
      (then-words _ _ p.back _ _ q (one-words (assignment_kind a) q.front (assignment-drops a) q.first) (expression-words e d q.back q.second))
  statement-words (selection s bs o) d ts h =
      let inner = h.2.inner in
      let p = h.2.spelled in
      let q = p.second in
      then-words _ _ ts _ _ p (branches-words bs k.WordIf inner p.front (λ x. refl) p.first)
      (then-words _ _ p.back _ _ q (otherwise-words o inner q.front q.first) (one-words k.WordEndif q.back (λ x. refl) q.second))
  statement-words (iteration s xs e b) d ts h =
      let p = h.1 in
      let q = p.second in
      let r = q.second in
      let inner = r.second.inner in
      let t = r.second.spelled in
      let u = t.second in
      let line = u.first in
      then-words _ _ ts _ _ p (one-words k.WordForeach p.front (λ x. refl) p.first)
      (then-words _ _ p.back _ _ q (names-words xs q.front q.first)
      (then-words _ _ q.back _ _ r (one-words k.Colon r.front (λ x. refl) r.first)
      (then-words _ _ r.back _ _ t (expression-words e inner t.front t.first)
      (then-words _ _ t.back _ _ u (new-line-words _ u.front _ line (block-words b inner line.token.to line.rest line.second)) (one-words k.WordEndforeach u.back (λ x. refl) u.second)))))
  statement-words (breaks s) d ts h = one-words k.WordBreak ts (λ x. refl) h.1
  statement-words (continues s) d ts h = one-words k.WordContinue ts (λ x. refl) h.1

  pub branches-words : (bs : Branches Span) (word : Kind) (d : ℕ) (ts : List Token) → ((x : List ℕ) → kept word x ≡ []) → SpellsBranches bs word d ts → words ts ≡ branches_words bs word
  branches-words no_branches word d ts drops h = ap words h
  branches-words (branch e b more) word d ts drops h =
      let p = h.second in
      let q = p.second in
      let line = q.first in
      then-words _ _ ts _ _ h (one-words word h.front drops h.first)
      (then-words _ _ h.back _ _ p (expression-words e d p.front p.first)
      (then-words _ _ p.back _ _ q (new-line-words _ q.front _ line (block-words b d line.token.to line.rest line.second)) (branches-words more k.WordElif d q.back (λ x. refl) q.second)))

  pub otherwise-words : (o : Otherwise Span) (d : ℕ) (ts : List Token) → SpellsOtherwise o d ts → words ts ≡ otherwise_words o
  otherwise-words nothing_else d ts h = ap words h
  otherwise-words (otherwise b) d ts h =
      let line = h.second in
      then-words _ _ ts _ _ h (one-words k.WordElse h.front (λ x. refl) h.first) (new-line-words _ h.back _ line (block-words b d line.token.to line.rest line.second))

  pub statements-words : (list : Statements Span) (d : ℕ) (ts : List Token) → SpellsStatements list d ts → words ts ≡ statements_words list
  statements-words no_statements d ts h = ap words h
  statements-words (statement s more) d ts h =
      let q = h.second in
      then-words _ _ ts _ _ h (statement-words s d h.front h.first)
      (then-words _ _ h.back _ _ q (one-words k.LineEnd q.front (λ x. refl) q.first) (statements-words more d q.back q.second))

  pub block-words : (b : Block Span) (d last : ℕ) (ts : List Token) → SpellsBlock b d last ts → words ts ≡ block_words b
  block-words (block s list) d last ts h = statements-words list d ts h.1

pub file-words : (f : File Span) (len d : ℕ) (ts : List Token) → SpellsFile f len d ts → words ts ≡ file_words f
file-words (file s b) len d ts h = block-words b d 0 ts h.2
