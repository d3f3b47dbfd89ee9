-- Statements that are passed over, since nothing in them matters to a variable.
use Rattle.std.specs.Prelude.{◌≡◌, ◌∷◌, [], ℕ, nat_lt, Bool, true, false, not, ◌&&◌, List, length, codes, Option, Some, None}
use Rattle.memchr.specs.Find.{Nowhere, OccursAt}
use Rattle.meson_lex.specs.declared.kinds.Span.{Span}
use Rattle.meson_syntax.specs.Tree.{Statement, evaluate, assign, selection, iteration, breaks, continues, Branches, no_branches, branch, Otherwise, nothing_else, otherwise, Statements, no_statements, statement, Block, block}
use Rattle.meson_syntax.specs.View.{text_at}
use Rattle.meson_edit.specs.Standing.{statement_span}
use Rattle.meson_calls.specs.declared.call.CallRef.{CallRef}
use Rattle.meson_calls.specs.Calls.{Call, call_of, calls_function}
use Rattle.meson_calls.specs.Project.{place_at}
use Rattle.meson_calls.specs.Spelling.{HasNoneOf}
use Rattle.meson_following.specs.declared.passing.WordSearch.{WordSearch}
use Rattle.meson_following.specs.declared.passing.WordSearches.{WordSearches}
use Rattle.meson_following.specs.declared.walk.Aim.{Aim}
use Rattle.meson_following.specs.declared.walk.Aim.TheVariants as aim
use Rattle.meson_following.specs.declared.walk.Walk.{Walk}
use Rattle.meson_following.specs.Flows.{is_in}
use Rattle.meson_following.specs.Makers.{Known, max_makers}

-- ---- words

abbrev pub setter_word : List ℕ
setter_word = codes "_variable"

abbrev pub folder_word : List ℕ
folder_word = codes "subdir"

-- One of them is in each statement that reads or sets a variable, enters a file or leaves one: the variable, and parts of the names of functions.
abbrev pub mattering_words : List ℕ → List (List ℕ)
mattering_words x = x ∷ setter_word ∷ folder_word ∷ []

-- a search for a word in a text: the word begins at none of the offsets that it has passed
abbrev pub IsSearch : (bytes : List ℕ) → WordSearch → Type 0
IsSearch bytes s = Nowhere (OccursAt bytes s.word) s.from s.to

pub record AreSearches (bytes : List ℕ) (s : WordSearches) : Type 0 where
  pub variable : IsSearch bytes s.variable
  pub setter : IsSearch bytes s.setter
  pub folder : IsSearch bytes s.folder
  pub is_setter : s.setter.word ≡ setter_word
  pub is_folder : s.folder.word ≡ folder_word

-- ---- statements after which the next one follows

abbrev pub is_error : {S : Type 0} → Option (Call S) → Bool
is_error None = false
is_error (Some c) = calls_function (codes "error") c

-- no loop's turn ends in it, and no call of `error` is one of its statements
abbrev mutual
  pub is_calm : {S : Type 0} → Statement S → Bool
  is_calm (evaluate e) = not (is_error (call_of e))
  is_calm (assign s x a e) = true
  is_calm (selection s bs o) = are_branches_calm bs && is_otherwise_calm o
  is_calm (iteration s xs e b) = is_block_calm b
  is_calm (breaks s) = false
  is_calm (continues s) = false

  pub are_branches_calm : {S : Type 0} → Branches S → Bool
  are_branches_calm no_branches = true
  are_branches_calm (branch e b more) = is_block_calm b && are_branches_calm more

  pub is_otherwise_calm : {S : Type 0} → Otherwise S → Bool
  is_otherwise_calm nothing_else = true
  is_otherwise_calm (otherwise b) = is_block_calm b

  pub are_calm : {S : Type 0} → Statements S → Bool
  are_calm no_statements = true
  are_calm (statement s more) = is_calm s && are_calm more

  pub is_block_calm : {S : Type 0} → Block S → Bool
  is_block_calm (block s list) = are_calm list

-- ---- what is known, and the place of the question

-- as many makers as are kept apart: to join it with itself leaves it as it is
abbrev pub is_kept : {S : Type 0} → Known S → Bool
is_kept None = true
is_kept (Some m) = not (nat_lt max_makers (length m.makers))

-- the place of the question is in what is at this one
abbrev pub asks_in : Aim → CallRef → Bool
asks_in (aim.Place c) q = is_in (place_at c) q
asks_in (aim.Makers ms) q = false

-- A statement at a place, before which this is known, may be passed over.
pub record MayPass (w : Walk) (q : CallRef) (s : Statement Span) (k : Known Span) : Type 0 where
  pub words : HasNoneOf (mattering_words w.question.variable.now) (text_at w.source.now (statement_span s))
  pub calm : is_calm s ≡ true
  pub kept : is_kept k ≡ true
  pub away : asks_in w.question.aim q ≡ false
