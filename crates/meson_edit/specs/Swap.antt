-- If located tokens spell a file, the tokens of a list may be replaced by those of another list with the same span.
use Rattle.std.specs.Prelude.{◌≡◌, ◌≤◌, ℕ, List, ◌++◌, Some}
use Rattle.meson_lex.specs.declared.kinds.Span.{Span}
use Rattle.meson_lex.specs.Located.{Token, words}
use Rattle.meson_syntax.specs.Tree.{Listing, File, erase}
use Rattle.meson_syntax.specs.Grammar.{file_depth}
use Rattle.meson_syntax.specs.Spelling.{SpellsListing, SpellsFile}
use Rattle.meson_syntax.specs.Paths.{ListAt, list_at, list_span}

-- The tokens of a list among those of its file, and the file with another list there, if its depth allows it.
pub record ListSwaps (len depth : ℕ) (ts : List Token) (p : ListAt Span) : Type 0 where
  pub inner : ℕ
  pub front : List Token
  pub own : List Token
  pub back : List Token
  pub parts : ts ≡ front ++ (own ++ back)
  pub is_front : words front ≡ p.before
  pub is_back : words back ≡ p.behind
  pub spelled : SpellsListing p.list p.bracket inner own
  pub swap : (l : Listing Span) (d : ℕ) (new : List Token) → SpellsListing l p.bracket d new → list_span l ≡ list_span p.list
      → file_depth (erase (p.back l)) ≤ depth → SpellsFile (p.back l) len depth (front ++ (new ++ back))

-- So it is with each list that a path names.
abbrev pub ListsSwap : Type 0
ListsSwap = (f : File Span) (path : List ℕ) (p : ListAt Span) → list_at f path ≡ Some p
    → (len depth : ℕ) (ts : List Token) → SpellsFile f len depth ts → ListSwaps len depth ts p
