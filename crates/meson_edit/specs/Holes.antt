-- Laws of what a path names: its place among the items of the text, its words, and the same without spans.
use Rattle.std.specs.Prelude.{◌≡◌, ℕ, List, ◌++◌, Some, option_map}
use Rattle.meson_lex.specs.Significant.{Word}
use Rattle.meson_syntax.specs.declared.operator.Bracket.{Bracket}
use Rattle.meson_lex.specs.declared.kinds.Span.{Span}
use Rattle.meson_syntax.specs.declared.source.Limits.{Limits}
use Rattle.meson_syntax.specs.Tree.{Listing, Block, File, Plain, erase, erase_expression, erase_listing, erase_statement, erase_block, Nowhere}
use Rattle.meson_syntax.specs.Grammar.{block_words, file_words, listing_words}
use Rattle.meson_syntax.specs.Reads.{IsSpannedWithin}
use Rattle.meson_syntax.specs.Paths.{Sort, of_expression, of_statement, of_block, Node, node_words, Hole, reach, block_of, ListAt, list_at}
use Rattle.meson_edit.specs.Standing.{NodeStands, ListPlaces}
use Rattle.meson_edit.specs.Blocks.{block_at}

-- Each expression and statement that a path names is at its span. The items of the text are those left of it, its own, and those right of it.
abbrev pub NodesStand : Type 0
NodesStand = (limits : Limits) (bytes : List ℕ) (f : File Span) (s : IsSpannedWithin limits bytes f) (path : List ℕ) (h : Hole Span (Block Span))
    → reach Span of_block (block_of f) path ≡ Some h
    → NodeStands s.reads.spells.items h.sort h.inside h.before h.behind

-- So does each list, and within it each element.
abbrev pub ListsStand : Type 0
ListsStand = (limits : Limits) (bytes : List ℕ) (f : File Span) (s : IsSpannedWithin limits bytes f) (path : List ℕ) (p : ListAt Span)
    → list_at f path ≡ Some p → ListPlaces s.reads.spells.items p

-- The words of a node with another one in a hole are those before the hole, of the other one, and after the hole.
abbrev pub HolesFit : Type 0
HolesFit = (b : Block Nowhere) (path : List ℕ) (h : Hole Nowhere (Block Nowhere)) → reach Nowhere of_block b path ≡ Some h
    → (h.back h.inside ≡ b) × ((x : Node h.sort Nowhere) → block_words (h.back x) ≡ h.before ++ (node_words Nowhere h.sort x ++ h.behind))

-- The same for a file with another list where a path names one.
abbrev pub ListsFit : Type 0
ListsFit = (f : Plain) (path : List ℕ) (p : ListAt Nowhere) → list_at f path ≡ Some p
    → (p.back p.list ≡ f) × ((l : Listing Nowhere) → file_words (p.back l) ≡ p.before ++ (listing_words l p.bracket ++ p.behind))

-- ---- trees without their spans

-- what a path names, and the words around it
pub record WordsAround (S : Type 0) : Type 0 where
  pub sort : Sort
  pub inside : Node sort S
  pub before : List Word
  pub behind : List Word

abbrev pub words_around : {S T : Type 0} → Hole S T → WordsAround S
words_around h = record { sort = h.sort; inside = h.inside; before = h.before; behind = h.behind }

abbrev pub erase_node : (S : Type 0) (sort : Sort) → Node sort S → Node sort Nowhere
erase_node S of_expression e = erase_expression e
erase_node S of_statement s = erase_statement s
erase_node S of_block b = erase_block b

abbrev pub erase_front : {S : Type 0} → WordsAround S → WordsAround Nowhere
erase_front {S} h = record { sort = h.sort; inside = erase_node S h.sort h.inside; before = h.before; behind = h.behind }

-- A path names the same in the tree without its spans.
abbrev pub NodesErase : Type 0
NodesErase = (f : File Span) (path : List ℕ) → option_map words_around (reach Nowhere of_block (block_of (erase f)) path)
    ≡ option_map (λ h. erase_front (words_around h)) (reach Span of_block (block_of f) path)

-- the list that a path names, and the words around it
pub record ListFront (S : Type 0) : Type 0 where
  pub list : Listing S
  pub bracket : Bracket
  pub before : List Word
  pub behind : List Word

abbrev pub list_front : {S : Type 0} → ListAt S → ListFront S
list_front p = record { list = p.list; bracket = p.bracket; before = p.before; behind = p.behind }

abbrev pub erase_list_front : {S : Type 0} → ListFront S → ListFront Nowhere
erase_list_front p = record { list = erase_listing p.list; bracket = p.bracket; before = p.before; behind = p.behind }

abbrev pub ListsErase : Type 0
ListsErase = (f : File Span) (path : List ℕ) → option_map list_front (list_at (erase f) path)
    ≡ option_map (λ p. erase_list_front (list_front p)) (list_at f path)

-- So does a path of a block.
abbrev pub BlocksErase : Type 0
BlocksErase = (f : File Span) (path : List ℕ) → option_map (λ b. b.inside) (block_at (erase f) path) ≡ option_map (λ b. erase_block b.inside) (block_at f path)
