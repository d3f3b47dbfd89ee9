-- What a path names in a tree, and in that tree with the values of its nodes mapped by one function.
use Rattle.std.specs.Prelude.{◌≡◌, ℕ, List, Option, Some, None}
use Rattle.meson_lex.specs.declared.kinds.Span.{Span}
use Rattle.meson_lex.specs.Significant.{Word}
use Rattle.meson_syntax.specs.Tree.{Listing, File}
use Rattle.meson_syntax.specs.Paths.{Sort, of_expression, of_statement, of_block, Node, Hole, reach, block_of, ListAt, list_at}
use Rattle.meson_edit.specs.Moves.{each_expression, each_listing, each_statement, each_block, each_file}

module _ {S T : Type 0} (h : S → T) where
  abbrev pub each_node : (sort : Sort) → Node sort S → Node sort T
  each_node of_expression e = each_expression h e
  each_node of_statement s = each_statement h s
  each_node of_block b = each_block h b

  -- The same hole in both trees: the node in the one is the mapped one, between the same words. To put another one there and to map the whole is the same as to
  -- put the mapped one there.
  pub data MapsHole {A B : Type 0} (each : A → B) : Hole S A → Hole T B → Type 0 where
    maps : (sort : Sort) (x : Node sort S) (before before' behind behind' : List Word) (back : Node sort S → A) (back' : Node sort T → B)
        → before' ≡ before → behind' ≡ behind → ((y : Node sort S) → back' (each_node sort y) ≡ each (back y))
        → MapsHole each (record { sort = sort; inside = x; before = before; behind = behind; back = back })
        (record { sort = sort; inside = each_node sort x; before = before'; behind = behind'; back = back' })

  -- So of a list.
  pub record MapsList (p : ListAt S) (r : ListAt T) : Type 0 where
    pub list : r.list ≡ each_listing h p.list
    pub bracket : r.bracket ≡ p.bracket
    pub before : r.before ≡ p.before
    pub behind : r.behind ≡ p.behind
    pub back : (l : Listing S) → r.back (each_listing h l) ≡ each_file h (p.back l)

-- both are there, and one is to the other as said, or neither is there
pub data InBoth {A B : Type 0} (related : A → B → Type 0) : Option A → Option B → Type 0 where
  neither : InBoth related None None
  both : (x : A) (y : B) → related x y → InBoth related (Some x) (Some y)

-- A path names a node in both trees or in neither, and so it does a list.
abbrev pub NodesMap : Type 0
NodesMap =
    (h : Span → Span) (f : File Span) (path : List ℕ) → InBoth (MapsHole h (each_block h)) (reach Span of_block (block_of f) path)
    (reach Span of_block (block_of (each_file h f)) path)

abbrev pub ListsMap : Type 0
ListsMap = (h : Span → Span) (f : File Span) (path : List ℕ) → InBoth (MapsList h) (list_at f path) (list_at (each_file h f) path)
