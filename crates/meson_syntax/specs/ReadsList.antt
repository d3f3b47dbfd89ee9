-- What it means that a text is one list, from its opening bracket to its closing one, and nothing else.
use Rattle.std.specs.Prelude.{ℕ, ◌≤◌, List, [], ◌∷◌, ◌++◌, None, ◌≡◌}
use Rattle.std.specs.Str.{IsUtf8}
use Rattle.meson_lex.specs.declared.kinds.Span.{Span}
use Rattle.meson_lex.specs.Items.{Lexeme, IsItemList}
use Rattle.meson_lex.specs.Significant.{Word, start}
use Rattle.meson_lex.specs.Located.{spots}
use Rattle.meson_syntax.specs.declared.fault.ParseFault.{ParseFault}
use Rattle.meson_syntax.specs.declared.fault.ParseFault.TheVariants.{Unexpected, TooDeep, OutOfMemory}
use Rattle.meson_syntax.specs.declared.operator.Bracket.{Bracket}
use Rattle.meson_syntax.specs.declared.source.Limits.{Limits}
use Rattle.meson_syntax.specs.Tree.{Nowhere, Listing, erase_listing}
use Rattle.meson_syntax.specs.Grammar.{LevelListing, listing_depth}
use Rattle.meson_syntax.specs.Spelling.{SpellsListing}
use Rattle.meson_syntax.specs.Paths.{inner_words}
use Rattle.meson_syntax.specs.Reads.{max_depth, IsUnreadableWithin}
use Rattle.meson_syntax.specs.Operators.{opens, closes}
use Rattle.meson_lex.specs.Words.{spoken}

-- the limits of a list of at most this depth: it may have any length, and its depth counts from its own bracket
abbrev pub of_lists_within : ℕ → Limits
of_lists_within most = record { len = None; depth = most }

-- The text is a list from its opening bracket to its closing one, with these words between them.
pub record IsListText (text : List ℕ) (b : Bracket) (words : List Word) : Type 0 where
  pub open_item : Lexeme
  pub inner : List Lexeme
  pub close_item : Lexeme
  pub are_items : IsItemList text (open_item ∷ (inner ++ close_item ∷ []))
  pub is_open : open_item.kind ≡ opens b
  pub is_close : close_item.kind ≡ closes b
  pub is_inner : spoken inner ≡ words

-- The text is the list, in which at most this number of constructs are inside one another. It is an opening bracket, the words of the list's elements, and a
-- closing bracket.
pub record ReadsListWithin (most : ℕ) (b : Bracket) (bytes : List ℕ) (l : Listing Nowhere) : Type 0 where
  pub utf8 : IsUtf8 bytes
  pub text : IsListText bytes b (inner_words l)
  pub level : LevelListing l b
  pub depth : listing_depth l ≤ most

-- all items of a list's text
abbrev pub list_items : {bytes : List ℕ} {b : Bracket} {words : List Word} → IsListText bytes b words → List Lexeme
list_items t = t.open_item ∷ (t.inner ++ t.close_item ∷ [])

-- The text is the list without its spans, and each node is at its span.
pub record IsSpannedListWithin (most : ℕ) (b : Bracket) (bytes : List ℕ) (l : Listing Span) : Type 0 where
  pub reads : ReadsListWithin most b bytes (erase_listing l)
  pub stands : SpellsListing l b most (spots start 0 0 (list_items reads.text))

-- no list is parsed
abbrev pub HasNoListWithin : ℕ → Bracket → List ℕ → Type 0
HasNoListWithin most b bytes = (l : Listing Nowhere) → ReadsListWithin most b bytes l → ⊥

-- Which refusals a text may get: the first before the grammar, or else one of the grammar, if it is not such a list.
abbrev pub MayRefuseListWithin : ℕ → Bracket → List ℕ → ParseFault → Type 0
MayRefuseListWithin most b bytes (Unexpected at) = ((e : ParseFault) → IsUnreadableWithin (of_lists_within most) bytes e → ⊥) × HasNoListWithin most b bytes
MayRefuseListWithin most b bytes (TooDeep at) = ((e : ParseFault) → IsUnreadableWithin (of_lists_within most) bytes e → ⊥) × HasNoListWithin most b bytes
MayRefuseListWithin most b bytes OutOfMemory = Unit {0}
MayRefuseListWithin most b bytes fault = IsUnreadableWithin (of_lists_within most) bytes fault

-- ---- within the depth of files

abbrev pub of_lists : Limits
of_lists = of_lists_within max_depth

abbrev pub ReadsList : Bracket → List ℕ → Listing Nowhere → Type 0
ReadsList = ReadsListWithin max_depth

abbrev pub IsSpannedList : Bracket → List ℕ → Listing Span → Type 0
IsSpannedList = IsSpannedListWithin max_depth

abbrev pub MayRefuseList : Bracket → List ℕ → ParseFault → Type 0
MayRefuseList = MayRefuseListWithin max_depth
