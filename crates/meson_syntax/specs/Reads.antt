-- What it means that a text parses as a tree, and why a text does not parse.
use Rattle.std.specs.Prelude.{◌≡◌, ◌≢◌, ℕ, ◌<◌, ◌≤◌, List, [], ◌∷◌, length, take, Option, Some, None, Result, Ok, Err, ⊤}
use Rattle.std.specs.Str.{IsUtf8}
use Rattle.meson_lex.specs.declared.kinds.Span.{Span}
use Rattle.meson_lex.specs.declared.fault.LexFault.{LexFault}
use Rattle.meson_lex.specs.Items.{Lexeme, IsItemList}
use Rattle.meson_lex.specs.Faults.{HasItemsThenFault}
use Rattle.meson_lex.specs.Significant.{significant}
use Rattle.meson_lex.specs.Located.{located}
use Rattle.meson_syntax.specs.declared.fault.ParseFault.{ParseFault}
use Rattle.meson_syntax.specs.declared.source.Limits.{Limits}
use Rattle.meson_syntax.specs.declared.fault.ParseFault.TheVariants.{TooLarge, NotUtf8, ByteOrderMark, Lex, Unexpected, TooDeep, OutOfMemory}
use Rattle.meson_syntax.specs.Tree.{File, Plain, erase}
use Rattle.meson_syntax.specs.Grammar.{file_words, LevelFile, file_depth}
use Rattle.meson_syntax.specs.Spelling.{SpellsFile}

abbrev pub max_len : ℕ
max_len = 1048576

abbrev pub max_depth : ℕ
max_depth = 64

-- the limits of a file
abbrev pub of_files : Limits
of_files = record { len = Some max_len; depth = max_depth }

-- those of a text between two primitives of one command
abbrev pub wide : Limits
wide = record { len = None; depth = 65 }

abbrev pub Fits : Option ℕ → ℕ → Type 0
Fits None len = ⊤
Fits (Some most) len = len ≤ most

abbrev pub Exceeds : Option ℕ → ℕ → Type 0
Exceeds None len = ⊥
Exceeds (Some most) len = most < len

-- the byte order mark of UTF-8
abbrev pub mark_bytes : List ℕ
mark_bytes = 239 ∷ 187 ∷ 191 ∷ []

-- The text has an item list whose significant tokens are the words of the tree. Each part of the tree may be where it is.
pub record Spells (bytes : List ℕ) (t : Plain) : Type 0 where
  pub items : List Lexeme
  pub are_items : IsItemList bytes items
  pub words : significant items ≡ file_words t
  pub level : LevelFile t

-- how large a text may be and in which coding
pub record IsSourceWithin (limits : Limits) (bytes : List ℕ) : Type 0 where
  pub fits : Fits limits.len (length bytes)
  pub utf8 : IsUtf8 bytes
  pub no_mark : take 3 bytes ≢ mark_bytes

-- The text is a build file that parses as the tree.
pub record ReadsWithin (limits : Limits) (bytes : List ℕ) (t : Plain) : Type 0 where
  pub source : IsSourceWithin limits bytes
  pub spells : Spells bytes t
  pub depth : file_depth t ≤ limits.depth

-- The text parses as the tree without its spans, and each node is at its span.
pub record IsSpannedWithin (limits : Limits) (bytes : List ℕ) (t : File Span) : Type 0 where
  pub reads : ReadsWithin limits bytes (erase t)
  pub stands : SpellsFile t (length bytes) limits.depth (located reads.spells.items)

-- Why a text is refused before its grammar is checked, in order.
pub data IsUnreadableWithin (limits : Limits) (bytes : List ℕ) : ParseFault → Type 0 where
  too_large : Exceeds limits.len (length bytes) → IsUnreadableWithin limits bytes TooLarge
  not_utf8 : Fits limits.len (length bytes) → (IsUtf8 bytes → ⊥) → IsUnreadableWithin limits bytes NotUtf8
  marked : Fits limits.len (length bytes) → IsUtf8 bytes → take 3 bytes ≡ mark_bytes → IsUnreadableWithin limits bytes ByteOrderMark
  lexical : (items : List Lexeme) (rest : List ℕ) (fault : LexFault) → IsSourceWithin limits bytes → HasItemsThenFault 0 bytes items rest fault
      → IsUnreadableWithin limits bytes (Lex fault)

-- no tree is parsed
abbrev pub HasNoTreeWithin : Limits → List ℕ → Type 0
HasNoTreeWithin limits bytes = (t : Plain) → ReadsWithin limits bytes t → ⊥

-- Which refusals a text may get: the first before the grammar, or else one of the grammar, if it has no tree.
abbrev pub MayRefuseWithin : Limits → List ℕ → ParseFault → Type 0
MayRefuseWithin limits bytes TooLarge = IsUnreadableWithin limits bytes TooLarge
MayRefuseWithin limits bytes NotUtf8 = IsUnreadableWithin limits bytes NotUtf8
MayRefuseWithin limits bytes ByteOrderMark = IsUnreadableWithin limits bytes ByteOrderMark
MayRefuseWithin limits bytes (Lex fault) = IsUnreadableWithin limits bytes (Lex fault)
MayRefuseWithin limits bytes (Unexpected at) = ((e : ParseFault) → IsUnreadableWithin limits bytes e → ⊥) × HasNoTreeWithin limits bytes
MayRefuseWithin limits bytes (TooDeep at) = ((e : ParseFault) → IsUnreadableWithin limits bytes e → ⊥) × HasNoTreeWithin limits bytes
MayRefuseWithin limits bytes OutOfMemory = Unit {0}

-- ---- files

abbrev pub Reads : List ℕ → Plain → Type 0
Reads = ReadsWithin of_files

abbrev pub IsSpanned : List ℕ → File Span → Type 0
IsSpanned = IsSpannedWithin of_files

abbrev pub IsUnreadable : List ℕ → ParseFault → Type 0
IsUnreadable = IsUnreadableWithin of_files

abbrev pub MayNotRead : List ℕ → ParseFault → Type 0
MayNotRead = MayRefuseWithin of_files

-- ---- answers

-- the answer is this value, or memory ran out
abbrev pub Is : {X Y : Type 0} → (X → Y) → Result X ParseFault → Y → Type 0
Is view (Ok x) y = view x ≡ y
Is view (Err e) y = e ≡ OutOfMemory

-- the answer is this fault, or memory ran out
abbrev pub Refuses : {X : Type 0} → Result X ParseFault → ParseFault → Type 0
Refuses (Ok x) fault = ⊥
Refuses (Err e) fault = (e ≢ OutOfMemory) → e ≡ fault
