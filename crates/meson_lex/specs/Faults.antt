-- Why no item can be read, and at which byte.
use Rattle.std.specs.Prelude.{◌≡◌, ◌≢◌, ℕ, ◌+◌, ◌==◌, Bool, true, false, ◌||◌, ◌⊎◌, List, [], ◌∷◌, ◌++◌, length, if◌then◌else◌, Option, Some, None, option_map}
use Rattle.std.specs.List.{list_all}
use Rattle.meson_lex.specs.declared.kinds.Kind.{Kind}
use Rattle.meson_lex.specs.declared.kinds.Kind.TheVariants.{PlainString, MultilineString, FormatString, FormatMultilineString}
use Rattle.meson_lex.specs.declared.fault.LexFault.{LexFault}
use Rattle.meson_lex.specs.declared.fault.LexFault.TheVariants.{StrayByte, OpenString, BadNumber, BareCarriageReturn}
use Rattle.meson_lex.specs.Bytes.{is_blank, is_line_byte, is_word_byte, is_digit, is_quote, is_equals, begins, begins_three_quotes, begins_bare_return, first_bare_return}
use Rattle.meson_lex.specs.Kinds.{IsComment, IsContinuation, IsString, is_integer}
use Rattle.meson_lex.specs.Items.{Lexeme, joined, AreItems}

-- ---- strings that are opened

-- the kind of string that quotes open: three always a multiline string
abbrev pub quote_kind : List ℕ → Option Kind
quote_kind bytes = if begins_three_quotes bytes then Some MultilineString else (if begins is_quote bytes then Some PlainString else None)

-- the same kind with an `f` before the quotes
abbrev pub formatted : Kind → Kind
formatted MultilineString = FormatMultilineString
formatted _ = FormatString

-- the kind of string that the text opens
abbrev pub opened_string : List ℕ → Option Kind
opened_string [] = None
opened_string (b ∷ bs) = if b == 102 then option_map formatted (quote_kind bs) else quote_kind (b ∷ bs)

-- no front of the text is a closed string of the kind
abbrev pub IsOpen : Kind → List ℕ → Type 0
IsOpen kind bytes = (text rest : List ℕ) → text ++ rest ≡ bytes → IsString kind text → ⊥

-- ---- bare carriage returns

-- in the item that is read at the front, before its end, a CR without LF after it is at the place
pub data HasBareReturn (bytes : List ℕ) (place : ℕ) : Type 0 where
  -- where an item would begin, or where a comment ends
  after_comment : (text rest : List ℕ) → text ++ rest ≡ bytes → (text ≡ []) ⊎ IsComment text → begins_bare_return rest ≡ true → place ≡ length text
      → HasBareReturn bytes place
  -- where the line end of a continuation would be
  after_backslash : (blanks note rest : List ℕ) → 92 ∷ (blanks ++ (note ++ rest)) ≡ bytes → list_all is_blank blanks ≡ true → (note ≡ []) ⊎ IsComment note
      → begins_bare_return rest ≡ true → place ≡ 1 + (length blanks + length note) → HasBareReturn bytes place
  -- in a string
  in_string : (kind : Kind) (text rest : List ℕ) → text ++ rest ≡ bytes → IsString kind text → first_bare_return text ≡ Some place → HasBareReturn bytes place
  -- anywhere after the opening of a string that is not closed
  in_open : (kind : Kind) → opened_string bytes ≡ Some kind → IsOpen kind bytes → first_bare_return bytes ≡ Some place → HasBareReturn bytes place

-- ---- the four faults

-- an item, or another fault than a stray byte, may begin with this byte
abbrev pub begins_item : ℕ → Bool
begins_item b = is_blank b || is_line_byte b || is_word_byte b || is_quote b || b == 35 || b == 92 || b == 40 || b == 41 || b == 91 || b == 93 || b == 123
    || b == 125 || b == 44 || b == 46 || b == 58 || b == 63 || b == 45 || b == 42 || b == 47 || b == 37 || b == 43 || b == 61 || b == 60 || b == 62

-- no item begins here: with another byte, with a lone `!`, or with a backslash that does not begin a continuation
pub data BeginsNone : List ℕ → Type 0 where
  other : (b : ℕ) (bs : List ℕ) → begins_item b ≡ false → b ≢ 33 → BeginsNone (b ∷ bs)
  not_equal : (b : ℕ) (bs : List ℕ) → b ≡ 33 → begins is_equals bs ≡ false → BeginsNone (b ∷ bs)
  backslash : (b : ℕ) (bs : List ℕ) → b ≡ 92 → ((text rest : List ℕ) → text ++ rest ≡ b ∷ bs → IsContinuation text → ⊥)
      → ((place : ℕ) → HasBareReturn (b ∷ bs) place → ⊥) → BeginsNone (b ∷ bs)

-- a digit is at the front, and no integer that may be there: another letter or digit follows, or there is no digit after a prefix
pub record IsBadNumber (bytes : List ℕ) : Type 0 where
  pub digit : begins is_digit bytes ≡ true
  pub none : (text rest : List ℕ) → text ++ rest ≡ bytes → is_integer text ≡ true → begins is_word_byte rest ≡ false → ⊥

-- a string is opened and not closed, and no bare CR follows
pub record IsOpenString (bytes : List ℕ) : Type 0 where
  pub kind : Kind
  pub opened : opened_string bytes ≡ Some kind
  pub not_closed : IsOpen kind bytes
  pub no_return : first_bare_return bytes ≡ None

-- the fault at the front of bytes, which begin at the offset
abbrev pub HasFault : ℕ → List ℕ → LexFault → Type 0
HasFault offset bytes (StrayByte at) = (at ≡ offset) × BeginsNone bytes
HasFault offset bytes (OpenString at) = (at ≡ offset) × IsOpenString bytes
HasFault offset bytes (BadNumber at) = (at ≡ offset) × IsBadNumber bytes
HasFault offset bytes (BareCarriageReturn at) = (place : ℕ) × (at ≡ offset + place) × HasBareReturn bytes place

-- the text, which begins at the offset, is these items, and then a rest with the fault at its front
pub record HasItemsThenFault (offset : ℕ) (bytes : List ℕ) (xs : List Lexeme) (rest : List ℕ) (fault : LexFault) : Type 0 where
  pub joins : joined xs ++ rest ≡ bytes
  pub each : AreItems xs rest
  pub at_front : HasFault (offset + length (joined xs)) rest fault
