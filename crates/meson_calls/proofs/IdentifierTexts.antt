-- An identifier has ASCII characters alone, and so has the name of a keyword argument: they are texts.
use Rattle.meson_calls.proofs.Words.{list_all, IsAscii, IsUtf8, ◌≡◌, ℕ, ◌<◌, true, List, [], ◌∷◌, arith, and_parts, nat_tests, IsUtf8-from_ascii, IsIdentifier}
use Rattle.meson_calls.proofs.Words.{IsWord}
use Rattle.std.proofs.lemmas.Str.Ascii.{IsAscii-nil, IsAscii-cons}
use Rattle.meson_lex.specs.Bytes.{is_word_byte, is_word_start}

start_low : (b : ℕ) → is_word_start b ≡ true → b < 128
start_low b is = grind (arith, nat_tests)

byte_low : (b : ℕ) → is_word_byte b ≡ true → b < 128
byte_low b is = grind (arith, nat_tests)

bytes_low : (bs : List ℕ) → list_all is_word_byte bs ≡ true → IsAscii bs
bytes_low [] all = IsAscii-nil
bytes_low (b ∷ bs) all =
    let both = and_parts (is_word_byte b) (list_all is_word_byte bs) all in
    IsAscii-cons b bs (byte_low b both.0) (bytes_low bs both.1)

pub key_text : (bs : List ℕ) → list_all is_word_byte bs ≡ true → IsUtf8 bs
key_text bs all = IsUtf8-from_ascii bs (bytes_low bs all)

word_ascii : (t : List ℕ) → IsWord t → IsAscii t
word_ascii [] word = absurd word
word_ascii (b ∷ bs) word = IsAscii-cons b bs (start_low b word.0) (bytes_low bs word.1)

pub identifier_utf8 : (t : List ℕ) → IsIdentifier t → IsUtf8 t
identifier_utf8 t identifier = IsUtf8-from_ascii t (word_ascii t identifier.0)
