-- `KEY: VALUE` is written where the value is, whether the key is a keyword or a literal.
use Rattle.meson_keywords.proofs.Words.{ℕ, List, ◌++◌, codes, IsIdentifier, argument_words, expression_words, bare_name, Nowhere, Expression, named, IsWritten}
use Rattle.meson_keywords.proofs.Words.{text_written, written_pair}
use Rattle.std.proofs.Common.{IsUtf8}
use Rattle.meson_steps.proofs.KeyedWritten.{identifier_key, keyed_close, literal_key}

pub named_written : (key bytes : List ℕ) (node : Expression Nowhere) → IsIdentifier key → IsUtf8 key → IsWritten bytes (expression_words node) → IsWritten (key ++ (codes ": " ++ bytes)) (argument_words (named tt (bare_name key) node))
named_written key bytes node is utf8 w = keyed_close (identifier_key key is utf8) w

-- an entry of a dictionary
pub pair_written : (name value : List ℕ) → IsUtf8 name → IsUtf8 value → IsWritten (written_pair name value).bytes (argument_words (written_pair name value).node)
pair_written name value name_utf8 value_utf8 = keyed_close (literal_key name name_utf8) (text_written value value_utf8)
