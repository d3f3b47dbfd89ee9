use Rattle.std.proofs.Common.{◌≡◌, List, ℕ, Bool, true, false, None, refl, sym}
use Rattle.std.specs.Prelude.{if◌then◌else◌, option_and_then}
use Rattle.std.specs.Str.{IsUtf8, is_utf8}
use Rattle.std.proofs.lemmas.Str.{IsUtf8-from_is_utf8, is_utf8-from_IsUtf8}
use Rattle.serde_json.specs.Read.{read}
use Rattle.meson_json.specs.TextsFile.{listed_texts, texts_of_data}
use Rattle.meson_json.proofs.texts_file.listed.Goals as goal

none-by : (b : Bool) (bs : List ℕ) → is_utf8 bs ≡ b → (IsUtf8 bs → read bs ≡ None) → (if b then option_and_then texts_of_data (read bs) else None) ≡ None
none-by true bs is unread = rw (unread (IsUtf8-from_is_utf8 bs is)) refl
none-by false bs is unread = refl

none-listed : (bs : List ℕ) → (IsUtf8 bs → read bs ≡ None) → listed_texts bs ≡ None
unfolding listed_texts
none-listed bs unread = none-by (is_utf8 bs) bs refl unread

pub returns : goal.returns
unfolding listed_texts
returns c = rw (is_utf8-from_IsUtf8 c.args.bytes.now c.in-Ok.ensures.ok.0, c.in-Ok.ensures.ok.1) c.texts_from.ensures

pub returns-in-Err-2 : goal.returns-in-Err-2
returns-in-Err-2 c = sym (none-listed c.args.bytes.now (c.in-Err.ensures.err (λ is. let so = c.is_memory.ensures.1 is in cc)))
