-- A key, a colon and a value are written where the value is, whether the key is an identifier or a literal.
use Rattle.meson_steps.proofs.Words.{◌≡◌, ℕ, true, false, None, List, [], ◌∷◌, ◌++◌, codes, refl, sym, ap, ◌∙◌, subst, IsUtf8-append, Lexeme, joined, IsItem}
use Rattle.meson_steps.proofs.Words.{AreItems, literal, Word, role, IsTight, speaks, spoken, Kind, space, remarks, IsWritten}
use Rattle.std.proofs.Common.{append_assoc, IsUtf8}
use Rattle.std.specs.Char.{encode_utf8}
use Rattle.std.proofs.lemmas.Bool.{and_from, or_left}
use Rattle.meson_lex.specs.declared.kinds.Kind.TheVariants as k
use Rattle.meson_lex.specs.Bytes.{is_blank, is_word_byte, begins, first_bare_return}
use Rattle.meson_lex.specs.Kinds.{IsIdentifier, IsWord}
use Rattle.meson_lex.proofs.Runs.{none_bare}
use Rattle.meson_lex.proofs.Written.{literal_text, literal_string, literal_return}
use Rattle.meson_layout.specs.Looks as look
use Rattle.meson_layout.proofs.FirstBytes.{no_blank_first, some_text}

pub word_return : (t : List ℕ) → IsWord t → first_bare_return t ≡ None
word_return [] word = absurd word
word_return (b ∷ bs) word = none_bare is_word_byte refl (b ∷ bs) (and_from _ _ (or_left _ _ word.0) word.1)

-- ---- the first byte of a value

solid : (κ : Kind) → speaks (role κ) ≡ true → look.is_blank_kind κ ≡ false
solid k.Blank is = absurd cc
solid _ is = refl

behind_front : (text rest : List ℕ) → (text ≡ [] → ⊥) → begins is_blank text ≡ false → begins is_blank (text ++ rest) ≡ false
behind_front [] rest some fails = absurd (some refl)
behind_front (b ∷ bs) rest some fails = fails

-- what is written does not begin with a blank
pub written_first : {bytes : List ℕ} {words : List Word} (w : IsWritten bytes words) (rest : List ℕ) → begins is_blank (joined w.items ++ rest) ≡ false
written_first w rest =
    let t : IsTight w.items = w.is_new.tight in
    let are = subst (λ l. AreItems l []) t.begins w.is_new.are_items.each in
    ap (λ l. begins is_blank (joined l ++ rest)) t.begins ∙ ap (begins is_blank) (append_assoc t.first.text (joined t.more) rest)
    ∙ behind_front t.first.text (joined t.more ++ rest) (some_text t.first.kind t.first.text are.0.0) (no_blank_first t.first (solid t.first.kind t.first_speaks) are.0.0)

-- ---- the colon

abbrev colon_item : Lexeme
colon_item = record { kind = k.Colon; text = 58 ∷ [] }

close_colon : IsUtf8 (codes ": ")
unfolding encode_utf8
close_colon = (codes ": ", (refl, refl))

wide_colon : IsUtf8 (codes " : ")
unfolding encode_utf8
wide_colon = (codes " : ", (refl, refl))

-- a key is one token that may stand before a blank and before `:`
pub record IsKey (key : Lexeme) (word : Word) : Type 0 where
  pub says : (l : List Lexeme) → spoken (key ∷ l) ≡ word ∷ spoken l
  pub quiet : (l : List Lexeme) → remarks (key ∷ l) ≡ remarks l
  pub first : speaks (role key.kind) ≡ true
  pub before_colon : (rest : List ℕ) → IsItem key (58 ∷ rest)
  pub before_blank : (rest : List ℕ) → IsItem key (32 ∷ rest)
  pub utf8 : IsUtf8 key.text

module _ {key : Lexeme} {word : Word} (is : IsKey key word) {bytes : List ℕ} {words : List Word} (w : IsWritten bytes words) where
  -- with these items between the key and the value
  with_items : (gap : List Lexeme) (text : List ℕ) → joined (key ∷ (gap ++ w.items)) ≡ key.text ++ (text ++ bytes) → AreItems (key ∷ (gap ++ w.items)) [] → remarks (gap ++ w.items) ≡ remarks w.items
      → spoken (gap ++ w.items) ≡ (k.Colon, []) ∷ spoken w.items → IsUtf8 text → IsWritten (key.text ++ (text ++ bytes)) (word ∷ (k.Colon, []) ∷ words)
  with_items gap text joins each quiet says utf8 =
      let t : IsTight w.items = w.is_new.tight in record {
        items = key ∷ (gap ++ w.items);
        is_new = record {
          are_items = record { joins = joins; each = each };
          tight = record {
            first = key;
            more = gap ++ w.items;
            begins = refl;
            first_speaks = is.first;
            front = key ∷ (gap ++ t.front);
            last = t.last;
            ends = ap (λ l. key ∷ (gap ++ l)) t.ends ∙ ap (λ l. key ∷ l) (sym (append_assoc gap t.front (t.last ∷ [])));
            last_speaks = t.last_speaks;
          };
          no_remarks = is.quiet (gap ++ w.items) ∙ quiet ∙ w.is_new.no_remarks;
        };
        is_words = is.says (gap ++ w.items) ∙ ap (λ l. word ∷ l) (says ∙ ap (λ l. (k.Colon, []) ∷ l) w.is_words);
        utf8 = IsUtf8-append key.text (text ++ bytes) is.utf8 (IsUtf8-append text bytes utf8 w.utf8);
      }

  pub keyed_close : IsWritten (key.text ++ (codes ": " ++ bytes)) (word ∷ (k.Colon, []) ∷ words)
  keyed_close =
      with_items (colon_item ∷ space ∷ []) (codes ": ") (ap (λ b. key.text ++ (codes ": " ++ b)) w.is_new.are_items.joins)
      (is.before_colon (32 ∷ (joined w.items ++ [])), ((refl, refl, tt), (((refl, refl), refl, written_first w []), w.is_new.are_items.each))) refl refl close_colon

  pub keyed_wide : IsWritten (key.text ++ (codes " : " ++ bytes)) (word ∷ (k.Colon, []) ∷ words)
  keyed_wide =
      with_items (space ∷ colon_item ∷ space ∷ []) (codes " : ") (ap (λ b. key.text ++ (codes " : " ++ b)) w.is_new.are_items.joins)
      (is.before_blank (58 ∷ 32 ∷ (joined w.items ++ [])), (((refl, refl), refl, refl), ((refl, refl, tt), (((refl, refl), refl, written_first w []), w.is_new.are_items.each)))) refl refl wide_colon

pub identifier_key : (key : List ℕ) → IsIdentifier key → IsUtf8 key → IsKey (record { kind = k.Identifier; text = key }) (k.Identifier, key)
identifier_key key is utf8 = record {
  says = λ l. refl;
  quiet = λ l. refl;
  first = refl;
  before_colon = λ rest. (is, word_return key is.0, (refl, λ same. refl));
  before_blank = λ rest. (is, word_return key is.0, (refl, λ same. refl));
  utf8 = utf8;
}

pub literal_key : (key : List ℕ) → IsUtf8 key → IsKey (record { kind = k.PlainString; text = literal key }) (k.PlainString, literal key)
literal_key key utf8 = record {
  says = λ l. refl;
  quiet = λ l. refl;
  first = refl;
  before_colon = λ rest. (literal_string key, literal_return key, λ same. refl);
  before_blank = λ rest. (literal_string key, literal_return key, λ same. refl);
  utf8 = literal_text key utf8;
}
