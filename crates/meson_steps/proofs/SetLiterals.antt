-- What is written for a text, for a list of texts in a call and for an array of one text.
use Rattle.meson_steps.proofs.Words.{◌≡◌, ℕ, ◌<◌, false, List, [], ◌∷◌, ◌++◌, map, length, codes, refl, sym, ap, ◌∙◌, subst, arith, All, Result, Ok, Err, IfOk}
use Rattle.meson_steps.proofs.Words.{append-nil, map-append, All-head, All-tail, IsUtf8-append, Lexeme, joined, IsItem, AreItems, literal, spoken}
use Rattle.meson_steps.proofs.Words.{comma, space, arguments_words, Flagged}
use Rattle.meson_steps.proofs.Words.{arguments_depth, Nowhere, Arguments, plain, arguments_of, Refusal, string_of, array_of_values, comma_between, written_text}
use Rattle.meson_steps.proofs.Words.{written_texts, WrittenFor, IsSet}
use Rattle.std.proofs.Common.{IsUtf8}
use Rattle.std.specs.Char.{encode_utf8}
use Rattle.meson_lex.specs.declared.kinds.Kind.TheVariants as k
use Rattle.meson_lex.proofs.Written.{literal_text, literal_string, literal_return}
use Rattle.std.proofs.lemmas.List.{length-map}
use Rattle.meson_steps.proofs.Between.{more_between as behind_others}
use Rattle.meson_steps.proofs.WrittenArrays.{array_level, array_low, array_written}

-- ---- one text

abbrev pub literal_item : List ℕ → Lexeme
literal_item t = record { kind = k.PlainString; text = literal t }

pub text_new : (t : List ℕ) → IsUtf8 t → WrittenFor (literal t)
text_new t utf8 = record {
  node = string_of t;
  writes = record {
    items = literal_item t ∷ [];
    is_new = record {
      are_items = record { joins = append-nil (literal t); each = ((literal_string t, literal_return t, λ empty. refl), tt) };
      tight = record { first = literal_item t; more = []; begins = refl; first_speaks = refl; front = []; last = literal_item t; ends = refl; last_speaks = refl };
      no_remarks = refl;
    };
    is_words = refl;
    utf8 = literal_text t utf8;
  };
  level = tt;
  shallow = omega arith;
}

-- ---- texts: the items between the brackets

abbrev pub behind : List (List ℕ) → List Lexeme
behind [] = []
behind (t ∷ ts) = comma ∷ space ∷ literal_item t ∷ behind ts

abbrev pub inner : List (List ℕ) → List Lexeme
inner [] = []
inner (t ∷ ts) = literal_item t ∷ behind ts

-- before a byte that may stand behind a literal
module _ (z : ℕ) (closes : (t : List ℕ) → IsItem (literal_item t) (z ∷ [])) where
  literal_stands : (t : List ℕ) (ts : List (List ℕ)) → IsItem (literal_item t) (joined (behind ts) ++ z ∷ [])
  literal_stands t [] = closes t
  literal_stands t (u ∷ ts) = (literal_string t, literal_return t, λ empty. refl)

  behind_items : (ts : List (List ℕ)) → AreItems (behind ts) (z ∷ [])
  behind_items [] = tt
  behind_items (t ∷ ts) = ((refl, refl, tt), (((refl, refl), refl, refl), (literal_stands t ts, behind_items ts)))

  pub inner_items : (ts : List (List ℕ)) → AreItems (inner ts) (z ∷ [])
  inner_items [] = tt
  inner_items (t ∷ ts) = (literal_stands t ts, behind_items ts)

-- ---- their bytes

behind_joined : (t : List ℕ) (ts : List (List ℕ)) → literal t ++ joined (behind ts) ≡ comma_between (map literal (t ∷ ts))
behind_joined t [] = append-nil (literal t)
behind_joined t (u ∷ ts) = ap (λ l. literal t ++ (codes ", " ++ l)) (behind_joined u ts)

pub inner_joined : (ts : List (List ℕ)) → joined (inner ts) ≡ comma_between (map literal ts)
inner_joined [] = refl
inner_joined (t ∷ ts) = behind_joined t ts

-- ---- their words

abbrev pub strings : List (List ℕ) → Arguments Nowhere
strings ts = arguments_of (map plain (map string_of ts))

behind_words : (t : List ℕ) (ts : List (List ℕ)) (more : List Lexeme) → spoken (literal_item t ∷ (behind ts ++ more)) ≡ arguments_words (strings (t ∷ ts)) false ++ spoken more
behind_words t [] more = refl
behind_words t (u ∷ ts) more = ap (λ l. (k.PlainString, literal t) ∷ (k.Comma, []) ∷ l) (behind_words u ts more)

pub inner_words : (ts : List (List ℕ)) (more : List Lexeme) → spoken (inner ts ++ more) ≡ arguments_words (strings ts) false ++ spoken more
inner_words [] more = refl
inner_words (t ∷ ts) more = behind_words t ts more

-- ---- UTF-8 and depth

between_text : IsUtf8 (codes ", ")
unfolding encode_utf8
between_text = (codes ", ", (refl, refl))

abbrev pub Texts : List (List ℕ) → Type 0
Texts [] = Unit {0}
Texts (t ∷ ts) = IsUtf8 t × Texts ts

pub texts_text : (ts : List (List ℕ)) → Texts ts → IsUtf8 (comma_between (map literal ts))
texts_text [] are = ([], (refl, refl))
texts_text (t ∷ []) are = literal_text t are.0
texts_text (t ∷ u ∷ ts) are =
    IsUtf8-append (literal t) (codes ", " ++ comma_between (map literal (u ∷ ts))) (literal_text t are.0)
    (IsUtf8-append (codes ", ") (comma_between (map literal (u ∷ ts))) between_text (texts_text (u ∷ ts) are.1))

pub flagged : (ts : List (List ℕ)) → Flagged false (strings ts)
flagged [] = refl
flagged (t ∷ ts) = tt

pub strings_flat : (ts : List (List ℕ)) → arguments_depth (strings ts) ≡ 0
strings_flat [] = refl
strings_flat (t ∷ ts) = let flat = strings_flat ts in omega (arith, flat)

-- ---- one text after another

pub all_texts : (ts : List (List ℕ)) → All IsUtf8 ts → Texts ts
all_texts [] are = tt
all_texts (t ∷ ts) are = (All-head IsUtf8 t ts are, all_texts ts (All-tail IsUtf8 t ts are))

pub more_between : (ts : List (List ℕ)) (t : List ℕ) → 0 < length ts → comma_between (map literal (ts ++ t ∷ [])) ≡ comma_between (map literal ts) ++ (codes ", " ++ literal t)
more_between ts t some =
    let many = length-map ts literal in ap comma_between (map-append literal ts (t ∷ [])) ∙ behind_others (map literal ts) (literal t) (omega (arith, some, many))

-- ---- what is set

text_is : (t bytes : List ℕ) → bytes ≡ literal t → IsUtf8 t → IsSet (Ok (written_text t)) bytes
unfolding text_new
text_is t bytes is utf8 = subst (IsSet (Ok (written_text t))) (sym is) (record { new = text_new t utf8; is = refl })

one_is : (t bytes : List ℕ) → bytes ≡ 91 ∷ (literal t ++ 93 ∷ []) → IsUtf8 t → IsSet (Ok (written_texts (t ∷ []))) bytes
unfolding text_new
one_is t bytes is utf8 =
    let one = written_text t ∷ [] in
    subst (IsSet (Ok (written_texts (t ∷ [])))) (sym is) (record {
      new = record { node = array_of_values (string_of t ∷ []); writes = array_written one ((text_new t utf8).writes, tt); level = array_level one (tt, tt); shallow = array_low 0 one (omega arith, tt) };
      is = refl;
    })

pub text_set : (t : List ℕ) (r : Result (List ℕ) Refusal) → IfOk r (λ b. b ≡ literal t) → IfOk r (λ b. IsUtf8 t) → IfOk r (IsSet (Ok (written_text t)))
text_set t (Ok bytes) is utf8 = text_is t bytes is utf8
text_set t (Err e) is utf8 = tt

pub one_set : (t : List ℕ) (r : Result (List ℕ) Refusal) → IfOk r (λ b. b ≡ 91 ∷ (literal t ++ 93 ∷ [])) → IfOk r (λ b. IsUtf8 t) → IfOk r (IsSet (Ok (written_texts (t ∷ []))))
one_set t (Ok bytes) is utf8 = one_is t bytes is utf8
one_set t (Err e) is utf8 = tt
