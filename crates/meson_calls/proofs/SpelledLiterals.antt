-- Where no backslash stands in bytes, the text of each literal that stands in them stands in them too.
use Rattle.meson_calls.proofs.Words.{false, option_map, if◌then◌else◌, chars, is_utf8, NonePass, ◌≡◌, ℕ, ◌+◌, ◌-◌, ◌*◌, eqb, List, [], ◌∷◌, ◌++◌, length, take}
use Rattle.meson_calls.proofs.Words.{drop, Bool, true, Some, None, encode_utf8, encode_utf8_all, sym, refl, ap, ◌∙◌, subst, arith, take-append-drop, lit<}
use Rattle.meson_calls.proofs.Words.{cond-false, false_from_ne_true, eqb-true, take_at, drop_at, encodes-append, encodes-chars, encode_ascii}
use Rattle.meson_calls.proofs.Words.{IsUtf8-from_is_utf8, between, unescaped, value, value_of_characters, Kind, PlainString, MultilineString, Span, text_at}
use Rattle.meson_calls.proofs.Words.{some-injective, HasNone}
use Rattle.std.proofs.Common.{IsUtf8, append_assoc}
use Rattle.meson_calls.proofs.Spelled.{IsPart, absent}

-- ---- a list that stands in another

record Within (whole part : List ℕ) : Type 0 where
  front : List ℕ
  back : List ℕ
  joins : front ++ (part ++ back) ≡ whole

cut : (xs : List ℕ) (n k : ℕ) → Within xs (take k (drop n xs))
cut xs n k = record { front = take n xs; back = drop k (drop n xs); joins = ap (λ l. take n xs ++ l) (take-append-drop k (drop n xs)) ∙ take-append-drop n xs }

deeper : (whole part inner : List ℕ) → Within whole part → Within part inner → Within whole inner
deeper whole part inner w v =
    record {
      front = w.front ++ v.front;
      back = v.back ++ w.back;
      joins =
          append_assoc w.front v.front (inner ++ (v.back ++ w.back))
          ∙ ap (λ l. w.front ++ (v.front ++ l)) (sym (append_assoc inner v.back w.back))
          ∙ ap (λ l. w.front ++ l) (sym (append_assoc v.front (inner ++ v.back) w.back))
          ∙ ap (λ l. w.front ++ (l ++ w.back)) v.joins
          ∙ w.joins;
    }

encoded : (cs part : List ℕ) → Within cs part → Within (encode_utf8_all cs) (encode_utf8_all part)
encoded cs part w =
    record {
      front = encode_utf8_all w.front;
      back = encode_utf8_all w.back;
      joins =
          ap (λ l. encode_utf8_all w.front ++ l) (sym (encodes-append part w.back))
          ∙ sym (encodes-append w.front (part ++ w.back))
          ∙ ap encode_utf8_all w.joins;
    }

is_part : (bytes part : List ℕ) → Within bytes part → IsPart bytes part
is_part bytes part w =
    let from = length w.front in
    let long : length part ≡ from + length part - from = omega arith in
    record {
      place = record { from = from; to = from + length part };
      is =
          sym (take_at part w.back (from + length part - from) long)
          ∙ ap (take (from + length part - from)) (sym (drop_at w.front (part ++ w.back) from refl))
          ∙ ap (λ l. text_at l (record { from = from; to = from + length part })) w.joins;
    }

-- ---- no escapes

abbrev is_backslash : ℕ → Bool
is_backslash c = eqb c 92

plain_characters : (cs : List ℕ) → NonePass is_backslash cs → unescaped cs ≡ Some cs
plain_characters [] none = refl
plain_characters (c ∷ cs) none = cond-false (eqb c 92) _ _ none.0 ∙ ap (option_map (λ l. c ∷ l)) (plain_characters cs none.1)

module _ (bytes : List ℕ) (none : HasNone (92 ∷ []) bytes) where
  no_backslash : (cs : List ℕ) → Within bytes (encode_utf8_all cs) → NonePass is_backslash cs
  no_backslash [] w = tt
  no_backslash (c ∷ cs) w =
      let here : Within (encode_utf8_all (c ∷ cs)) (encode_utf8 c) = record { front = []; back = encode_utf8_all cs; joins = refl } in
      let more : Within (encode_utf8_all (c ∷ cs)) (encode_utf8_all cs) =
      record { front = encode_utf8 c; back = []; joins = ap (λ l. encode_utf8 c ++ l) (append_nothing (encode_utf8_all cs)) } in (
        false_from_ne_true _ (λ is. absent (92 ∷ []) bytes (encode_utf8 c) none (is_part bytes (encode_utf8 c) (deeper _ _ _ w here)) (ap encode_utf8 (eqb-true c 92 is) ∙ encode_ascii 92 (lit< tt))),
        no_backslash cs (deeper _ _ _ w more),
      )
    where
      append_nothing : (l : List ℕ) → l ++ [] ≡ l
      append_nothing [] = refl
      append_nothing (x ∷ l) = ap (λ k. x ∷ k) (append_nothing l)

  -- the characters between the quotes stand for themselves
  module _ (cs : List ℕ) (stands : Within bytes (encode_utf8_all cs)) where
    inner_part : (n : ℕ) → IsPart bytes (encode_utf8_all (between n cs))
    inner_part n = is_part bytes (encode_utf8_all (between n cs)) (deeper _ _ _ stands (encoded cs (between n cs) (cut cs n (length cs - 2 * n))))

    inner_is : unescaped (between 1 cs) ≡ Some (between 1 cs)
    inner_is = plain_characters (between 1 cs) (no_backslash (between 1 cs) (deeper _ _ _ stands (encoded cs (between 1 cs) (cut cs 1 (length cs - 2 * 1)))))

    of_characters : (kind : Kind) (y : List ℕ) → option_map encode_utf8_all (value_of_characters kind cs) ≡ Some y → IsPart bytes y
    of_characters PlainString y is =
        let same : encode_utf8_all (between 1 cs) ≡ y = some-injective _ _ (sym (ap (option_map encode_utf8_all) inner_is) ∙ is) in
        subst (IsPart bytes) same (inner_part 1)
    of_characters MultilineString y is = subst (IsPart bytes) (some-injective _ _ is) (inner_part 3)
    of_characters kind y is = absurd cc

  token_text : (token : List ℕ) (kind : Kind) (y : List ℕ) → Within bytes token → (b : Bool) → (b ≡ true → IsUtf8 token)
      → (if b then option_map encode_utf8_all (value_of_characters kind (chars token)) else None) ≡ Some y → IsPart bytes y
  token_text token kind y w true text is = of_characters (chars token) (subst (Within bytes) (sym (encodes-chars token (text refl))) w) kind y is
  token_text token kind y w false text is = absurd cc

  pub literal_part : (s : Span) (kind : Kind) (y : List ℕ) → value kind (text_at bytes s) ≡ Some y → IsPart bytes y
  literal_part s kind y is =
      let token = text_at bytes s in
      token_text token kind y (cut bytes s.from (s.to - s.from)) (is_utf8 token) (IsUtf8-from_is_utf8 token) is
