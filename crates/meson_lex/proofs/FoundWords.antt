-- The same of words and integers.
use Rattle.std.proofs.Common.{◌≡◌, ℕ, true, false, List, [], ◌∷◌, ◌++◌, length, take, drop, None, Err, sym, refl, ap, ◌∙◌, subst}
use Rattle.std.specs.Prelude.{codes, bytes_eq, option_map}
use Rattle.std.specs.List.{prefix_len, AllByRecursion}
use Rattle.std.proofs.lemmas.Bool.{cond-true, cond-false, cond_both, and_from, or_left, or_right, both_ways, false_from_ne_true}
use Rattle.std.proofs.lemmas.Slice.Eq.{bytes_eq-Decides}
use Rattle.meson_lex.specs.declared.kinds.Kind.{Kind}
use Rattle.meson_lex.specs.declared.kinds.Kind.TheVariants.{Identifier, WordTrue, WordFalse, WordIf, WordElif, WordElse, WordEndif, WordAnd, WordOr, WordNot, WordIn, WordForeach, WordEndforeach, WordBreak, WordContinue, Integer}
use Rattle.meson_lex.specs.declared.fault.LexFault.TheVariants.{BadNumber}
use Rattle.meson_lex.specs.Bytes.{is_digit, is_word_start, is_word_byte, is_quote, begins, begins_three_quotes, first_bare_return}
use Rattle.meson_lex.specs.Kinds.{is_integer, spelling, reserved, IsNoneOf, OfKind}
use Rattle.meson_lex.specs.Neighbours.{MayStand}
use Rattle.meson_lex.specs.Faults.{opened_string, quote_kind, formatted}
use Rattle.meson_lex.specs.Scan.{Front, kind_among, word_kind, word_front, number_front, front}
use Rattle.meson_lex.proofs.Runs.{run_passes, run_ends, none_bare, run_len, run_joins, run_take}
use Rattle.meson_lex.proofs.FrontComplete.{found, front_integer}
use Rattle.meson_lex.proofs.FoundLines.{IsFound, Sound}

-- what holds of each kind that a text spells, and of an identifier where it spells none, holds of the kind that is found
kind_sound : (P : Kind → Type 0) (text : List ℕ) (ks : List Kind) → AllByRecursion (λ k. text ≡ spelling k → P k) ks → (IsNoneOf ks text → P Identifier) → P (kind_among ks text)
kind_sound P text [] each none = none tt
kind_sound P text (k ∷ ks) each none =
    cond_both (bytes_eq text (spelling k)) _ _ P
    (λ same. each.0 ((bytes_eq-Decides text (spelling k)).0 same))
    (λ other. kind_sound P text ks each.1 (λ rest. none ((λ e. both_ways _ other ((bytes_eq-Decides text (spelling k)).1 e)), rest)))

-- a quote opens a string
quote_kind_some : (bs : List ℕ) → begins is_quote bs ≡ true → option_map formatted (quote_kind bs) ≡ None → ⊥
quote_kind_some bs q e =
    cond_both (begins_three_quotes bs) _ _ (λ o. option_map formatted o ≡ None → ⊥) (λ _ x. cc) (λ _. subst (λ o. option_map formatted o ≡ None → ⊥) (sym (cond-true (begins is_quote bs) _ _ q)) (λ x. cc)) e

f_apart : (rest : List ℕ) → opened_string (102 ∷ rest) ≡ None → begins is_quote rest ≡ false
f_apart rest e = false_from_ne_true _ (λ q. quote_kind_some rest q e)

pub word_sound : (at b : ℕ) (bs : List ℕ) → opened_string (b ∷ bs) ≡ None → is_word_start b ≡ true → Sound at (b ∷ bs) (word_front (b ∷ bs))
unfolding word_front
word_sound at b bs closed start =
    let passes : is_word_byte b ≡ true = or_left _ _ start in
    let n : ℕ = prefix_len is_word_byte (b ∷ bs) in
    let text : List ℕ = b ∷ take (prefix_len is_word_byte bs) bs in
    let rest : List ℕ = drop (prefix_len is_word_byte bs) bs in
    let joins : text ++ rest ≡ b ∷ bs = run_joins is_word_byte b bs passes in
    let bare : first_bare_return text ≡ None = none_bare is_word_byte refl text (and_from _ _ passes (run_passes is_word_byte bs)) in
    let ends : begins is_word_byte rest ≡ false = run_ends is_word_byte bs in
    let len = run_len is_word_byte b bs passes in
    let K : Kind → Type 0 = λ k. IsFound (b ∷ bs) k n in
    let item : (k : Kind) → OfKind k text → MayStand k text rest → K k = λ k is may. record { text = text; rest = rest; joins = joins; is = is; bare = bare; may = may; len = len } in
    let f : text ≡ codes "f" → begins is_quote rest ≡ false = λ is_f. f_apart rest (ap (λ t. opened_string (t ++ rest)) (sym is_f) ∙ ap opened_string joins ∙ closed) in
    subst (λ t. K (word_kind t)) (sym (run_take is_word_byte b bs passes))
    (kind_sound K text reserved
    (λ e. item WordTrue e ends, (λ e. item WordFalse e ends, (λ e. item WordIf e ends, (λ e. item WordElif e ends, (λ e. item WordElse e ends, (λ e. item WordEndif e ends, (λ e. item WordAnd e ends, (λ e. item WordOr e ends, (λ e. item WordNot e ends, (λ e. item WordIn e ends, (λ e. item WordForeach e ends, (λ e. item WordEndforeach e ends, (λ e. item WordBreak e ends, (λ e. item WordContinue e ends, tt))))))))))))))
    (λ none. item Identifier ((start, run_passes is_word_byte bs), none) (ends, f)))

-- the first byte of an integer's run is a digit, so all of the run are bytes of words
pub number_sound : (at b : ℕ) (bs : List ℕ) → is_digit b ≡ true → (r : Front) → front at (b ∷ bs) ≡ r → number_front at (b ∷ bs) ≡ r → Sound at (b ∷ bs) (number_front at (b ∷ bs))
unfolding number_front
number_sound at b bs digit r is same =
    let passes : is_word_byte b ≡ true = or_right (is_word_start b) (is_digit b) digit in
    let n : ℕ = prefix_len is_word_byte (b ∷ bs) in
    let text : List ℕ = b ∷ take (prefix_len is_word_byte bs) bs in
    let rest : List ℕ = drop (prefix_len is_word_byte bs) bs in
    let joins : text ++ rest ≡ b ∷ bs = run_joins is_word_byte b bs passes in
    let ends : begins is_word_byte rest ≡ false = run_ends is_word_byte bs in
    let taken = run_take is_word_byte b bs passes in
    cond_both (is_integer (take n (b ∷ bs))) _ _ (Sound at (b ∷ bs))
    (λ integer. record {
      text = text;
      rest = rest;
      joins = joins;
      is = ap is_integer (sym taken) ∙ integer;
      bare = none_bare is_word_byte refl text (and_from _ _ passes (run_passes is_word_byte bs));
      may = ends;
      len = run_len is_word_byte b bs passes;
    })
    (λ bad. (
      refl,
      record {
        digit = digit;
        none = λ t q j integer stop.
            let good = front_integer at t q integer stop in
            let wrong : number_front at (b ∷ bs) ≡ Err (BadNumber at) = cond-false (is_integer (take n (b ∷ bs))) _ _ bad in
            let both : found Integer (length t) ≡ Err (BadNumber at) = sym good ∙ ap (front at) j ∙ is ∙ sym same ∙ wrong in
            cc;
      },
    ))
