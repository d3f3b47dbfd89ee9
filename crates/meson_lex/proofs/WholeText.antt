-- That each item has no bare CR says the same as that the whole text has none: no item ends in a CR.
use Rattle.std.proofs.Common.{◌≡◌, ℕ, suc, true, not, List, [], ◌∷◌, ◌++◌, codes, None, option_map, sym, refl, ap, ◌∙◌, subst, ⊎_elim, append_assoc}
use Rattle.std.proofs.lemmas.Bool.{cond-false, and_from, or_left}
use Rattle.meson_lex.specs.declared.kinds.Kind.{Kind}
use Rattle.meson_lex.specs.declared.kinds.Kind.TheVariants.{Blank, LineEnd, Comment, Continuation, Identifier, Integer, PlainString, MultilineString, FormatString, FormatMultilineString}
use Rattle.meson_lex.specs.Bytes.{is_blank, is_line_byte, is_word_byte, begins_bare_return, first_bare_return}
use Rattle.meson_lex.specs.Kinds.{IsRun, IsLineEnd, IsComment, IsWord, IsContinuation, is_integer, OfKind}
use Rattle.meson_lex.specs.Items.{Lexeme, joined, AreItems, IsItemList, StandTogether}
use Rattle.meson_lex.proofs.FoundContinuations.{bare_append, no_return_in, no_return_note}
use Rattle.meson_lex.proofs.FrontComplete.{digit_word, integer_parts}
use Rattle.meson_lex.proofs.Runs.{none_bare}
use Rattle.meson_lex.proofs.Standing.{none_parts, list_returns}
use Rattle.meson_lex.proofs.Values.{quoted_inner, tripled_inner}

-- ---- no item ends in a CR

run_return : (text : List ℕ) → IsRun is_blank text → first_bare_return text ≡ None
run_return [] run = absurd run
run_return (b ∷ bs) run = none_bare is_blank refl (b ∷ bs) (and_from _ _ run.0 run.1)

line_end_return : (text : List ℕ) → IsLineEnd text → first_bare_return text ≡ None
line_end_return text h =
    let P : List ℕ → Type 0 = λ t. first_bare_return t ≡ None in
    ⊎_elim (λ e. subst P (sym e) refl) (λ e. subst P (sym e) refl) h

comment_return : (text : List ℕ) → IsComment text → first_bare_return text ≡ None
comment_return [] h = absurd h
comment_return (b ∷ bs) h = none_bare (λ c. not (is_line_byte c)) refl (b ∷ bs) (and_from _ _ (ap (λ c. not (is_line_byte c)) h.0) h.1)

continuation_return : (text : List ℕ) → IsContinuation text → first_bare_return text ≡ None
continuation_return text s =
    subst (λ t. first_bare_return t ≡ None) s.joins
    (bare_append (92 ∷ s.blanks) (s.note ++ s.end) (no_return_in is_blank refl s.blanks s.all_blank) (bare_append s.note s.end (no_return_note s.note s.is_note) (line_end_return s.end s.is_end)))

word_return : (text : List ℕ) → IsWord text → first_bare_return text ≡ None
word_return [] h = absurd h
word_return (b ∷ bs) h = none_bare is_word_byte refl (b ∷ bs) (and_from _ _ (or_left _ _ h.0) h.1)

integer_return : (text : List ℕ) → is_integer text ≡ true → first_bare_return text ≡ None
integer_return [] h = refl
integer_return (b ∷ bs) h =
    let parts = integer_parts b bs h in
    none_bare is_word_byte refl (b ∷ bs) (and_from _ _ (digit_word b parts.0) parts.1)

-- what ends in a quote begins no other way with more behind it
begins_same : (x : ℕ) (t more : List ℕ) → begins_bare_return (x ∷ ((t ++ 39 ∷ []) ++ more)) ≡ begins_bare_return (x ∷ (t ++ 39 ∷ []))
begins_same x [] more = refl
begins_same x (y ∷ t) more = refl

quote_return : (t more : List ℕ) → first_bare_return ((t ++ 39 ∷ []) ++ more) ≡ None → first_bare_return (t ++ 39 ∷ []) ≡ None
quote_return [] more h = refl
quote_return (x ∷ t) more h =
    let parts = none_parts (begins_bare_return (x ∷ ((t ++ 39 ∷ []) ++ more))) (first_bare_return ((t ++ 39 ∷ []) ++ more)) h in
    cond-false (begins_bare_return (x ∷ (t ++ 39 ∷ []))) _ _ (sym (begins_same x t more) ∙ parts.0) ∙ ap (option_map suc) (quote_return t more parts.1)

-- a string ends in a quote
string_return : (text more : List ℕ) → ((t : List ℕ) × (t ++ 39 ∷ [] ≡ text)) → first_bare_return (text ++ more) ≡ None → first_bare_return text ≡ None
string_return text more (t, ends) h = subst (λ l. first_bare_return l ≡ None) ends (quote_return t more (ap (λ l. first_bare_return (l ++ more)) ends ∙ h))

quoted_ends : (start text rest : List ℕ) → start ++ rest ≡ text → ((inner : List ℕ) × (inner ++ codes "'" ≡ rest)) → (t : List ℕ) × (t ++ 39 ∷ [] ≡ text)
quoted_ends start text rest joins (inner, ends) = (start ++ inner, append_assoc start inner (39 ∷ []) ∙ ap (λ l. start ++ l) ends ∙ joins)

tripled_ends : (start text rest : List ℕ) → start ++ rest ≡ text → ((inner : List ℕ) × (inner ++ codes "'''" ≡ rest)) → (t : List ℕ) × (t ++ 39 ∷ [] ≡ text)
tripled_ends start text rest joins (inner, ends) =
    (start ++ (inner ++ codes "''"), append_assoc start (inner ++ codes "''") (39 ∷ []) ∙ ap (λ l. start ++ l) (append_assoc inner (codes "''") (39 ∷ []) ∙ ends) ∙ joins)

item_return : (k : Kind) (text more : List ℕ) → OfKind k text → first_bare_return (text ++ more) ≡ None → first_bare_return text ≡ None
item_return Blank text more is h = run_return text is
item_return LineEnd text more is h = line_end_return text is
item_return Comment text more is h = comment_return text is
item_return Continuation text more is h = continuation_return text is
item_return Identifier text more is h = word_return text is.0
item_return Integer text more is h = integer_return text is
item_return PlainString text more is h = string_return text more (quoted_ends (codes "'") text is.rest is.joins (quoted_inner is.rest is.closed)) h
item_return FormatString text more is h = string_return text more (quoted_ends (codes "f'") text is.rest is.joins (quoted_inner is.rest is.closed)) h
item_return MultilineString text more is h = string_return text more (tripled_ends (codes "'''") text is.rest is.joins (tripled_inner is.rest is.closed)) h
item_return FormatMultilineString text more is h = string_return text more (tripled_ends (codes "f'''") text is.rest is.joins (tripled_inner is.rest is.closed)) h
item_return _ text more is h = subst (λ t. first_bare_return t ≡ None) (sym is) refl

-- ---- the whole text

behind_return : (xs ys : List ℕ) → first_bare_return (xs ++ ys) ≡ None → first_bare_return ys ≡ None
behind_return [] ys h = h
behind_return (x ∷ xs) ys h = behind_return xs ys (none_parts (begins_bare_return (x ∷ (xs ++ ys))) (first_bare_return (xs ++ ys)) h).1

items_together : (xs : List Lexeme) (rest : List ℕ) → AreItems xs rest → StandTogether xs rest
items_together [] rest each = tt
items_together (x ∷ xs) rest each = (each.0.0, each.0.2, items_together xs rest each.1)

together_items : (xs : List Lexeme) (rest : List ℕ) → StandTogether xs rest → first_bare_return (joined xs) ≡ None → AreItems xs rest
together_items [] rest stand none = tt
together_items (x ∷ xs) rest stand none =
    ((stand.0, item_return x.kind x.text (joined xs) stand.0 none, stand.1), together_items xs rest stand.2 (behind_return x.text (joined xs) none))

pub by_whole_text : (bytes : List ℕ) (xs : List Lexeme) → (IsItemList bytes xs → (joined xs ≡ bytes) × StandTogether xs [] × (first_bare_return bytes ≡ None)) × ((joined xs ≡ bytes) × StandTogether xs [] × (first_bare_return bytes ≡ None) → IsItemList bytes xs)
by_whole_text bytes xs = (
  λ list. (list.joins, items_together xs [] list.each, ap first_bare_return (sym list.joins) ∙ list_returns xs [] list.each),
  λ whole. record { joins = whole.0; each = together_items xs [] whole.1 (ap first_bare_return whole.0 ∙ whole.2) },
)
