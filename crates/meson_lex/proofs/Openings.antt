-- What is found where a string is opened, and where a bare CR stands.
use Rattle.std.proofs.Common.{◌≡◌, ℕ, ◌+◌, ◌≤◌, true, false, not, eqb, List, [], ◌∷◌, ◌++◌, length, drop, Option, Some, None, Err, sym, refl, ap, ◌∙◌, subst, arith, inl, inr, add-zero, append_assoc, length-append}
use Rattle.std.specs.Prelude.{codes, option_map}
use Rattle.std.proofs.lemmas.Bool.{cond-true, cond-false, cond_both, and_parts, eqb-true, false≢true, not-true, false_from_ne_true}
use Rattle.std.proofs.lemmas.List.{drop_at}
use Rattle.meson_lex.specs.declared.kinds.Kind.{Kind}
use Rattle.meson_lex.specs.declared.kinds.Kind.TheVariants.{PlainString, MultilineString, FormatString, FormatMultilineString}
use Rattle.meson_lex.specs.declared.fault.LexFault.TheVariants.{StrayByte, OpenString, BareCarriageReturn}
use Rattle.meson_lex.specs.Bytes.{is_line_byte, is_line_feed, is_quote, begins, begins_three_quotes, begins_bare_return, first_bare_return}
use Rattle.meson_lex.specs.Kinds.{IsString, IsRestOf, opener, OfKind}
use Rattle.meson_lex.specs.Neighbours.{MayStand}
use Rattle.meson_lex.specs.Faults.{IsOpen, opened_string, quote_kind, formatted, HasBareReturn, after_comment, after_backslash, in_string, in_open}
use Rattle.meson_lex.specs.Scan.{Front, continuation_of, unless_bare, quoted_front, string_front, line_front, plain, front, rest_len}
use Rattle.meson_lex.proofs.StringEnds.{rest_closed, rest_finds, three_quotes, FindsFront, IsStringKind}
use Rattle.meson_lex.proofs.FrontComplete.{found, front_comment, front_backslash_reads, front_string, string_again, NoQuoteAfterEmpty}

abbrev pub bare_at : ℕ → Front
bare_at n = Err (BareCarriageReturn n)

abbrev pub stray : ℕ → Front
stray at = Err (StrayByte at)

-- ---- what is opened

-- a kind with no f
abbrev IsBare : Kind → Type 0
IsBare PlainString = Unit {0}
IsBare MultilineString = Unit {0}
IsBare _ = ⊥

abbrev OpenedBare : List ℕ → Option Kind → Type 0
OpenedBare bytes None = Unit {0}
OpenedBare bytes (Some k) = (rest : List ℕ) × (opener k ++ rest ≡ bytes) × IsBare k

-- the text begins with what opens a string of the kind
abbrev pub Opened : List ℕ → Option Kind → Type 0
Opened bytes None = Unit {0}
Opened bytes (Some k) = (rest : List ℕ) × (opener k ++ rest ≡ bytes) × IsStringKind k

one_quote : (bs : List ℕ) → begins is_quote bs ≡ true → (rest : List ℕ) × (codes "'" ++ rest ≡ bs)
one_quote [] h = absurd (false≢true h)
one_quote (b ∷ bs) h = (bs, ap (λ x. x ∷ bs) (sym (eqb-true b 39 h)))

quote_opened : (bytes : List ℕ) → OpenedBare bytes (quote_kind bytes)
quote_opened bytes =
    cond_both (begins_three_quotes bytes) _ _ (OpenedBare bytes)
    (λ three. let r = three_quotes bytes three in (r.0, r.1, tt))
    (λ _. cond_both (begins is_quote bytes) _ _ (OpenedBare bytes) (λ one. let r = one_quote bytes one in (r.0, r.1, tt)) (λ _. tt))

format_opened : (bs : List ℕ) (o : Option Kind) → OpenedBare bs o → Opened (102 ∷ bs) (option_map formatted o)
format_opened bs None h = tt
format_opened bs (Some PlainString) h = (h.0, ap (λ l. 102 ∷ l) h.1, tt)
format_opened bs (Some MultilineString) h = (h.0, ap (λ l. 102 ∷ l) h.1, tt)
format_opened bs (Some _) h = absurd h.2

plain_opened : (bs : List ℕ) (o : Option Kind) → OpenedBare bs o → Opened bs o
plain_opened bs None h = tt
plain_opened bs (Some PlainString) h = (h.0, h.1, tt)
plain_opened bs (Some MultilineString) h = (h.0, h.1, tt)
plain_opened bs (Some _) h = absurd h.2

pub is_opened : (bytes : List ℕ) → Opened bytes (opened_string bytes)
is_opened [] = tt
is_opened (b ∷ bs) =
    cond_both (eqb b 102) _ _ (Opened (b ∷ bs))
    (λ f. subst (λ x. Opened (x ∷ bs) (option_map formatted (quote_kind bs))) (sym (eqb-true b 102 f)) (format_opened bs _ (quote_opened bs)))
    (λ _. plain_opened (b ∷ bs) _ (quote_opened (b ∷ bs)))

pub opened_as : (bytes : List ℕ) (k : Kind) → opened_string bytes ≡ Some k → Opened bytes (Some k)
opened_as bytes k e = subst (Opened bytes) e (is_opened bytes)

-- ---- strings

pub of_string : (k : Kind) (text : List ℕ) → IsString k text → OfKind k text
of_string PlainString text s = s
of_string MultilineString text s = s
of_string FormatString text s = s
of_string FormatMultilineString text s = s
of_string _ text s = absurd s.closed

-- a string in which a bare CR stands is no empty one
not_empty : (k : Kind) (text rest : List ℕ) (place : ℕ) → IsString k text → first_bare_return text ≡ Some place → NoQuoteAfterEmpty k text rest
not_empty PlainString text rest place s bare e = let none : first_bare_return text ≡ None = ap first_bare_return e in absurd (cc)
not_empty FormatString text rest place s bare e = let none : first_bare_return text ≡ None = ap first_bare_return e in absurd (cc)
not_empty MultilineString text rest place s bare e = let none : first_bare_return text ≡ None = ap first_bare_return e in absurd (cc)
not_empty FormatMultilineString text rest place s bare e = let none : first_bare_return text ≡ None = ap first_bare_return e in absurd (cc)
not_empty _ text rest place s bare e = absurd s.closed

-- two quotes and a third open another string
pub may_string : (k : Kind) (text rest : List ℕ) → opened_string (text ++ rest) ≡ Some k → IsString k text → MayStand k text rest
may_string PlainString text rest e s = λ is.
    false_from_ne_true _ (λ q.
    let at_quotes : opened_string (39 ∷ 39 ∷ rest) ≡ Some MultilineString = cond-true (begins is_quote rest) _ _ q in
    let same : Some MultilineString ≡ Some PlainString = sym at_quotes ∙ ap (λ t. opened_string (t ++ rest)) (sym is) ∙ e in
    cc)
may_string FormatString text rest e s = λ is.
    false_from_ne_true _ (λ q.
    let at_quotes : opened_string (102 ∷ 39 ∷ 39 ∷ rest) ≡ Some FormatMultilineString = ap (option_map formatted) (cond-true (begins is_quote rest) _ _ q) in
    let same : Some FormatMultilineString ≡ Some FormatString = sym at_quotes ∙ ap (λ t. opened_string (t ++ rest)) (sym is) ∙ e in
    cc)
may_string MultilineString text rest e s = tt
may_string FormatMultilineString text rest e s = tt
may_string _ text rest e s = absurd s.closed

-- no string is closed where there is no end to find
pub none_closed : (k : Kind) (bytes : List ℕ) → rest_len k (drop (length (opener k)) bytes) ≡ None → IsOpen k bytes
none_closed k bytes none text rest joins s =
    let dropped : drop (length (opener k)) bytes ≡ s.rest ++ rest = ap (drop (length (opener k))) (sym joins ∙ ap (λ t. t ++ rest) (sym s.joins) ∙ append_assoc (opener k) s.rest rest) ∙ drop_at (opener k) (s.rest ++ rest) _ refl in
    let closed = ap (rest_len k) dropped ∙ rest_closed k s.rest rest s.closed in
    absurd (cc)

-- the string at the front, of the length that is found
string_joins : (k : Kind) (bytes rest : List ℕ) → opener k ++ rest ≡ bytes → drop (length (opener k)) bytes ≡ rest
string_joins k bytes rest joins = ap (drop (length (opener k))) (sym joins) ∙ drop_at (opener k) rest _ refl

pub open_again : (at : ℕ) (k : Kind) (bytes : List ℕ) → opened_string bytes ≡ Some k → IsOpen k bytes → front at bytes ≡ unless_bare at (first_bare_return bytes) (Err (OpenString at))
unfolding string_front
open_again at k bytes opened not_closed =
    let o = opened_as bytes k opened in
    let dropped = string_joins k bytes o.0 o.1 in
    front_string at k bytes opened ∙ ap (quoted_front at k bytes) (ap (rest_len k) dropped ∙ none_found (rest_len k o.0) refl (rest_finds k o.0 o.2))
  where
    none_found : (r : Option ℕ) → rest_len k (opened_as bytes k opened).0 ≡ r → FindsFront (IsRestOf k) (opened_as bytes k opened).0 r → rest_len k (opened_as bytes k opened).0 ≡ None
    none_found None e h = e
    none_found (Some n) e h =
        let o = opened_as bytes k opened in
        absurd (not_closed (opener k ++ h.text) h.rest (append_assoc (opener k) h.text h.rest ∙ ap (λ l. opener k ++ l) h.joins ∙ o.1) (record { rest = h.text; joins = refl; closed = h.closed }))

-- ---- bare CRs

return_again : (at : ℕ) (rest : List ℕ) → begins_bare_return rest ≡ true → front at rest ≡ bare_at at
unfolding front plain line_front
return_again at [] h = absurd (false≢true h)
return_again at (b ∷ bs) h =
    let parts = and_parts (eqb b 13) (not (begins is_line_feed bs)) h in
    subst (λ x. front at (x ∷ bs) ≡ bare_at at) (sym (eqb-true b 13 parts.0)) (cond-false (begins is_line_feed bs) _ _ (not-true _ parts.1))

bare_line : (rest : List ℕ) → begins_bare_return rest ≡ true → begins is_line_byte rest ≡ true
bare_line [] h = absurd (false≢true h)
bare_line (b ∷ bs) h = ap is_line_byte (eqb-true b 13 (and_parts (eqb b 13) (not (begins is_line_feed bs)) h).0)

ends_comment : (rest : List ℕ) → begins_bare_return rest ≡ true → begins (λ c. not (is_line_byte c)) rest ≡ false
ends_comment [] h = refl
ends_comment (b ∷ bs) h = ap not (bare_line (b ∷ bs) h)

bare_after_backslash : (at n : ℕ) (rest : List ℕ) → begins_bare_return rest ≡ true → continuation_of at n rest ≡ bare_at (at + n)
bare_after_backslash at n [] h = absurd (false≢true h)
bare_after_backslash at n (b ∷ bs) h =
    let parts = and_parts (eqb b 13) (not (begins is_line_feed bs)) h in
    subst (λ x. continuation_of at n (x ∷ bs) ≡ bare_at (at + n)) (sym (eqb-true b 13 parts.0)) (cond-false (begins is_line_feed bs) _ _ (not-true _ parts.1))

pub bare_again : (at k : ℕ) (bytes : List ℕ) → HasBareReturn bytes k → front at bytes ≡ bare_at (at + k)
bare_again at k bytes (after_comment text rest joins (inl empty) bare place) =
    let is_rest : rest ≡ bytes = ap (λ t. t ++ rest) (sym empty) ∙ joins in
    let zero_is : at ≡ at + k = sym (add-zero at) ∙ ap (λ n. at + n) (sym (place ∙ ap length empty)) in
    subst (λ l. front at l ≡ bare_at (at + k)) is_rest (return_again at rest bare ∙ ap bare_at zero_is)
bare_again at k bytes (after_comment text rest joins (inr comment) bare place) =
    subst (λ l. front at l ≡ bare_at (at + k)) joins
    (front_comment at text rest comment (ends_comment rest bare) ∙ cond-true (begins_bare_return rest) _ _ bare ∙ ap (λ n. bare_at (at + n)) (sym place))
bare_again at k bytes (after_backslash blanks note rest joins all which bare place) =
    subst (λ l. front at l ≡ bare_at (at + k)) joins
    (front_backslash_reads at blanks note rest all which (bare_line rest bare) ∙ bare_after_backslash at _ rest bare ∙ ap (λ n. bare_at (at + n)) (sym place))
bare_again at k bytes (in_string kind text rest joins s bare) =
    subst (λ l. front at l ≡ bare_at (at + k)) joins
    (string_again at kind text rest s (not_empty kind text rest k s bare) ∙ ap (λ o. unless_bare at o (found kind (length text))) bare)
bare_again at k bytes (in_open kind opened not_closed bare) =
    open_again at kind bytes opened not_closed ∙ ap (λ o. unless_bare at o (Err (OpenString at))) bare

-- what opens a string lies within the text
pub opened_within : (bytes : List ℕ) (k : Kind) → Some k ≡ opened_string bytes → length (opener k) ≤ length bytes
opened_within bytes k e =
    let o = opened_as bytes k (sym e) in
    omega (arith, ap length o.1, length-append (opener k) o.0)
