-- An item at the front of a text is what `front` finds there.
use Rattle.std.proofs.Common.{◌≡◌, ℕ, ◌+◌, ◌≤◌, Bool, true, false, cond, not, eqb, ◌&&◌, ◌||◌, List, [], ◌∷◌, ◌++◌, length, take, drop, Some, None, Ok, Err, sym, refl, ap, ◌∙◌, subst, arith, ⊎_elim, inl, inr, append_assoc, length-append}
use Rattle.std.specs.Prelude.{codes, bytes_eq, ◌⊎◌, option_map, nat_le}
use Rattle.std.specs.List.{list_all}
use Rattle.std.proofs.lemmas.Bool.{cond-true, cond-false, and_from, and_left, and_right, and_parts, or_from, or_left, or_right, or_cases, eq-eqb, eqb-true, ne_eqb, leb-true, le-leb, lt-leb, false≢true, false_from_ne_true, cases_Bool}
use Rattle.std.proofs.lemmas.Slice.Eq.{bytes_eq-Decides}
use Rattle.std.proofs.lemmas.List.{take_at, drop_at}
use Rattle.meson_lex.specs.declared.kinds.Kind.{Kind}
use Rattle.meson_lex.specs.declared.kinds.Kind.TheVariants.{Blank, LineEnd, Comment, Continuation, Identifier, WordTrue, WordFalse, WordIf, WordElif, WordElse, WordEndif, WordAnd, WordOr, WordNot, WordIn, WordForeach, WordEndforeach, WordBreak, WordContinue, Integer, PlainString, MultilineString, FormatString, FormatMultilineString, OpenRound, CloseRound, OpenSquare, CloseSquare, OpenCurly, CloseCurly, Comma, Dot, Colon, Question, Minus, Star, Slash, Percent, Plus, Assign, Less, Greater, PlusAssign, Equal, NotEqual, LessEqual, GreaterEqual}
use Rattle.meson_lex.specs.declared.fault.LexFault.TheVariants.{BadNumber}
use Rattle.meson_lex.specs.Bytes.{is_blank, is_line_byte, is_digit, is_hexadecimal, is_octal, is_binary, is_word_start, is_word_byte, is_quote, is_equals, begins, begins_two, begins_three_quotes, begins_bare_return, first_bare_return}
use Rattle.meson_lex.specs.Kinds.{is_run, is_after_zero, is_integer, IsRun, IsLineEnd, IsComment, IsWord, IsContinuation, IsQuotedRest, IsTripledRest, IsString, opener, spelling, reserved, IsNoneOf, OfKind}
use Rattle.meson_lex.specs.Neighbours.{MayStand}
use Rattle.meson_lex.specs.Faults.{opened_string, quote_kind, formatted}
use Rattle.meson_lex.specs.Scan.{Front, kind_among, word_kind, word_front, number_front, comment_of, comment_front, comment_len, continuation_of, continuation_front, unless_bare, quoted_front, string_front, plain_mark, equal_mark, plain_front, equal_front, mark_front, line_front, plain, front_of, front, rest_len}
use Rattle.meson_lex.proofs.Runs.{run_stops}
use Rattle.meson_lex.proofs.StringEnds.{rest_closed}

abbrev pub found : Kind → ℕ → Front
found k n = Ok (k, n)

-- a byte that passes a test is none that fails it
pub apart : (test : ℕ → Bool) (b n : ℕ) → test b ≡ true → test n ≡ false → eqb b n ≡ false
apart test b n passes fails = ne_eqb b n (λ e. false≢true (sym fails ∙ ap test (sym e) ∙ passes))

-- no string is opened
pub quote_kind_none : (bs : List ℕ) → begins is_quote bs ≡ false → quote_kind bs ≡ None
quote_kind_none [] h = refl
quote_kind_none (b ∷ bs) h = cond-false (begins_three_quotes (b ∷ bs)) _ _ (and_left _ _ h) ∙ cond-false (is_quote b) _ _ h

pub opens_none : (b : ℕ) (bs : List ℕ) → eqb b 102 ≡ false → eqb b 39 ≡ false → opened_string (b ∷ bs) ≡ None
opens_none b bs f q = cond-false (eqb b 102) _ _ f ∙ quote_kind_none (b ∷ bs) q

pub front_plain : (at b : ℕ) (bs : List ℕ) → opened_string (b ∷ bs) ≡ None → front at (b ∷ bs) ≡ plain at b bs
unfolding front
front_plain at b bs none = ap (front_of at b bs) none

-- a string is opened
pub front_string : (at : ℕ) (k : Kind) (bytes : List ℕ) → opened_string bytes ≡ Some k → front at bytes ≡ string_front at k bytes
unfolding front
front_string at k [] e = absurd (cc)
front_string at k (b ∷ bs) e = ap (front_of at b bs) e

pub front_blank : (at : ℕ) (text rest : List ℕ) → IsRun is_blank text → begins is_blank rest ≡ false → front at (text ++ rest) ≡ found Blank (length text)
unfolding plain
front_blank at [] rest run stop = absurd run
front_blank at (b ∷ bs) rest run stop =
    front_plain at b (bs ++ rest) (opens_none b (bs ++ rest) (apart is_blank b 102 run.0 refl) (apart is_blank b 39 run.0 refl))
    ∙ cond-true (is_blank b) _ _ run.0 ∙ ap (found Blank) (run_stops is_blank (b ∷ bs) rest (and_from _ _ run.0 run.1) stop)

pub front_line_end : (at : ℕ) (text rest : List ℕ) → IsLineEnd text → front at (text ++ rest) ≡ found LineEnd (length text)
unfolding plain front line_front
front_line_end at text rest h =
    let P : List ℕ → Type 0 = λ t. front at (t ++ rest) ≡ found LineEnd (length t) in
    ⊎_elim (λ e. subst P (sym e) refl) (λ e. subst P (sym e) refl) h

-- `f` before a quote is no word
word_opens : (text rest : List ℕ) → IsWord text → (text ≡ codes "f" → begins is_quote rest ≡ false) → opened_string (text ++ rest) ≡ None
word_opens [] rest word f = absurd word
word_opens (b ∷ []) rest word f =
    ⊎_elim
    (λ is. subst (λ x. opened_string (x ∷ rest) ≡ None) (sym (eqb-true b 102 is)) (ap (option_map formatted) (quote_kind_none rest (f (ap (λ x. x ∷ []) (eqb-true b 102 is))))))
    (λ other. opens_none b rest other (apart is_word_start b 39 word.0 refl))
    (cases_Bool (eqb b 102))
word_opens (b ∷ c ∷ cs) rest word f =
    let c_word = (and_parts (is_word_byte c) (list_all is_word_byte cs) word.1).0 in
    ⊎_elim
    (λ is. subst (λ x. opened_string (x ∷ c ∷ (cs ++ rest)) ≡ None) (sym (eqb-true b 102 is)) (ap (option_map formatted) (quote_kind_none (c ∷ (cs ++ rest)) (apart is_word_byte c 39 c_word refl))))
    (λ other. opens_none b (c ∷ (cs ++ rest)) other (apart is_word_start b 39 word.0 refl))
    (cases_Bool (eqb b 102))

pub front_word : (at : ℕ) (text rest : List ℕ) → IsWord text → begins is_word_byte rest ≡ false → (text ≡ codes "f" → begins is_quote rest ≡ false) → front at (text ++ rest) ≡ found (word_kind text) (length text)
unfolding plain word_front
front_word at [] rest word stop f = absurd word
front_word at (b ∷ bs) rest word stop f =
    let bytes = (b ∷ bs) ++ rest in
    let blank : is_blank b ≡ false = or_from _ _ (apart is_word_start b 32 word.0 refl) (apart is_word_start b 9 word.0 refl) in
    let line : is_line_byte b ≡ false = or_from _ _ (apart is_word_start b 10 word.0 refl) (apart is_word_start b 13 word.0 refl) in
    let n_is = run_stops is_word_byte (b ∷ bs) rest (and_from _ _ (or_left _ _ word.0) word.1) stop in
    let P : ℕ → Type 0 = λ n. found (word_kind (take n bytes)) n ≡ found (word_kind (b ∷ bs)) (length (b ∷ bs)) in
    front_plain at b (bs ++ rest) (word_opens (b ∷ bs) rest word f)
    ∙ cond-false (is_blank b) _ _ blank ∙ cond-false (is_line_byte b) _ _ line ∙ cond-false (eqb b 35) _ _ (apart is_word_start b 35 word.0 refl) ∙ cond-false (eqb b 92) _ _ (apart is_word_start b 92 word.0 refl) ∙ cond-true (is_word_start b) _ _ word.0
    ∙ subst P (sym n_is) (ap (λ t. found (word_kind t) (length (b ∷ bs))) (take_at (b ∷ bs) rest _ refl))

-- ---- integers

all_from : (p q : ℕ → Bool) → ((b : ℕ) → p b ≡ true → q b ≡ true) → (bs : List ℕ) → list_all p bs ≡ true → list_all q bs ≡ true
all_from p q each [] h = refl
all_from p q each (b ∷ bs) h = let parts = and_parts (p b) (list_all p bs) h in and_from _ _ (each b parts.0) (all_from p q each bs parts.1)

run_from : (p q : ℕ → Bool) → ((b : ℕ) → p b ≡ true → q b ≡ true) → (bs : List ℕ) → is_run p bs ≡ true → list_all q bs ≡ true
run_from p q each [] h = refl
run_from p q each (b ∷ bs) h = let parts = and_parts (p b) (list_all p bs) h in and_from _ _ (each b parts.0) (all_from p q each bs parts.1)

-- within narrower bounds is within wider ones
between_wider : (a c m n b : ℕ) → m ≤ a → c ≤ n → (nat_le a b && nat_le b c) ≡ true → (nat_le m b && nat_le b n) ≡ true
between_wider a c m n b low high h =
    let parts = and_parts _ _ h in
    let from = leb-true a b parts.0 in
    let to = leb-true b c parts.1 in
    and_from _ _ (le-leb m b (omega arith)) (le-leb b n (omega arith))

pub digit_word : (b : ℕ) → is_digit b ≡ true → is_word_byte b ≡ true
digit_word b h = or_right (is_word_start b) (is_digit b) h

hex_word : (b : ℕ) → is_hexadecimal b ≡ true → is_word_byte b ≡ true
hex_word b h =
    ⊎_elim
    (λ l. ⊎_elim (digit_word b) (λ a. or_left _ _ (or_left _ _ (or_left _ _ (between_wider 97 102 97 122 b (omega arith) (omega arith) a)))) (or_cases _ _ l))
    (λ a. or_left _ _ (or_left _ _ (or_right _ _ (between_wider 65 70 65 90 b (omega arith) (omega arith) a))))
    (or_cases _ _ h)

octal_word : (b : ℕ) → is_octal b ≡ true → is_word_byte b ≡ true
octal_word b h = digit_word b (between_wider 48 55 48 57 b (omega arith) (omega arith) h)

binary_word : (b : ℕ) → is_binary b ≡ true → is_word_byte b ≡ true
binary_word b h = digit_word b (between_wider 48 49 48 57 b (omega arith) (omega arith) h)

-- one of two letters
letter_word : (c m n : ℕ) → is_word_byte m ≡ true → is_word_byte n ≡ true → (eqb c m || eqb c n) ≡ true → is_word_byte c ≡ true
letter_word c m n wm wn h = ⊎_elim (λ e. ap is_word_byte (eqb-true c m e) ∙ wm) (λ e. ap is_word_byte (eqb-true c n e) ∙ wn) (or_cases _ _ h)

after_zero_word : (bs : List ℕ) → is_after_zero bs ≡ true → list_all is_word_byte bs ≡ true
after_zero_word [] h = refl
after_zero_word (c ∷ ds) h =
    ⊎_elim
    (λ l. ⊎_elim
    (λ x. let p = and_parts _ _ x in and_from _ _ (letter_word c 120 88 refl refl p.0) (run_from is_hexadecimal is_word_byte hex_word ds p.1))
    (λ o. let p = and_parts _ _ o in and_from _ _ (letter_word c 111 79 refl refl p.0) (run_from is_octal is_word_byte octal_word ds p.1))
    (or_cases _ _ l))
    (λ b. let p = and_parts _ _ b in and_from _ _ (letter_word c 98 66 refl refl p.0) (run_from is_binary is_word_byte binary_word ds p.1))
    (or_cases _ _ h)

-- an integer begins with a digit, and has bytes of words alone
pub integer_parts : (b : ℕ) (bs : List ℕ) → is_integer (b ∷ bs) ≡ true → (is_digit b ≡ true) × (list_all is_word_byte bs ≡ true)
integer_parts b bs h =
    ⊎_elim
    (λ z. let p = and_parts _ _ z in (ap is_digit (eqb-true b 48 p.0), after_zero_word bs p.1))
    (λ d. let p = and_parts _ _ d in (between_wider 49 57 48 57 b (omega arith) (omega arith) p.0, all_from is_digit is_word_byte digit_word bs p.1))
    (or_cases _ _ h)

pub digit_no_start : (b : ℕ) → is_digit b ≡ true → is_word_start b ≡ false
digit_no_start b h =
    let high : b ≤ 57 = leb-true b 57 (and_parts (nat_le 48 b) (nat_le b 57) h).1 in
    or_from _ _ (or_from _ _ (and_left _ _ (lt-leb 97 b (omega arith))) (and_left _ _ (lt-leb 65 b (omega arith)))) (apart is_digit b 95 h refl)

-- a number is read up to the end of its run
pub front_digit : (at b : ℕ) (bs : List ℕ) → is_digit b ≡ true → front at (b ∷ bs) ≡ number_front at (b ∷ bs)
unfolding plain
front_digit at b bs h =
    front_plain at b bs (opens_none b bs (apart is_digit b 102 h refl) (apart is_digit b 39 h refl))
    ∙ cond-false (is_blank b) _ _ (or_from _ _ (apart is_digit b 32 h refl) (apart is_digit b 9 h refl))
    ∙ cond-false (is_line_byte b) _ _ (or_from _ _ (apart is_digit b 10 h refl) (apart is_digit b 13 h refl))
    ∙ cond-false (eqb b 35) _ _ (apart is_digit b 35 h refl) ∙ cond-false (eqb b 92) _ _ (apart is_digit b 92 h refl)
    ∙ cond-false (is_word_start b) _ _ (digit_no_start b h) ∙ cond-true (is_digit b) _ _ h

pub front_integer : (at : ℕ) (text rest : List ℕ) → is_integer text ≡ true → begins is_word_byte rest ≡ false → front at (text ++ rest) ≡ found Integer (length text)
unfolding number_front
front_integer at [] rest is stop = absurd (false≢true is)
front_integer at (b ∷ bs) rest is stop =
    let bytes = (b ∷ bs) ++ rest in
    let parts = integer_parts b bs is in
    let n_is = run_stops is_word_byte (b ∷ bs) rest (and_from _ _ (digit_word b parts.0) parts.1) stop in
    let taken : take (length (b ∷ bs)) bytes ≡ b ∷ bs = take_at (b ∷ bs) rest _ refl in
    let P : ℕ → Type 0 = λ n. cond (is_integer (take n bytes)) (found Integer n) (Err (BadNumber at)) ≡ found Integer (length (b ∷ bs)) in
    front_digit at b (bs ++ rest) parts.0 ∙ subst P (sym n_is) (cond-true (is_integer (take (length (b ∷ bs)) bytes)) _ _ (ap is_integer taken ∙ is))

-- ---- comments and continuations

pub front_comment : (at : ℕ) (text rest : List ℕ) → IsComment text → begins (λ c. not (is_line_byte c)) rest ≡ false → front at (text ++ rest) ≡ comment_of at (length text) rest
unfolding front plain comment_front
front_comment at [] rest comment stop = absurd comment
front_comment at (b ∷ bs) rest comment stop =
    let n_is = run_stops (λ c. not (is_line_byte c)) (35 ∷ bs) rest comment.1 stop in
    let P : ℕ → Type 0 = λ n. comment_of at n (drop n (35 ∷ (bs ++ rest))) ≡ comment_of at (length (35 ∷ bs)) rest in
    let Q : ℕ → Type 0 = λ x. front at (x ∷ (bs ++ rest)) ≡ comment_of at (length (x ∷ bs)) rest in
    subst Q (sym comment.0) (subst P (sym n_is) (ap (comment_of at (length (35 ∷ bs))) (drop_at (35 ∷ bs) rest _ refl)))

-- nothing that may follow a comment would make it longer
after_comment : (rest : List ℕ) → (rest ≡ []) ⊎ ((begins is_line_byte rest ≡ true) × (begins_bare_return rest ≡ false)) → (begins (λ c. not (is_line_byte c)) rest ≡ false) × (begins_bare_return rest ≡ false)
after_comment [] h = (refl, refl)
after_comment (b ∷ bs) h = ⊎_elim (λ e. absurd (cc)) (λ p. (ap not p.0, p.1)) h

line_no_blank : (note tail : List ℕ) → (note ≡ []) ⊎ IsComment note → begins is_line_byte tail ≡ true → begins is_blank (note ++ tail) ≡ false
line_no_blank [] [] which line = refl
line_no_blank [] (c ∷ cs) which line = or_from _ _ (apart is_line_byte c 32 line refl) (apart is_line_byte c 9 line refl)
line_no_blank (b ∷ bs) tail which line = ⊎_elim (λ e. absurd (cc)) (λ comment. ap is_blank comment.0) which

line_ends_note : (tail : List ℕ) → begins is_line_byte tail ≡ true → begins (λ c. not (is_line_byte c)) tail ≡ false
line_ends_note [] line = refl
line_ends_note (c ∷ cs) line = ap not line

note_reads : (note tail : List ℕ) → (note ≡ []) ⊎ IsComment note → begins is_line_byte tail ≡ true → comment_len (note ++ tail) ≡ length note
note_reads [] [] which line = refl
note_reads [] (c ∷ cs) which line = cond-false (eqb c 35) _ _ (apart is_line_byte c 35 line refl)
note_reads (b ∷ bs) tail which line =
    ⊎_elim (λ e. absurd (cc))
    (λ comment. cond-true (eqb b 35) _ _ (eq-eqb b 35 comment.0) ∙ run_stops (λ c. not (is_line_byte c)) (b ∷ bs) tail (and_from _ _ (ap (λ c. not (is_line_byte c)) comment.0) comment.1) (line_ends_note tail line))
    which

pub continuation_reads : (at : ℕ) (blanks note tail : List ℕ) → list_all is_blank blanks ≡ true → (note ≡ []) ⊎ IsComment note → begins is_line_byte tail ≡ true → continuation_front at (blanks ++ (note ++ tail)) ≡ continuation_of at (1 + (length blanks + length note)) tail
unfolding continuation_front
continuation_reads at blanks note tail all which line =
    let bs : List ℕ = blanks ++ (note ++ tail) in
    let m_is = run_stops is_blank blanks (note ++ tail) all (line_no_blank note tail which line) in
    let P : ℕ → Type 0 = λ m. continuation_of at (1 + (m + comment_len (drop m bs))) (drop (comment_len (drop m bs)) (drop m bs)) ≡ continuation_of at (1 + (length blanks + length note)) tail in
    let Q : List ℕ → Type 0 = λ l. continuation_of at (1 + (length blanks + comment_len l)) (drop (comment_len l) l) ≡ continuation_of at (1 + (length blanks + length note)) tail in
    let R : ℕ → Type 0 = λ n. continuation_of at (1 + (length blanks + n)) (drop n (note ++ tail)) ≡ continuation_of at (1 + (length blanks + length note)) tail in
    subst P (sym m_is) (subst Q (sym (drop_at blanks (note ++ tail) _ refl)) (subst R (sym (note_reads note tail which line)) (ap (continuation_of at (1 + (length blanks + length note))) (drop_at note tail _ refl))))

front_backslash : (at : ℕ) (bs : List ℕ) → front at (92 ∷ bs) ≡ continuation_front at bs
unfolding front plain
front_backslash at bs = refl

-- the end of a continuation
line_begins : (end rest : List ℕ) → IsLineEnd end → begins is_line_byte (end ++ rest) ≡ true
line_begins end rest h =
    let P : List ℕ → Type 0 = λ t. begins is_line_byte (t ++ rest) ≡ true in
    ⊎_elim (λ e. subst P (sym e) refl) (λ e. subst P (sym e) refl) h

line_closes : (at n : ℕ) (end rest : List ℕ) → IsLineEnd end → continuation_of at n (end ++ rest) ≡ found Continuation (n + length end)
line_closes at n end rest h =
    let P : List ℕ → Type 0 = λ t. continuation_of at n (t ++ rest) ≡ found Continuation (n + length t) in
    ⊎_elim (λ e. subst P (sym e) refl) (λ e. subst P (sym e) refl) h

pub front_backslash_reads : (at : ℕ) (blanks note tail : List ℕ) → list_all is_blank blanks ≡ true → (note ≡ []) ⊎ IsComment note → begins is_line_byte tail ≡ true → front at (92 ∷ (blanks ++ (note ++ tail))) ≡ continuation_of at (1 + (length blanks + length note)) tail
front_backslash_reads at blanks note tail all which line = front_backslash at (blanks ++ (note ++ tail)) ∙ continuation_reads at blanks note tail all which line

pub front_continuation : (at : ℕ) (text rest : List ℕ) → IsContinuation text → front at (text ++ rest) ≡ found Continuation (length text)
front_continuation at text rest s =
    let regroup : (s.blanks ++ (s.note ++ s.end)) ++ rest ≡ s.blanks ++ (s.note ++ (s.end ++ rest)) = append_assoc s.blanks (s.note ++ s.end) rest ∙ ap (λ l. s.blanks ++ l) (append_assoc s.note s.end rest) in
    let len : 1 + (length s.blanks + length s.note) + length s.end ≡ length (92 ∷ (s.blanks ++ (s.note ++ s.end))) = omega (arith, length-append s.blanks (s.note ++ s.end), length-append s.note s.end) in
    subst (λ t. front at (t ++ rest) ≡ found Continuation (length t)) s.joins
    (ap (λ l. front at (92 ∷ l)) regroup ∙ front_backslash_reads at s.blanks s.note (s.end ++ rest) s.all_blank s.is_note (line_begins s.end rest s.is_end) ∙ line_closes at _ s.end rest s.is_end ∙ ap (found Continuation) len)

-- ---- strings

-- the end of a string of one quote is not two quotes more
no_two : (r rest : List ℕ) → IsQuotedRest r → (r ≡ 39 ∷ [] → begins is_quote rest ≡ false) → begins_two is_quote (r ++ rest) ≡ false
no_two [] rest closed may = absurd closed
no_two (c ∷ []) rest closed may = and_right _ _ (may (ap (λ x. x ∷ []) closed))
no_two (c ∷ d ∷ es) rest closed may =
    and_left _ _ (⊎_elim (λ e. ap is_quote e.0) (λ o. ne_eqb c 39 o.0) closed)

text_opens : (r rest : List ℕ) → IsQuotedRest r → (r ≡ 39 ∷ [] → begins is_quote rest ≡ false) → quote_kind (39 ∷ (r ++ rest)) ≡ Some PlainString
text_opens r rest closed may = cond-false (begins_two is_quote (r ++ rest)) _ _ (no_two r rest closed may)

-- what follows the empty string, for a string of the kind
abbrev pub NoQuoteAfterEmpty : Kind → List ℕ → List ℕ → Type 0
NoQuoteAfterEmpty k text rest = text ≡ opener k ++ 39 ∷ [] → begins is_quote rest ≡ false

pub opens_string : (k : Kind) (text rest : List ℕ) → IsString k text → NoQuoteAfterEmpty k text rest → opened_string (text ++ rest) ≡ Some k
opens_string PlainString text rest s may =
    subst (λ t. opened_string (t ++ rest) ≡ Some PlainString) s.joins (text_opens s.rest rest s.closed (λ e. may (sym s.joins ∙ ap (λ r. 39 ∷ r) e)))
opens_string FormatString text rest s may =
    subst (λ t. opened_string (t ++ rest) ≡ Some FormatString) s.joins (ap (option_map formatted) (text_opens s.rest rest s.closed (λ e. may (sym s.joins ∙ ap (λ r. 102 ∷ 39 ∷ r) e))))
opens_string MultilineString text rest s may = subst (λ t. opened_string (t ++ rest) ≡ Some MultilineString) s.joins refl
opens_string FormatMultilineString text rest s may = subst (λ t. opened_string (t ++ rest) ≡ Some FormatMultilineString) s.joins refl
opens_string _ text rest s may = absurd s.closed

-- a closed string is found, or its first bare CR
pub string_again : (at : ℕ) (k : Kind) (text rest : List ℕ) → IsString k text → NoQuoteAfterEmpty k text rest → front at (text ++ rest) ≡ unless_bare at (first_bare_return text) (found k (length text))
unfolding string_front
string_again at k text rest s may =
    let bytes : List ℕ = text ++ rest in
    let regroup : bytes ≡ opener k ++ (s.rest ++ rest) = ap (λ t. t ++ rest) (sym s.joins) ∙ append_assoc (opener k) s.rest rest in
    let dropped : drop (length (opener k)) bytes ≡ s.rest ++ rest = ap (drop (length (opener k))) regroup ∙ drop_at (opener k) (s.rest ++ rest) _ refl in
    let len : length text ≡ length (opener k) + length s.rest = ap length (sym s.joins) ∙ length-append (opener k) s.rest in
    front_string at k bytes (opens_string k text rest s may)
    ∙ ap (quoted_front at k bytes) (ap (rest_len k) dropped ∙ rest_closed k s.rest rest s.closed)
    ∙ ap (λ n. unless_bare at (first_bare_return (take n bytes)) (found k n)) (sym len)
    ∙ ap (λ t. unless_bare at (first_bare_return t) (found k (length text))) (take_at text rest _ refl)

string_found : (at : ℕ) (k : Kind) (text rest : List ℕ) → IsString k text → NoQuoteAfterEmpty k text rest → first_bare_return text ≡ None → front at (text ++ rest) ≡ found k (length text)
string_found at k text rest s may bare = string_again at k text rest s may ∙ ap (λ o. unless_bare at o (found k (length text))) bare

-- three quotes are no empty string
multi_may : (k : Kind) (text rest : List ℕ) → IsTripledRest (39 ∷ []) → ⊥
multi_may k text rest h = ⊎_elim (λ e. absurd (cc)) (λ p. p.1) h

-- a word that is not reserved
pub word_kind_none : (ks : List Kind) (text : List ℕ) → IsNoneOf ks text → kind_among ks text ≡ Identifier
word_kind_none [] text none = refl
word_kind_none (k ∷ ks) text none =
    cond-false (bytes_eq text (spelling k)) _ _ (false_from_ne_true _ (λ same. none.0 ((bytes_eq-Decides text (spelling k)).0 same))) ∙ word_kind_none ks text none.1

-- a mark by itself
mark_plain : (at b : ℕ) (k : Kind) (rest : List ℕ) → opened_string (b ∷ rest) ≡ None → plain at b rest ≡ mark_front at b rest → plain_mark b ≡ Some k → (equal_mark b ≡ None) ⊎ (begins is_equals rest ≡ false) → front at (b ∷ rest) ≡ found k 1
unfolding mark_front
mark_plain at b k rest none is mark which =
    front_plain at b rest none ∙ is
    ∙ ⊎_elim
    (λ e. cond_same (begins is_equals rest) _ _ (ap (equal_front at b) e) ∙ ap (plain_front at) mark)
    (λ e. cond-false (begins is_equals rest) _ _ e ∙ ap (plain_front at) mark)
    which
  where
    cond_same : (t : Bool) (x y : Front) → x ≡ y → cond t x y ≡ y
    cond_same true x y e = e
    cond_same false x y e = refl

-- an item that may stand before the rest is what is found
pub front_again : (at : ℕ) (k : Kind) (text rest : List ℕ) → OfKind k text → first_bare_return text ≡ None → MayStand k text rest → front at (text ++ rest) ≡ found k (length text)
unfolding plain front mark_front
front_again at Blank text rest is bare may = front_blank at text rest is may
front_again at LineEnd text rest is bare may = front_line_end at text rest is
front_again at Comment text rest is bare may =
    let follows = after_comment rest may in
    front_comment at text rest is follows.0 ∙ cond-false (begins_bare_return rest) _ _ follows.1
front_again at Continuation text rest is bare may = front_continuation at text rest is
front_again at Identifier text rest is bare may =
    front_word at text rest is.0 may.0 may.1 ∙ ap (λ k. found k (length text)) (word_kind_none reserved text is.1)
front_again at Integer text rest is bare may = front_integer at text rest is may
front_again at PlainString text rest is bare may = string_found at PlainString text rest is may bare
front_again at FormatString text rest is bare may = string_found at FormatString text rest is may bare
front_again at MultilineString text rest is bare may = string_found at MultilineString text rest is (λ e. absurd (no_empty_multi is e)) bare
  where
    no_empty_multi : IsString MultilineString text → text ≡ opener MultilineString ++ 39 ∷ [] → ⊥
    no_empty_multi s e = multi_may MultilineString text rest (subst IsTripledRest (ap (drop 3) (s.joins ∙ e)) s.closed)
front_again at FormatMultilineString text rest is bare may = string_found at FormatMultilineString text rest is (λ e. absurd (no_empty_multi is e)) bare
  where
    no_empty_multi : IsString FormatMultilineString text → text ≡ opener FormatMultilineString ++ 39 ∷ [] → ⊥
    no_empty_multi s e = multi_may MultilineString text rest (subst IsTripledRest (ap (drop 4) (s.joins ∙ e)) s.closed)
front_again at OpenRound text rest is bare may = subst (λ t. front at (t ++ rest) ≡ found OpenRound (length t)) (sym is) (mark_plain at 40 OpenRound rest refl refl refl (inl refl))
front_again at CloseRound text rest is bare may = subst (λ t. front at (t ++ rest) ≡ found CloseRound (length t)) (sym is) (mark_plain at 41 CloseRound rest refl refl refl (inl refl))
front_again at OpenSquare text rest is bare may = subst (λ t. front at (t ++ rest) ≡ found OpenSquare (length t)) (sym is) (mark_plain at 91 OpenSquare rest refl refl refl (inl refl))
front_again at CloseSquare text rest is bare may = subst (λ t. front at (t ++ rest) ≡ found CloseSquare (length t)) (sym is) (mark_plain at 93 CloseSquare rest refl refl refl (inl refl))
front_again at OpenCurly text rest is bare may = subst (λ t. front at (t ++ rest) ≡ found OpenCurly (length t)) (sym is) (mark_plain at 123 OpenCurly rest refl refl refl (inl refl))
front_again at CloseCurly text rest is bare may = subst (λ t. front at (t ++ rest) ≡ found CloseCurly (length t)) (sym is) (mark_plain at 125 CloseCurly rest refl refl refl (inl refl))
front_again at Comma text rest is bare may = subst (λ t. front at (t ++ rest) ≡ found Comma (length t)) (sym is) (mark_plain at 44 Comma rest refl refl refl (inl refl))
front_again at Dot text rest is bare may = subst (λ t. front at (t ++ rest) ≡ found Dot (length t)) (sym is) (mark_plain at 46 Dot rest refl refl refl (inl refl))
front_again at Colon text rest is bare may = subst (λ t. front at (t ++ rest) ≡ found Colon (length t)) (sym is) (mark_plain at 58 Colon rest refl refl refl (inl refl))
front_again at Question text rest is bare may = subst (λ t. front at (t ++ rest) ≡ found Question (length t)) (sym is) (mark_plain at 63 Question rest refl refl refl (inl refl))
front_again at Minus text rest is bare may = subst (λ t. front at (t ++ rest) ≡ found Minus (length t)) (sym is) (mark_plain at 45 Minus rest refl refl refl (inl refl))
front_again at Star text rest is bare may = subst (λ t. front at (t ++ rest) ≡ found Star (length t)) (sym is) (mark_plain at 42 Star rest refl refl refl (inl refl))
front_again at Slash text rest is bare may = subst (λ t. front at (t ++ rest) ≡ found Slash (length t)) (sym is) (mark_plain at 47 Slash rest refl refl refl (inl refl))
front_again at Percent text rest is bare may = subst (λ t. front at (t ++ rest) ≡ found Percent (length t)) (sym is) (mark_plain at 37 Percent rest refl refl refl (inl refl))
front_again at Plus text rest is bare may = subst (λ t. front at (t ++ rest) ≡ found Plus (length t)) (sym is) (mark_plain at 43 Plus rest refl refl refl (inr may))
front_again at Assign text rest is bare may = subst (λ t. front at (t ++ rest) ≡ found Assign (length t)) (sym is) (mark_plain at 61 Assign rest refl refl refl (inr may))
front_again at Less text rest is bare may = subst (λ t. front at (t ++ rest) ≡ found Less (length t)) (sym is) (mark_plain at 60 Less rest refl refl refl (inr may))
front_again at Greater text rest is bare may = subst (λ t. front at (t ++ rest) ≡ found Greater (length t)) (sym is) (mark_plain at 62 Greater rest refl refl refl (inr may))
front_again at PlusAssign text rest is bare may = subst (λ t. front at (t ++ rest) ≡ found PlusAssign (length t)) (sym is) refl
front_again at Equal text rest is bare may = subst (λ t. front at (t ++ rest) ≡ found Equal (length t)) (sym is) refl
front_again at NotEqual text rest is bare may = subst (λ t. front at (t ++ rest) ≡ found NotEqual (length t)) (sym is) refl
front_again at LessEqual text rest is bare may = subst (λ t. front at (t ++ rest) ≡ found LessEqual (length t)) (sym is) refl
front_again at GreaterEqual text rest is bare may = subst (λ t. front at (t ++ rest) ≡ found GreaterEqual (length t)) (sym is) refl
front_again at WordTrue text rest is bare may = subst (λ t. front at (t ++ rest) ≡ found WordTrue (length t)) (sym is) (front_word at (codes "true") rest (refl, refl) may (λ e. absurd (cc)))
front_again at WordFalse text rest is bare may = subst (λ t. front at (t ++ rest) ≡ found WordFalse (length t)) (sym is) (front_word at (codes "false") rest (refl, refl) may (λ e. absurd (cc)))
front_again at WordIf text rest is bare may = subst (λ t. front at (t ++ rest) ≡ found WordIf (length t)) (sym is) (front_word at (codes "if") rest (refl, refl) may (λ e. absurd (cc)))
front_again at WordElif text rest is bare may = subst (λ t. front at (t ++ rest) ≡ found WordElif (length t)) (sym is) (front_word at (codes "elif") rest (refl, refl) may (λ e. absurd (cc)))
front_again at WordElse text rest is bare may = subst (λ t. front at (t ++ rest) ≡ found WordElse (length t)) (sym is) (front_word at (codes "else") rest (refl, refl) may (λ e. absurd (cc)))
front_again at WordEndif text rest is bare may = subst (λ t. front at (t ++ rest) ≡ found WordEndif (length t)) (sym is) (front_word at (codes "endif") rest (refl, refl) may (λ e. absurd (cc)))
front_again at WordAnd text rest is bare may = subst (λ t. front at (t ++ rest) ≡ found WordAnd (length t)) (sym is) (front_word at (codes "and") rest (refl, refl) may (λ e. absurd (cc)))
front_again at WordOr text rest is bare may = subst (λ t. front at (t ++ rest) ≡ found WordOr (length t)) (sym is) (front_word at (codes "or") rest (refl, refl) may (λ e. absurd (cc)))
front_again at WordNot text rest is bare may = subst (λ t. front at (t ++ rest) ≡ found WordNot (length t)) (sym is) (front_word at (codes "not") rest (refl, refl) may (λ e. absurd (cc)))
front_again at WordIn text rest is bare may = subst (λ t. front at (t ++ rest) ≡ found WordIn (length t)) (sym is) (front_word at (codes "in") rest (refl, refl) may (λ e. absurd (cc)))
front_again at WordForeach text rest is bare may = subst (λ t. front at (t ++ rest) ≡ found WordForeach (length t)) (sym is) (front_word at (codes "foreach") rest (refl, refl) may (λ e. absurd (cc)))
front_again at WordEndforeach text rest is bare may = subst (λ t. front at (t ++ rest) ≡ found WordEndforeach (length t)) (sym is) (front_word at (codes "endforeach") rest (refl, refl) may (λ e. absurd (cc)))
front_again at WordBreak text rest is bare may = subst (λ t. front at (t ++ rest) ≡ found WordBreak (length t)) (sym is) (front_word at (codes "break") rest (refl, refl) may (λ e. absurd (cc)))
front_again at WordContinue text rest is bare may = subst (λ t. front at (t ++ rest) ≡ found WordContinue (length t)) (sym is) (front_word at (codes "continue") rest (refl, refl) may (λ e. absurd (cc)))
